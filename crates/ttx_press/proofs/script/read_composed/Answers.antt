use Rattle.std.proofs.Common.{◌∙◌, string_bytes, ap, refl, sym}
use Rattle.ttx_source.specs.Promises.{read_promises}
use Rattle.ttx_press.proofs.ComposedTexts.{service_said}
use Rattle.ttx_press.proofs.script.read_composed.Goals as goal

pub returns-in-Ok-clause-script : goal.returns-in-Ok-clause-script
returns-in-Ok-clause-script c =
    let composed = c.args.composed in
    record {
      said = string_bytes composed.text;
      stands = (composed, c.requires, refl);
      service_is = service_said _ composed c.requires;
      promises_are = sym (c.in-Ok.ensures ∙ ap read_promises c.as_bytes.ensures.value);
    }
