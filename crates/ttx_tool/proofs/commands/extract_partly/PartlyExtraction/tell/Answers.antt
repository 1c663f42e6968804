use Rattle.std.proofs.Common.{ap, ◌∙◌, length}
use Rattle.ttx_cycle.specs.Cycles.{slots_of}
use Rattle.ttx_partial.specs.Others.{others}
use Rattle.ttx_partial.specs.Lines.{partial_lines}
use Rattle.ttx_tool.proofs.commands.extract_partly.PartlyExtraction.tell.Goals as goal

pub returns-in-Ok-partial_lines-clause-told : goal.returns-in-Ok-partial_lines-clause-told
returns-in-Ok-partial_lines-clause-told c =
    let count = others (slots_of c.args.cycle.now) in
    record {
      partial = c.in-Ok.partial;
      is = c.in-Ok.ensures;
      text_is = ap (λ v. v.items) c.into_bytes.ensures.value;
      line_is = c.in-Ok-partial_lines.ensures ∙ ap (λ left. partial_lines left (length c.pages-pages.result.now) count) c.as_slice.ensures.value
          ∙ ap (λ pages. partial_lines c.in-Ok.partial.left.items pages count) c.pages-pages.ensures.count;
    }
