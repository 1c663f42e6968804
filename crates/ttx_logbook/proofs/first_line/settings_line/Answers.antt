use Rattle.std.proofs.Common.{◌++◌, ◌∙◌, ap, string_bytes, arith}
use Rattle.ttx_logbook.specs.Views.{settings_of}
use Rattle.ttx_logbook.proofs.WrittenSettings.{written}
use Rattle.ttx_logbook.proofs.first_line.settings_line.Goals as goal

pub returns : goal.returns
returns c =
    written (settings_of c.args.settings.now) _ _ _ _ _ _ c.new-line.ensures.bytes c.in_ok-push_promise.ensures c.in_ok-push_size.ensures
    c.in_ok-push_begin.ensures c.in_ok-push_clock.ensures
    (c.in_ok-push.ensures.bytes ∙ ap (λ b. string_bytes c.push_clock.new.line ++ b) (c.in_ok-push.ensures.ascii (omega arith)))
