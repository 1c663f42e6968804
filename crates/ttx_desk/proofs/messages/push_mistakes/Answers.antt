use Rattle.std.proofs.Common.{◌∙◌, ◌++◌, string_bytes, ap}
use Rattle.ttx_desk.proofs.messages.push_mistakes.Goals as goal

pub returns : goal.returns
returns c = (
  string_bytes c.in_ok-report.report,
  c.in_ok-report.ensures,
  c.in_ok-push_str.ensures.bytes ∙ ap (λ r. string_bytes c.args.text.now ++ r) c.as_str.ensures.value,
)
