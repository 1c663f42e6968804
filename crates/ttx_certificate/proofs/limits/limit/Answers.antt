use Rattle.std.proofs.Common.{◌*◌, ◌∙◌, ap₂}
use Rattle.ttx_certificate.proofs.limits.limit.Goals as goal

pub returns : goal.returns
returns c = ap₂ (λ deadline lines. deadline * lines) c.deadline.ensures (c.from.ensures ∙ c.lines.ensures)
