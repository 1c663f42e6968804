use Rattle.std.proofs.Common.{if◌then◌else◌, ap, sym, ◌∙◌}
use Rattle.ttx_receiver.specs.declared.touch.Touch.TheVariants.{Nothing, Everything}
use Rattle.ttx_receiver.proofs.touch.if_matched.Goals as goal

pub returns-then-is_matched : goal.returns-then-is_matched
returns-then-is_matched c = ap (λ b. if b then Everything else Nothing) (sym c.if-is_matched.true ∙ c.is_matched.ensures)
