use Rattle.std.proofs.Common.{false, refl, subst, ◌∙◌, arith}
use Rattle.ttx_receiver.specs.Touching.{IsBehind}
use Rattle.ttx_receiver.proofs.watched.Watched.new.Goals as goal

pub invariant_of-result : goal.invariant_of-result
invariant_of-result g c =
    subst (IsBehind (record { everything = false; begin = 25; end = 0 }) c.new-cache.result) (c.new-cache.ensures ∙ c.memory.ensures)
    (record { inside = omega arith; alike = λ _. record { control = refl; links = refl; count = refl; rows = λ _ _. refl } })
