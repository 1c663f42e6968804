use Rattle.std.proofs.Common.{◌≡◌, ℕ, ◌<◌, false, length, get_or}
use Rattle.ttx_author.specs.Signs.{has_character}
use Rattle.ttx_author.proofs.remedies.options_with.Given as goal

abbrev pub invariant-loop-option : goal.invariant-loop-option
invariant-loop-option l = (length l.options ≡ 8) × ((k : ℕ) → k < l.option → get_or l.options k false ≡ has_character k l.character)
