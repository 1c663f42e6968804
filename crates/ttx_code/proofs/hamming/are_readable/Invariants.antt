use Rattle.std.proofs.Common.{◌≡◌, is_some, ltb, take}
use Rattle.std.specs.List.{list_all}
use Rattle.ttx_code.specs.Words.{reading}
use Rattle.ttx_code.proofs.hamming.are_readable.Given as goal

abbrev pub invariant-loop-i : goal.invariant-loop-i
invariant-loop-i l = ltb l.union 16 ≡ list_all (λ b. is_some (reading b)) (take l.i l.bytes)
