use Rattle.std.proofs.Common.{◌≡◌, nat_lt, take}
use Rattle.std.specs.List.{list_all}
use Rattle.ttx_source.proofs.texts.is_plain.Given as goal

abbrev pub invariant-loop-i : goal.invariant-loop-i
invariant-loop-i l = nat_lt l.union 128 ≡ list_all (λ b. nat_lt b 128) (take l.i l.bytes)
