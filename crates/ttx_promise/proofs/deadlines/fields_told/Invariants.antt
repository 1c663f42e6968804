use Rattle.std.proofs.Common.{◌≡◌, ◌++◌, drop, map}
use Rattle.ttx_promise.specs.Deadlines.{fields_of}
use Rattle.ttx_promise.proofs.deadlines.fields_told.Given as goal

abbrev pub invariant-loop-one : goal.invariant-loop-one
invariant-loop-one l = l.deadlines.items ++ map (λ t. fields_of t.wait) (drop l.one-index l.told) ≡ map (λ t. fields_of t.wait) l.told
