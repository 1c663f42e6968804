use Rattle.std.proofs.Common.{◌<◌, ℕ, Bool}
use Rattle.ttx_witness.specs.Coverage.{limit}
use Rattle.ttx_counter.specs.Claims.{claimed_slots, claimed_pages, claimed_numbers}
use Rattle.ttx_counter.specs.Sources.{IsPlainlyRight}
use Rattle.ttx_counter.proofs.refutation.refute_all_plainly.Given as goal

abbrev pub invariant-loop-index : goal.invariant-loop-index
invariant-loop-index l = (n : ℕ) (any_sub : Bool) → n < l.index → IsPlainlyRight (claimed_slots l.claim) (claimed_pages l.claim) n any_sub
    (claimed_numbers l.claim).lines (limit (claimed_numbers l.claim))
