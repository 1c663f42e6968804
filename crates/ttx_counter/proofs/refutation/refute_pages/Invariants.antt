use Rattle.ttx_counter.specs.Claims.{claimed_slots, claimed_pages, claimed_numbers}
use Rattle.ttx_counter.proofs.SearchAnswers.{SentTo}
use Rattle.ttx_counter.proofs.refutation.refute_pages.Given as goal

abbrev pub invariant-loop-index : goal.invariant-loop-index
invariant-loop-index l = SentTo (claimed_slots l.claim) (claimed_pages l.claim) (claimed_numbers l.claim) l.index
