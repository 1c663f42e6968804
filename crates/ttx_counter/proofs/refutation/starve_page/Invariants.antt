use Rattle.ttx_counter.specs.Claims.{claimed_slots, claimed_pages, claimed_numbers, own_page}
use Rattle.ttx_counter.proofs.SearchAnswers.{CoveredTo}
use Rattle.ttx_counter.proofs.refutation.starve_page.Given as goal

abbrev pub invariant-loop-number : goal.invariant-loop-number
invariant-loop-number l =
    CoveredTo (claimed_slots l.page.claim.now) (claimed_pages l.page.claim.now) (claimed_numbers l.page.claim.now) (own_page l.page) l.number
