use Rattle.std.proofs.Common.{◌≡◌, ◌<◌, ℕ, List, Some, None, slice_get}
use Rattle.ttx_page.specs.Pages.{Page}
use Rattle.ttx_witness.specs.faults.Faults.{IsFault}
use Rattle.ttx_certify.specs.walks.Passing.{IsEnded, ended_pages, ended_certificate}
use Rattle.ttx_certify.proofs.verdicts.first_fault.Given as goal

abbrev pub invariant-loop-index : goal.invariant-loop-index
invariant-loop-index l = (y : List (List ℕ)) → IsEnded l.ended y → (n : ℕ) (p : Page) → n < l.index → slice_get (ended_pages l.ended) n
    ≡ Some p → IsFault y (ended_pages l.ended) p (ended_certificate l.ended) None
