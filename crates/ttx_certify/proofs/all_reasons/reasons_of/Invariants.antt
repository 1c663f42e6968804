use Rattle.std.proofs.Common.{◌≤◌, ℕ, List, length}
use Rattle.ttx_certify.specs.walks.Passing.{IsEnded, ended_pages, ended_certificate}
use Rattle.ttx_certify.proofs.ToldPages.{AreToldBelow}
use Rattle.ttx_certify.proofs.all_reasons.reasons_of.Given as goal

abbrev pub invariant-loop-index : goal.invariant-loop-index
invariant-loop-index l = (l.index ≤ length l.ended.pages.now) × ((y : List (List ℕ)) → IsEnded l.ended y →
    AreToldBelow y (ended_pages l.ended) (ended_certificate l.ended) l.index l.told.items)
