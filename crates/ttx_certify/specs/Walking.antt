-- What a walk has become by taking a list of slots, and its verdict on two lists.
--
--   TookFirst, TookSecond   what a walk has become by taking these slots as its first list; as its second
--   IsWalkVerdict           the verdict of a walk over two lists
use Rattle.std.specs.Prelude.{◌≡◌, ℕ, List, []}
use Rattle.ttx_page.specs.Pages.{Page}
use Rattle.ttx_witness.specs.Coverage.{Certificate}
use Rattle.ttx_certify.specs.walks.Passing.{Starts, Stands, IsBorneOut, walk_pages, walk_certificate, second_pages, second_certificate}
use Rattle.ttx_witness.specs.declared.faults.reason.Reason.TheVariants.{Unsteady}
use Rattle.ttx_certify.specs.Verdicts.{IsVerdict}
use Rattle.ttx_certify.specs.declared.verdict.Verdict.{Verdict}
use Rattle.ttx_certify.specs.declared.verdict.Verdict.TheVariants.{No}
use Rattle.ttx_certify.specs.declared.walks.passes.Walk.{Walk}
use Rattle.ttx_certify.specs.declared.walks.passes.Second.{Second}

abbrev pub TookFirst : Walk → Walk → List (List ℕ) → Type 0
TookFirst old new x =
    (Starts old [] → Starts new x) × (walk_pages new ≡ walk_pages old) × (walk_certificate new ≡ walk_certificate old)

abbrev pub TookSecond : Second → Second → List (List ℕ) → Type 0
TookSecond old new y =
    ((x : List (List ℕ)) → Stands old x [] → Stands new x y) × (second_pages new ≡ second_pages old)
    × (second_certificate new ≡ second_certificate old)

-- Unsteady exactly if the second list does not bear out the first; for two equal lists, only if they are empty. Any other verdict is that
-- on the second list. A list of more than 65,536 slots is never accepted.
abbrev pub IsWalkVerdict : List (List ℕ) → List (List ℕ) → List Page → Certificate → Verdict → Type 0
IsWalkVerdict x y pages w (No Unsteady) = (IsBorneOut x y pages → ⊥) × (x ≡ y → y ≡ [])
IsWalkVerdict x y pages w verdict = IsBorneOut x y pages × IsVerdict y pages w verdict
