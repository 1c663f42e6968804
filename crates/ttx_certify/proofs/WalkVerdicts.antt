-- The verdict of a walk over two lists, and what it guarantees.
use Rattle.std.proofs.Common.{◌≡◌, ℕ, ◌≤◌, List, length, inl, inr, refl, ap, subst, arith}
use Rattle.ttx_cycle.specs.Files.{IsCycle}
use Rattle.ttx_page.specs.Pages.{Page}
use Rattle.ttx_witness.specs.Coverage.{Certificate, IsCertificate}
use Rattle.ttx_witness.specs.declared.faults.reason.Reason.TheVariants as R
use Rattle.ttx_certify.specs.Laws.{AcceptedIsSeen, ArePages}
use Rattle.ttx_certify.specs.Verdicts.{IsVerdict, Means}
use Rattle.ttx_certify.specs.walks.Passing.{IsBorneOut}
use Rattle.ttx_certify.specs.Walking.{IsWalkVerdict}
use Rattle.ttx_certify.specs.declared.verdict.Verdict.{Verdict}
use Rattle.ttx_certify.specs.declared.verdict.Verdict.TheVariants.{Yes, No}

-- a verdict on a second list that bears out the first is a verdict of the walk
pub as_walked : (x y : List (List ℕ)) (pages : List Page) (w : Certificate) → IsBorneOut x y pages → (v : Verdict) → IsVerdict y pages w v →
    IsWalkVerdict x y pages w v
as_walked x y pages w borne Yes h = (borne, h)
as_walked x y pages w borne (No (R.BadSlot slot)) h = (borne, h)
as_walked x y pages w borne (No (R.NoHeader page)) h = (borne, h)
as_walked x y pages w borne (No (R.OtherSubpage page slot)) h = (borne, h)
as_walked x y pages w borne (No (R.Erased page slot)) h = (borne, h)
as_walked x y pages w borne (No (R.HeadDiffers page slot)) h = (borne, h)
as_walked x y pages w borne (No (R.RowDiffers page slot)) h = (borne, h)
as_walked x y pages w borne (No (R.LinksDiffer page slot)) h = (borne, h)
as_walked x y pages w borne (No (R.NoWitness page item)) h = (borne, h)
as_walked x y pages w borne (No (R.WitnessBad page item start)) h = (borne, h)
as_walked x y pages w borne (No (R.Late page item start)) h = (borne, h)
as_walked x y pages w borne (No (R.LateBlank page item header)) h = (borne, h)
as_walked x y pages w borne (No R.Unsteady) h = absurd (elim h.0.1.fault as (λ _. ⊥) [ inl a ↦ a | inr b ↦ b.1 ])

-- what holds for pages and a certificate holds for equal ones
pub for_same : {ps qs : List Page} {v w : Certificate} → ps ≡ qs → v ≡ w → (P : List Page → Certificate → Type 0) → P ps v → P qs w
for_same {ps} {qs} {v} {w} e f P h = subst (P qs) f (subst (λ rs. P rs v) e h)

-- a walk over one list twice has the verdict on that list
pub walked_same : (y : List (List ℕ)) → 1 ≤ length y → (pages : List Page) (w : Certificate) (v : Verdict) →
    IsWalkVerdict y y pages w v → IsVerdict y pages w v
walked_same y some pages w Yes h = h.1
walked_same y some pages w (No (R.BadSlot slot)) h = h.1
walked_same y some pages w (No (R.NoHeader page)) h = h.1
walked_same y some pages w (No (R.OtherSubpage page slot)) h = h.1
walked_same y some pages w (No (R.Erased page slot)) h = h.1
walked_same y some pages w (No (R.HeadDiffers page slot)) h = h.1
walked_same y some pages w (No (R.RowDiffers page slot)) h = h.1
walked_same y some pages w (No (R.LinksDiffer page slot)) h = h.1
walked_same y some pages w (No (R.NoWitness page item)) h = h.1
walked_same y some pages w (No (R.WitnessBad page item start)) h = h.1
walked_same y some pages w (No (R.Late page item start)) h = h.1
walked_same y some pages w (No (R.LateBlank page item header)) h = h.1
walked_same y some pages w (No R.Unsteady) h = (let e : length y ≡ 0 = ap length (h.1 refl) in absurd (omega arith))

-- what a verdict means
pub seen_by_all : AcceptedIsSeen → (y : List (List ℕ)) → IsCycle y → (pages : List Page) → ArePages pages → (w : Certificate) →
    IsCertificate w → (v : Verdict) → IsVerdict y pages w v → Means y pages w v
seen_by_all law y cycle pages are w is Yes h = law y pages w cycle are is h
seen_by_all law y cycle pages are w is (No reason) h = tt
