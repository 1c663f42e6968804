-- At most one verdict on a splice is right.
use Rattle.std.proofs.Common.{◌≡◌, ℕ, ◌<◌, slice_get, Some, refl, ap, subst, inl, inr, arith}
use Rattle.std.proofs.lemmas.Bool.{cases_lt}
use Rattle.ttx_page.specs.Pages.{Page}
use Rattle.ttx_page.specs.declared.item.Item.{Item}
use Rattle.ttx_witness.specs.sent.Collected.{item_number}
use Rattle.ttx_witness.specs.declared.faults.reason.Reason.{Reason}
use Rattle.ttx_certify.specs.Verdicts.{IsVerdict}
use Rattle.ttx_certify.specs.VerdictLaws.{VerdictsAreOne}
use Rattle.ttx_certify.specs.declared.verdict.Verdict.TheVariants as verdict
use Rattle.ttx_proof.specs.Splices.{Splice, HasSeam}
use Rattle.ttx_proof.specs.Laws.{IsSplice}
use Rattle.ttx_proof.specs.Verdicts.{HasLate, IsFirstSeam, IsFirstLate, IsFirstCommon, IsSpliceRefusal}
use Rattle.ttx_proof.specs.Meaning.{VerdictsMean, SpliceVerdictsAreOne}
use Rattle.ttx_proof.specs.declared.verdict.SpliceReason.{SpliceReason}
use Rattle.ttx_proof.specs.declared.verdict.SpliceReason.TheVariants.{Old, New, Numbers, Seam, SeamLate}
use Rattle.ttx_proof.specs.declared.verdict.SpliceVerdict.TheVariants.{Yes, No}
use Rattle.ttx_certify.proofs.ItemByItem.{one_item}

-- two numbers, neither of them smaller
one_number : (a b : ℕ) → (a < b → ⊥) → (b < a → ⊥) → a ≡ b
one_number a b f g = elim (cases_lt a b) as (λ _. a ≡ b) [
  | inl lt ↦ absurd (f lt)
  | inr ge ↦ elim (cases_lt b a) as (λ _. a ≡ b) [ inl lt ↦ absurd (g lt) | inr le ↦ omega arith ]
]

module _ (c : Splice) where
  -- two first common pages are the same
  one_page : (P : Page → Type 0) (p q : Page) → IsFirstCommon c P p → IsFirstCommon c P q → p ≡ q
  one_page P p q a b =
      let same = one_number a.index b.index (λ lt. b.none_before a.index p lt a.place a.common a.here)
      (λ lt. a.none_before b.index q lt b.place b.common b.here) in
      let there : slice_get c.new_pages b.index ≡ Some p = subst (λ n. slice_get c.new_pages n ≡ Some p) same a.place in
      let here = b.place in
      cc

  one_slot : (p : Page) (s t : ℕ) → IsFirstSeam c p s → IsFirstSeam c p t → s ≡ t
  one_slot p s t a b = one_number s t (λ lt. b.none_before s lt a.here) (λ lt. a.none_before t lt b.here)

  one_late : (p : Page) (i j : Item) → IsFirstLate c p i → IsFirstLate c p j → i ≡ j
  one_late p i j a b =
      one_item i j a.here.0 b.here.0 (one_number (item_number i) (item_number j) (λ lt. b.none_before i lt a.here) (λ lt. a.none_before j lt b.here))

  reason_of : (a b : Reason) → verdict.No a ≡ verdict.No b → a ≡ b
  reason_of a b e = cc

  module _ (is : IsSplice c) (one : VerdictsAreOne) where
    one_old : (a b : Reason) → IsVerdict c.old c.old_pages c.old_certificate (verdict.No a) →
        IsVerdict c.old c.old_pages c.old_certificate (verdict.No b) → a ≡ b
    one_old a b h k = reason_of a b
        (one c.old c.old_pages c.old_certificate (let s = is.old.some in omega arith) is.old_certificate (verdict.No a)
        (verdict.No b) h k)

    one_new : (a b : Reason) → IsVerdict c.new c.new_pages c.new_certificate (verdict.No a) →
        IsVerdict c.new c.new_pages c.new_certificate (verdict.No b) → a ≡ b
    one_new a b h k = reason_of a b
        (one c.new c.new_pages c.new_certificate (let s = is.new.some in omega arith) is.new_certificate (verdict.No a)
        (verdict.No b) h k)

    one_reason : (a b : SpliceReason) → IsSpliceRefusal c a → IsSpliceRefusal c b → a ≡ b
    one_reason (Old a) (Old b) h k = ap Old (one_old a b h k)
    one_reason (Old a) (New b) h k = absurd (h.1 k.0)
    one_reason (Old a) Numbers h k = absurd (h.1 k.0.old)
    one_reason (Old a) (Seam page slot) h k = absurd (h.1 k.0.old)
    one_reason (Old a) (SeamLate page item) h k = absurd (h.1 k.0.old)
    one_reason (New a) (Old b) h k = absurd (k.1 h.0)
    one_reason (New a) (New b) h k = ap New (one_new a b (h.1, h.2) (k.1, k.2))
    one_reason (New a) Numbers h k = absurd (h.2 k.0.new)
    one_reason (New a) (Seam page slot) h k = absurd (h.2 k.0.new)
    one_reason (New a) (SeamLate page item) h k = absurd (h.2 k.0.new)
    one_reason Numbers (Old b) h k = absurd (k.1 h.0.old)
    one_reason Numbers (New b) h k = absurd (k.2 h.0.new)
    one_reason Numbers Numbers h k = refl
    one_reason Numbers (Seam page slot) h k = absurd (h.1 k.1)
    one_reason Numbers (SeamLate page item) h k = absurd (h.1 k.1)
    one_reason (Seam page slot) (Old b) h k = absurd (k.1 h.0.old)
    one_reason (Seam page slot) (New b) h k = absurd (k.2 h.0.new)
    one_reason (Seam page slot) Numbers h k = absurd (k.1 h.1)
    one_reason (Seam page slot) (Seam other_page other_slot) h k =
        let a = h.2 in
        let b = k.2 in
        let same = one_page (HasSeam c) a.0 b.0 a.2 b.2 in
        let slots = one_slot b.0 slot other_slot (subst (λ p. IsFirstSeam c p slot) same a.3) b.3 in
        let first = a.1 in
        let second = b.1 in
        cc
    one_reason (Seam page slot) (SeamLate late_page item) h k = absurd (k.2 h.2.0 h.2.2.common h.2.2.here)
    one_reason (SeamLate page item) (Old b) h k = absurd (k.1 h.0.old)
    one_reason (SeamLate page item) (New b) h k = absurd (k.2 h.0.new)
    one_reason (SeamLate page item) Numbers h k = absurd (k.1 h.1)
    one_reason (SeamLate page item) (Seam seam_page slot) h k = absurd (h.2 k.2.0 k.2.2.common k.2.2.here)
    one_reason (SeamLate page item) (SeamLate other_page other_item) h k =
        let a = h.3 in
        let b = k.3 in
        let same = one_page (HasLate c) a.0 b.0 a.2 b.2 in
        let items = one_late b.0 item other_item (subst (λ p. IsFirstLate c p item) same a.3) b.3 in
        let first = a.1 in
        let second = b.1 in
        cc

pub splice_verdicts_are_one : VerdictsMean → VerdictsAreOne → SpliceVerdictsAreOne
splice_verdicts_are_one mean one c is Yes Yes h k = refl
splice_verdicts_are_one mean one c is Yes (No b) h k = absurd ((mean c is).1 b k h)
splice_verdicts_are_one mean one c is (No a) Yes h k = absurd ((mean c is).1 a h k)
splice_verdicts_are_one mean one c is (No a) (No b) h k = ap No (one_reason c is one a b h k)
