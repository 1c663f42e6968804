-- Faults page by page.
use Rattle.std.proofs.Common.{◌≡◌, ℕ, zero, suc, ◌+◌, ◌<◌, ◌≤◌, List, [], ◌∷◌, length, map, get_or, slice_get, Option, Some, None, refl, ap, ◌∙◌}
use Rattle.std.proofs.Common.{subst, inl, inr, arith}
use Rattle.std.specs.Option.{option_map}
use Rattle.std.proofs.lemmas.Bool.{cases_lt}
use Rattle.std.proofs.lemmas.Option.{slice_get_within, slice_get-map, slice_get_read}
use Rattle.ttx_page.specs.Pages.{Page, IsPage}
use Rattle.ttx_page.specs.Laws.{PagesKeepTheirRules}
use Rattle.ttx_page.specs.declared.page.Page.{Page as PageValue}
use Rattle.ttx_page.specs.Views.{page_of}
use Rattle.ttx_page.specs.Steady.{Steady}
use Rattle.ttx_page.specs.Streams.{repeated}
use Rattle.ttx_witness.specs.Coverage.{Certificate}
use Rattle.ttx_witness.specs.faults.Faults.{IsFault, IsWitnessFault}
use Rattle.ttx_witness.specs.declared.faults.reason.Reason.{Reason}
use Rattle.ttx_certify.specs.Laws.{ArePages}
use Rattle.ttx_certify.specs.Verdicts.{IsFirstFault}

pub page_at : (pages : List PageValue) (i : ℕ) (p : PageValue) → i < length pages → p ≡ get_or pages i p →
    slice_get (map page_of pages) i ≡ Some (page_of p)
page_at pages i p lt e = slice_get-map page_of pages i ∙ ap (option_map page_of) (slice_get_read pages (length pages) i p refl lt e)

pub here_is : (xs : List Page) (i : ℕ) → i < length xs → (p : Page) × (slice_get xs i ≡ Some p)
here_is [] i lt = absurd (omega arith)
here_is (x ∷ xs) zero lt = (x, refl)
here_is (x ∷ xs) (suc i) lt = here_is xs i (omega arith)

-- a place of a list has one page
pub same_page : {o : Option Page} (p q : Page) → o ≡ Some p → o ≡ Some q → p ≡ q
same_page p q e f = cc

module _ (cycle : List (List ℕ)) (pages : List Page) (w : Certificate) where
  -- a steady page has only the faults of its named starts
  pub fault_from : (p : Page) → Steady (repeated cycle) pages p → (o : Option Reason) → IsWitnessFault cycle p w o → IsFault cycle pages p w o
  fault_from p steady None f = (steady, f)
  fault_from p steady (Some r) f = inr (steady, f)

  abbrev Earlier : ℕ → Type 0
  Earlier index = (n : ℕ) (p : Page) → n < index → slice_get pages n ≡ Some p → IsFault cycle pages p w None

  pub first_here : (index : ℕ) → index < length pages → Earlier index → (o : Option Reason) (reason : Reason) → o ≡ Some reason →
      ((p : Page) → slice_get pages index ≡ Some p → IsFault cycle pages p w o) → IsFirstFault cycle pages w reason
  first_here index lt earlier o reason e f =
      let h = here_is pages index lt in
      record { index = index; page = h.0; here = h.1; fault = subst (IsFault cycle pages h.0 w) e (f h.0 h.1); none_before = earlier }

  pub one_more : (index : ℕ) → Earlier index → (o : Option Reason) → o ≡ None →
      ((p : Page) → slice_get pages index ≡ Some p → IsFault cycle pages p w o) → Earlier (index + 1)
  one_more index earlier o e f = λ n p lt here. elim (cases_lt n index) as (λ _. IsFault cycle pages p w None) [
    | inl less ↦ earlier n p less here
    | inr ge ↦ let same : n ≡ index = omega arith in subst (IsFault cycle pages p w) e (f p (subst (λ x. slice_get pages x ≡ Some p) same here))
  ]

  pub none_at_all : (index : ℕ) → length pages ≤ index → Earlier index → (n : ℕ) (p : Page) → slice_get pages n ≡ Some p →
      IsFault cycle pages p w None
  none_at_all index past earlier n p here = earlier n p (let lt = slice_get_within pages n p here in omega arith) here

pub are_pages : PagesKeepTheirRules → (pages : List PageValue) → ArePages (map page_of pages)
are_pages rules [] n p e = cc
are_pages rules (x ∷ xs) zero p e = let same : page_of x ≡ p = cc in subst IsPage same (rules x)
are_pages rules (x ∷ xs) (suc n) p e = are_pages rules xs n p e
