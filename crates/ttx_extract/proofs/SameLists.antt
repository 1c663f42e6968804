-- Lists that are the same place by place.
use Rattle.std.proofs.Common.{◌≡◌, ℕ, zero, suc, ◌+◌, ◌<◌, ◌≤◌, List, [], ◌∷◌, length, map, get_or, slice_get, Some, sym, ap, ◌∙◌, refl, subst}
use Rattle.std.proofs.Common.{inl, inr, arith}
use Rattle.std.specs.Option.{option_map}
use Rattle.std.proofs.lemmas.Bool.{cases_lt}
use Rattle.std.proofs.lemmas.Option.{slice_get-map, slice_get_read}
use Rattle.ttx_page.specs.declared.page.Page.{Page as PageValue}
use Rattle.ttx_page.specs.Views.{page_of}
use Rattle.ttx_source.specs.Services.{Authored, authored_at}
use Rattle.ttx_extract.proofs.Lists.{mapped}
use Rattle.ttx_extract.proofs.Pages.{page_at}

module _ {A : Type 0} where
  abbrev pub SameBefore : List A → List A → ℕ → Type 0
  SameBefore xs ys i = (n : ℕ) → n < i → slice_get xs n ≡ slice_get ys n

  pub one_same : (xs ys : List A) (i : ℕ) → SameBefore xs ys i → slice_get xs i ≡ slice_get ys i → SameBefore xs ys (i + 1)
  one_same xs ys i before here = λ n lt. elim (cases_lt n i) as (λ _. slice_get xs n ≡ slice_get ys n) [
    | inl less ↦ before n less
    | inr ge ↦ let same : n ≡ i = omega arith in subst (λ m. slice_get xs m ≡ slice_get ys m) (sym same) here
  ]

  pub same_value : (x y : A) → Some x ≡ Some y → x ≡ y
  same_value x y e = cc

  pub some_at : (xs : List A) (i : ℕ) (x : A) → i < length xs → x ≡ get_or xs i x → slice_get xs i ≡ Some x
  some_at xs i x lt e = slice_get_read xs (length xs) i x refl lt e

  pub all_same : (xs ys : List A) (i : ℕ) → length xs ≤ i → length xs ≡ length ys → SameBefore xs ys i → xs ≡ ys
  all_same [] [] i past size same = refl
  all_same [] (y ∷ ys) i past size same = absurd (omega arith)
  all_same (x ∷ xs) [] i past size same = absurd (omega arith)
  all_same (x ∷ xs) (y ∷ ys) zero past size same = absurd (omega arith)
  all_same (x ∷ xs) (y ∷ ys) (suc i) past size same =
      let first : x ≡ y = same_value x y (same 0 (omega arith)) in
      let rest : xs ≡ ys = all_same xs ys i (omega arith) (omega arith) (λ n lt. same (suc n) (omega arith)) in
      λ k. first k ∷ rest k

-- an authored page of a service, of its page and how often it is sent
pub authored_here : (xs : List Authored) (others : List PageValue) (i : ℕ) (o : PageValue) (n : ℕ) → i < length others →
    map page_of others ≡ map (λ a. a.page) xs → o ≡ get_or others i o → option_map (λ a. a.often) (slice_get xs i) ≡ Some n →
    slice_get xs i ≡ Some (authored_at (page_of o) n)
authored_here xs others i o n lt same is often =
    let own = mapped (λ a. a.often) (slice_get xs i) n often in
    let a : Authored = own.0 in
    let there : Some a.page ≡ Some (page_of o) =
    sym (slice_get-map (λ (b : Authored). b.page) xs i ∙ ap (option_map (λ (b : Authored). b.page)) own.1) ∙ ap (λ ps. slice_get ps i) (sym same)
    ∙ page_at others i o lt is in
    let page : a.page ≡ page_of o = same_value a.page (page_of o) there in
    own.1 ∙ (λ k. Some (authored_at (page k) (own.2 k)))
