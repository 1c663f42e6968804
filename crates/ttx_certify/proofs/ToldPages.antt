-- A list of what is told of each page grows by one.
use Rattle.std.proofs.Common.{◌≡◌, ◌⊎◌, ℕ, zero, suc, ◌+◌, ◌<◌, List, [], ◌∷◌, ◌++◌, length, slice_get, Some, refl, sym, ap, subst, inl, inr, arith}
use Rattle.std.proofs.lemmas.List.{length-append}
use Rattle.ttx_page.specs.Pages.{Page}
use Rattle.ttx_witness.specs.Coverage.{Certificate, IsCertificate}
use Rattle.ttx_witness.specs.faults.Faults.{IsFault}
use Rattle.ttx_certify.specs.AllReasons.{AreReasons, ReasonsAreTrue}
use Rattle.ttx_certify.specs.declared.all_reasons.PageReason.{PageReason}

-- what a list has at a place, after a value was pushed
pushed : {A : Type 0} (xs : List A) (y x : A) (n : ℕ) → slice_get (xs ++ y ∷ []) n ≡ Some x → (slice_get xs n ≡ Some x) ⊎ ((n ≡ length xs) × (x ≡ y))
pushed [] y x zero e = inr (refl, cc)
pushed [] y x (suc n) e = absurd (cc)
pushed (z ∷ xs) y x zero e = inl e
pushed (z ∷ xs) y x (suc n) e = elim (pushed xs y x n e) as (λ _. (slice_get xs n ≡ Some x) ⊎ ((suc n ≡ suc (length xs)) × (x ≡ y)))
    [ inl a ↦ inl a | inr b ↦ inr (ap suc b.0, b.1) ]

-- what is told of the first `index` pages
pub record AreToldBelow (cycle : List (List ℕ)) (pages : List Page) (w : Certificate) (index : ℕ) (told : List PageReason) : Type 0 where
  pub count : length told ≡ index
  pub each : (n : ℕ) (p : Page) (t : PageReason) → slice_get pages n ≡ Some p → slice_get told n ≡ Some t → IsFault cycle pages p w t.reason

pub none_told : (cycle : List (List ℕ)) (pages : List Page) (w : Certificate) → AreToldBelow cycle pages w 0 []
none_told cycle pages w = record { count = refl; each = λ n p t at e. absurd (cc) }

pub one_more_told : (cycle : List (List ℕ)) (pages : List Page) (w : Certificate) (index : ℕ) (told : List PageReason) (t : PageReason) →
    AreToldBelow cycle pages w index told → ((p : Page) → slice_get pages index ≡ Some p → IsFault cycle pages p w t.reason) →
    AreToldBelow cycle pages w (index + 1) (told ++ t ∷ [])
one_more_told cycle pages w index told t before here = record {
  count = let c = before.count in let l = length-append told (t ∷ []) in omega arith;
  each = λ n p other at e. elim (pushed told t other n e) as (λ _. IsFault cycle pages p w other.reason) [
    | inl old ↦ before.each n p other at old
    | inr new ↦
        let place : n ≡ index = let c = before.count in let i = new.0 in omega arith in
        subst (λ x. IsFault cycle pages p w x.reason) (sym new.1) (here p (subst (λ i. slice_get pages i ≡ Some p) place at))
  ];
}

pub all_told : ReasonsAreTrue → (cycle : List (List ℕ)) → 0 < length cycle → (pages : List Page) (w : Certificate) → IsCertificate w → (index : ℕ) →
    index ≡ length pages → (told : List PageReason) → AreToldBelow cycle pages w index told → AreReasons cycle pages w told
all_told law cycle some pages w is index e told below = record {
  count = let c = below.count in omega arith;
  first = below.each;
  listed = λ n p t at here. law cycle pages p w t.reason some is (below.each n p t at here);
}
