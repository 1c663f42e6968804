-- Texts without the spaces at their end.
use Rattle.std.proofs.Common.{◌≡◌, ℕ, suc, ◌<◌, ◌==◌, true, false, List, [], ◌∷◌, ◌++◌, length, take, get_or, refl, sym, ap, ◌∙◌, rules}
use Rattle.std.specs.Prelude.{if◌then◌else◌}
use Rattle.std.proofs.Math.Seq.{take-suc}
use Rattle.ttx_extract.specs.ServiceTexts.{trimmed, kept_before}

first_is : (c : ℕ) (cs : List ℕ) → trimmed (c ∷ cs) ≡ kept_before c (trimmed cs)
unfolding trimmed
first_is c cs = refl

none_is : trimmed [] ≡ []
unfolding trimmed
none_is = refl

space_is : (n : ℕ) → (n == 32) ≡ true → kept_before n [] ≡ []
space_is n e = ap (λ b. if b then [] else n ∷ []) e

other_is : (n : ℕ) → (n == 32) ≡ false → kept_before n [] ≡ n ∷ []
other_is n e = ap (λ b. if b then [] else n ∷ []) e

space_goes : (cs : List ℕ) (c : ℕ) → (c == 32) ≡ true → trimmed (cs ++ c ∷ []) ≡ trimmed cs
space_goes [] c e = first_is c [] ∙ ap (kept_before c) none_is ∙ space_is c e ∙ sym none_is
space_goes (x ∷ cs) c e = first_is x (cs ++ c ∷ []) ∙ ap (kept_before x) (space_goes cs c e) ∙ sym (first_is x cs)

before_some : (x c : ℕ) (cs : List ℕ) → kept_before x (cs ++ c ∷ []) ≡ x ∷ cs ++ c ∷ []
before_some x c [] = refl
before_some x c (y ∷ cs) = refl

other_stays : (cs : List ℕ) (c : ℕ) → (c == 32) ≡ false → trimmed (cs ++ c ∷ []) ≡ cs ++ c ∷ []
other_stays [] c e = first_is c [] ∙ ap (kept_before c) none_is ∙ other_is c e
other_stays (x ∷ cs) c e = first_is x (cs ++ c ∷ []) ∙ ap (kept_before x) (other_stays cs c e) ∙ before_some x c cs

unequal : (n : ℕ) → (n ≡ 32 → ⊥) → (n == 32) ≡ false
unequal n f = search rules

module _ (cs : List ℕ) (n : ℕ) (lt : n < length cs) where
  pub one_less : (get_or cs n 0 == 32) ≡ true → trimmed (take (suc n) cs) ≡ trimmed (take n cs)
  one_less e = ap trimmed (take-suc cs n 0 lt) ∙ space_goes (take n cs) (get_or cs n 0) e

  pub ends_here : (get_or cs n 0 ≡ 32 → ⊥) → trimmed (take (suc n) cs) ≡ take (suc n) cs
  ends_here f = ap trimmed (take-suc cs n 0 lt) ∙ other_stays (take n cs) (get_or cs n 0) (unequal (get_or cs n 0) f) ∙ sym (take-suc cs n 0 lt)

pub none_left : (cs : List ℕ) → take 0 cs ≡ trimmed (take 0 cs)
none_left cs = sym none_is
