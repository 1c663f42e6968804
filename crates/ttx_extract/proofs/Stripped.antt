-- A list that is filled place by place with what a function makes of another.
use Rattle.std.proofs.Common.{◌≡◌, ℕ, zero, suc, Some, slice_get, ◌+◌, ◌<◌, List, [], ◌∷◌, ◌++◌, length, map, take, set, get_or, sym, ap, ◌∙◌, subst, arith}
use Rattle.std.proofs.Math.Seq.{take-suc, take-suc-set}
use Rattle.std.proofs.lemmas.List.{map-append, map_more}

module _ {A B : Type 0} (f : A → B) (xs : List A) (ys : List B) (i : ℕ) (d : A) where
  pub filled : length ys ≡ length xs → i < length xs → take i ys ≡ map f (take i xs) →
      take (i + 1) (set ys i (f (get_or xs i d))) ≡ map f (take (i + 1) xs)
  filled same lt e =
      let one : suc i ≡ i + 1 = omega arith in
      let v = f (get_or xs i d) in
      subst (λ n. take n (set ys i v) ≡ map f (take n xs)) one (take-suc-set ys i v (omega arith) ∙ ap (λ z. z ++ v ∷ []) e
      ∙ sym (ap (map f) (take-suc xs i d lt) ∙ map-append f (take i xs) (get_or xs i d ∷ [])))

pub there : {A : Type 0} (xs : List A) (i : ℕ) (x d : A) → i < length xs → x ≡ get_or xs i d → slice_get xs i ≡ Some x
there [] i x d lt e = absurd (omega arith)
there (y ∷ xs) zero x d lt e = ap Some (sym e)
there (y ∷ xs) (suc i) x d lt e = there xs i x d (omega arith) e

-- one element more, seen through g
pub pushed : {A B C : Type 0} (f : A → C) (g : B → C) (xs : List A) (i : ℕ) (d : A) (ys zs : List B) (y : B) → i < length xs →
    map g ys ≡ map f (take i xs) → g y ≡ f (get_or xs i d) → zs ≡ ys ++ y ∷ [] → map g zs ≡ map f (take (i + 1) xs)
pushed f g xs i d ys zs y lt before made grown =
    ap (map g) grown ∙ map-append g ys (y ∷ []) ∙ ap (λ l. l ++ g y ∷ []) before ∙ ap (λ z. map f (take i xs) ++ z ∷ []) made
    ∙ sym (map_more f xs i d lt)

-- the same where the list is as g sees it
pub pushed_as : {B C : Type 0} (g : B → C) (xs : List C) (i : ℕ) (d : C) (ys zs : List B) (y : B) → i < length xs → map g ys ≡ take i xs →
    g y ≡ get_or xs i d → zs ≡ ys ++ y ∷ [] → map g zs ≡ take (i + 1) xs
pushed_as g xs i d ys zs y lt before made grown =
    let one : suc i ≡ i + 1 = omega arith in
    ap (map g) grown ∙ map-append g ys (y ∷ []) ∙ ap (λ l. l ++ g y ∷ []) before ∙ ap (λ z. take i xs ++ z ∷ []) made
    ∙ sym (take-suc xs i d lt) ∙ ap (λ n. take n xs) one
