-- Lists that rise by a key: two of them with the same elements are the same list.
use Rattle.std.proofs.Common.{◌≡◌, ℕ, zero, suc, ◌+◌, ℤ, ◌<ℤ◌, List, [], ◌∷◌, slice_get, Option, Some, None, refl, sym, ap, ◌∙◌, subst, arith}
use Rattle.std.proofs.lemmas.Int.{ints}

none_here : {A : Type 0} (n : ℕ) (x : A) → slice_get [] n ≡ Some x → ⊥
none_here n x e = let h : None ≡ Some x = e in cc

one_value : {A : Type 0} {o : Option A} (x y : A) → o ≡ Some x → o ≡ Some y → x ≡ y
one_value x y e f = cc

module _ {A : Type 0} (key : A → ℤ) where
  -- the key of each element is below that of the next one
  abbrev pub Rises : List A → Type 0
  Rises xs = (n : ℕ) (x y : A) → slice_get xs n ≡ Some x → slice_get xs (n + 1) ≡ Some y → (key x) <ℤ (key y)

  abbrev pub Within : List A → List A → Type 0
  Within xs ys = (n : ℕ) (x : A) → slice_get xs n ≡ Some x → (m : ℕ) × (slice_get ys m ≡ Some x)

  rest_rises : (x : A) (xs : List A) → Rises (x ∷ xs) → Rises xs
  rest_rises x xs rises n a b here next =
      let one : suc n + 1 ≡ suc (n + 1) = omega arith in
      rises (suc n) a b here (subst (λ m. slice_get (x ∷ xs) m ≡ Some b) (sym one) next)

  pub first_is_least : (x : A) (xs : List A) → Rises (x ∷ xs) → (n : ℕ) (y : A) → slice_get xs n ≡ Some y → (key x) <ℤ (key y)
  first_is_least x [] rises n y here = absurd (none_here n y here)
  first_is_least x (z ∷ zs) rises zero y here = rises 0 x y refl here
  first_is_least x (z ∷ zs) rises (suc n) y here =
      let low : (key x) <ℤ (key z) = rises 0 x z refl refl in
      let high : (key z) <ℤ (key y) = first_is_least z zs (rest_rises x (z ∷ zs) rises) n y here in
      omega (arith, ints)

  not_after_itself : (x y : A) → x ≡ y → (key x) <ℤ (key y) → ⊥
  not_after_itself x y e lt =
      let same : key x ≡ key y = ap key e in
      omega (arith, ints)

  -- what both lists begin with
  same_first : (x y : A) (xs ys : List A) → Rises (x ∷ xs) → Rises (y ∷ ys) → (m n : ℕ) → slice_get (y ∷ ys) m ≡ Some x →
      slice_get (x ∷ xs) n ≡ Some y →
      x ≡ y
  same_first x y xs ys rx ry zero n here there = one_value x y here refl
  same_first x y xs ys rx ry (suc m) zero here there = sym (one_value y x there refl)
  same_first x y xs ys rx ry (suc m) (suc n) here there =
      let a : (key y) <ℤ (key x) = first_is_least y ys ry m x here in
      let b : (key x) <ℤ (key y) = first_is_least x xs rx n y there in
      absurd (omega (arith, ints))

  in_rest : (x : A) (xs ys : List A) → Rises (x ∷ xs) → (n : ℕ) (z : A) → slice_get xs n ≡ Some z → (m : ℕ) → slice_get (x ∷ ys) m ≡ Some z →
      (k : ℕ) × (slice_get ys k ≡ Some z)
  in_rest x xs ys rises n z here zero there =
      absurd (not_after_itself x z (one_value x z refl there) (first_is_least x xs rises n z here))
  in_rest x xs ys rises n z here (suc m) there = (m, there)

  pub same_rising : (xs ys : List A) → Rises xs → Rises ys → Within xs ys → Within ys xs → xs ≡ ys
  same_rising [] [] rx ry into back = refl
  same_rising [] (y ∷ ys) rx ry into back = let b = back 0 y refl in absurd (none_here b.0 y b.1)
  same_rising (x ∷ xs) [] rx ry into back = let a = into 0 x refl in absurd (none_here a.0 x a.1)
  same_rising (x ∷ xs) (y ∷ ys) rx ry into back =
      let a = into 0 x refl in
      let b = back 0 y refl in
      let e : x ≡ y = same_first x y xs ys rx ry a.0 b.0 a.1 b.1 in
      let ry' : Rises (x ∷ ys) = subst (λ z. Rises (z ∷ ys)) (sym e) ry in
      let into' : Within (x ∷ xs) (x ∷ ys) = subst (λ z. Within (x ∷ xs) (z ∷ ys)) (sym e) into in
      let back' : Within (x ∷ ys) (x ∷ xs) = subst (λ z. Within (z ∷ ys) (x ∷ xs)) (sym e) back in
      let rest = same_rising xs ys (rest_rises x xs rx) (rest_rises x ys ry')
      (λ n z here. let w = into' (suc n) z here in in_rest x xs ys rx n z here w.0 w.1)
      (λ n z here. let w = back' (suc n) z here in in_rest x ys xs ry' n z here w.0 w.1) in
      ap (λ h. h ∷ xs) e ∙ ap (λ t. y ∷ t) rest
