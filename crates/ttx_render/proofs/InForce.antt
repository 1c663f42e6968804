-- The value in force comes from the last code that sets it.
use Rattle.std.proofs.Common.{◌≡◌, ℕ, zero, suc, ◌<◌, ◌≤◌, refl, arith, inl, inr, ◌⊎◌, below_more, subst}
use Rattle.ttx_render.specs.Attributes.{value_left, value_after, ActsAt, IsInForce, value_at, value_in_force}
use Rattle.ttx_render.specs.Laws.{AttributesAreInForce}
use Rattle.ttx_render.specs.Mosaics.{same}
use Rattle.ttx_render.specs.Spacing.{Effect, SetAt, SetAfter, Leaves}

abbrev Sets : {A : Type 0} → (ℕ → Effect A) → ℕ → A → Type 0
Sets acts d value = (acts d ≡ SetAt value) ⊎ (acts d ≡ SetAfter value)

-- the last column before n that sets the attribute, or none does
abbrev LastBefore : {A : Type 0} → (ℕ → Effect A) → A → ℕ → A → Type 0
LastBefore acts start n value =
    ((d : ℕ) × (d < n) × Sets acts d value × ((e : ℕ) → d < e → e < n → acts e ≡ Leaves))
    ⊎ ((value ≡ start) × ((e : ℕ) → e < n → acts e ≡ Leaves))

pub split : (e c : ℕ) → e ≤ c → (e < c) ⊎ (e ≡ c)
split e c l = below_more (λ k. (k < c) ⊎ (k ≡ c)) c (λ k h. inl h) (inr refl) e (omega arith)

module _ {A : Type 0} (acts : ℕ → Effect A) (start : A) where
  more : (d : ℕ) (value : A) → acts d ≡ Leaves → LastBefore acts start d value → LastBefore acts start (suc d) value
  more d value none (inl (e, under, is, after)) =
      inl (e, omega arith, is, λ k low high. below_more (λ k. e < k → acts k ≡ Leaves) d (λ k h low. after k low h) (λ _. none) k (omega arith) low)
  more d value none (inr (same, all)) = inr (same, λ k high. below_more (λ k. acts k ≡ Leaves) d all none k (omega arith))

  step : (d : ℕ) (x : Effect A) → acts d ≡ x → LastBefore acts start d (value_left acts start d) →
      LastBefore acts start (suc d) (value_after x (value_left acts start d))
  step d Leaves e last = more d (value_left acts start d) e last
  step d (SetAt value) e last = inl (d, omega arith, inl e, λ k low high. absurd (omega arith))
  step d (SetAfter value) e last = inl (d, omega arith, inr e, λ k low high. absurd (omega arith))

  pub last-left_at : (n : ℕ) → LastBefore acts start n (value_left acts start n)
  last-left_at zero = inr (refl, λ e l. absurd (omega arith))
  last-left_at (suc d) = step d (acts d) refl (last-left_at d)

  -- a column that leaves the attribute, or sets it only from the next column on, does not set it at c
  none-sets : (c e : ℕ) (other : A) → (e < c → acts e ≡ Leaves) → ((value : A) → acts c ≡ SetAt value → ⊥) → ¬ ActsAt acts c e other
  none-sets c e other before here (inl (at, l)) =
      elim (split e c l) [
        | inl low ↦ (let none = before low in cc)
        | inr q ↦ here other (subst (λ (k : ℕ). acts k ≡ SetAt other) q at)
      ]
  none-sets c e other before here (inr (after, l)) = let none = before l in cc

  too-late : (c k : ℕ) (other : A) → c < k → ¬ ActsAt acts c k other
  too-late c k other low (inl (at, l)) = absurd (omega arith)
  too-late c k other low (inr (after, l)) = absurd (omega arith)

  as-set : (c d : ℕ) (value : A) → d < c → Sets acts d value → ActsAt acts c d value
  as-set c d value l (inl at) = inl (at, omega arith)
  as-set c d value l (inr after) = inr (after, l)

  as-last : (c : ℕ) (value : A) → ((value : A) → acts c ≡ SetAt value → ⊥) → LastBefore acts start c value → IsInForce acts start c value
  as-last c value here (inl (d, under, is, after)) = inl (d, as-set c d value under is, λ k other low. none-sets c k other (λ l. after k low l) here)
  as-last c value here (inr (same, all)) = inr (same, λ k other. none-sets c k other (all k) here)

  by_code : (c : ℕ) (x : Effect A) → acts c ≡ x → IsInForce acts start c (value_at x (value_left acts start c))
  by_code c Leaves e = as-last c (value_left acts start c) (λ v q. cc) (last-left_at c)
  by_code c (SetAfter value) e = as-last c (value_left acts start c) (λ v q. cc) (last-left_at c)
  by_code c (SetAt value) e = inl (c, inl (e, omega arith), λ k other low. too-late c k other low)

  pub IsInForce-value_in_force : (c : ℕ) → IsInForce acts start c (value_in_force acts start c)
  IsInForce-value_in_force c = by_code c (acts c) refl

pub attributes_are_in_force_lem : AttributesAreInForce
attributes_are_in_force_lem tall row c = record {
  fore = IsInForce-value_in_force _ _ c;
  back = IsInForce-value_in_force _ _ c;
  flash = IsInForce-value_in_force _ _ c;
  boxed = IsInForce-value_in_force _ _ c;
  double = IsInForce-value_in_force _ _ c;
  concealed = IsInForce-value_in_force _ _ c;
  mosaic = IsInForce-value_in_force _ _ c;
  separated = IsInForce-value_in_force _ _ c;
  hold = IsInForce-value_in_force _ _ c;
}
