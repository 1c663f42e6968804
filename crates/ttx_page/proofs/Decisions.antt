-- Tests and choices.
use Rattle.std.proofs.Common.{◌≡◌, ◌⊎◌, ℕ, ◌==◌, eqb-true, eq-eqb, sym, Bool, true, false, ◌&&◌}
use Rattle.std.proofs.Common.{if◌then◌else◌, List, [], ◌∷◌, Option, Some, None, refl, ap, inl, inr}

pub eq_sym : (a b : ℕ) → (a == b) ≡ true → (b == a) ≡ true
eq_sym a b h = eq-eqb b a (sym (eqb-true a b h))

-- a fact or its refutation
abbrev pub Decided : Type 0 → Type 0
Decided P = P ⊎ (P → ⊥)

pub by_refuting : {P : Type 0} → Decided P → ((P → ⊥) → ⊥) → P
by_refuting (inl p) f = p
by_refuting (inr n) f = absurd (f n)

pub both : {P Q : Type 0} → Decided P → Decided Q → Decided (P × Q)
both (inl p) (inl q) = inl (p, q)
both (inl p) (inr n) = inr (λ b. n b.1)
both (inr n) q = inr (λ b. n b.0)

pub same_bool : (a b : Bool) → Decided (a ≡ b)
same_bool true true = inl refl
same_bool false false = inl refl
same_bool true false = inr (λ e. cc)
same_bool false true = inr (λ e. cc)

module _ {A : Type 0} (same : (a b : A) → Decided (a ≡ b)) where
  pub same_option : (a b : Option A) → Decided (a ≡ b)
  same_option None None = inl refl
  same_option None (Some b) = inr (λ e. cc)
  same_option (Some a) None = inr (λ e. cc)
  same_option (Some a) (Some b) = elim (same a b) as (λ _. Decided (Some a ≡ Some b)) [ inl e ↦ inl (ap Some e) | inr ne ↦ inr (λ e. ne (cc)) ]

  pub same_list : (xs ys : List A) → Decided (xs ≡ ys)
  same_list [] [] = inl refl
  same_list [] (y ∷ ys) = inr (λ e. cc)
  same_list (x ∷ xs) [] = inr (λ e. cc)
  same_list (x ∷ xs) (y ∷ ys) = elim (same x y) as (λ _. Decided ((x ∷ xs) ≡ (y ∷ ys))) [
    | inl e ↦ elim (same_list xs ys) as (λ _. Decided ((x ∷ xs) ≡ (y ∷ ys))) [ inl f ↦ inl (cc) | inr ne ↦ inr (λ f. ne (cc)) ]
    | inr ne ↦ inr (λ f. ne (cc))
  ]
