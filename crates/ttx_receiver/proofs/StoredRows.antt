-- Stored rows, byte by byte.
use Rattle.std.proofs.Common.{◌≡◌, ◌⊎◌, ℕ, zero, suc, ◌%◌, ◌<◌, true, List, [], ◌∷◌, length, get_or, refl, ap, inl, inr, arith}
use Rattle.std.proofs.lemmas.Bool.{cond_both, both_ways}
use Rattle.ttx_page.specs.Receivers.{stored_row}
use Rattle.ttx_code.specs.Words.{is_odd}

pub length-stored_row : (row text : List ℕ) → length (stored_row row text) ≡ length row
length-stored_row [] text = refl
length-stored_row (x ∷ row) [] = refl
length-stored_row (x ∷ row) (b ∷ text) = ap suc (length-stored_row row text)

-- the stored character is that of a byte with odd parity
pub record IsTaken (text : List ℕ) (c new : ℕ) : Type 0 where
  pub good : is_odd (get_or text c 0) ≡ true
  pub is : new ≡ get_or text c 0 % 128

pub stored_row_at : (row text : List ℕ) (c : ℕ) → c < length row → (get_or (stored_row row text) c 0 ≡ get_or row c 0)
    ⊎ IsTaken text c (get_or (stored_row row text) c 0)
stored_row_at [] text c h = inl refl
stored_row_at (x ∷ row) [] c h = inl refl
stored_row_at (x ∷ row) (b ∷ text) zero h =
    cond_both (is_odd b) (b % 128) x (λ v. (v ≡ x) ⊎ IsTaken (b ∷ text) 0 v) (λ e. inr (record { good = e; is = refl })) (λ e. inl refl)
stored_row_at (x ∷ row) (b ∷ text) (suc c) h =
    elim (stored_row_at row text c (omega arith)) as
    (λ _. (get_or (stored_row row text) c 0 ≡ get_or row c 0) ⊎ IsTaken (b ∷ text) (suc c) (get_or (stored_row row text) c 0))
    [ inl e ↦ inl e | inr t ↦ inr (record { good = t.good; is = t.is }) ]

-- a byte with odd parity is taken
pub stored_row_good : (row text : List ℕ) (c : ℕ) → c < length row → c < length text → is_odd (get_or text c 0) ≡ true →
    get_or (stored_row row text) c 0 ≡ get_or text c 0 % 128
stored_row_good [] text c h k o = absurd (omega arith)
stored_row_good (x ∷ row) [] c h k o = absurd (omega arith)
stored_row_good (x ∷ row) (b ∷ text) zero h k o =
    cond_both (is_odd b) (b % 128) x (λ v. v ≡ b % 128) (λ e. refl) (λ e. absurd (both_ways (is_odd b) e o))
stored_row_good (x ∷ row) (b ∷ text) (suc c) h k o = stored_row_good row text c (omega arith) (omega arith) o
