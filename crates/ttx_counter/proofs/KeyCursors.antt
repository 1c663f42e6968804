-- Sorted keys, slot by slot.
use Rattle.std.proofs.Common.{◌≡◌, ℕ, suc, ◌+◌, ◌*◌, ◌/◌, ◌<◌, ◌≤◌, Bool, true, false, ◌||◌, ◌==◌, List, [], ◌∷◌, length, get_or, refl, sym, ap, ◌∙◌}
use Rattle.std.proofs.Common.{inl, inr, arith, eqb-true, eq-eqb}
use Rattle.std.specs.List.{list_any}
use Rattle.std.specs.List.Sorted.{IsNonDecreasing}
use Rattle.std.proofs.lemmas.Bool.{cases_lt, both_ways, cases_Bool}
use Rattle.std.proofs.lemmas.List.Folds.{list_any_at}
use Rattle.ttx_counter.specs.Keys.{key_at, slot_in, byte_in, byte_place, is_hit, AreSlotKeys}
use Rattle.ttx_counter.specs.Rule.{IsCursor}

-- the parts of a key
pub parts : (key : ℕ) → byte_place key ≡ slot_in key * 256 + byte_in key
parts key = omega arith

pub byte_small : (key : ℕ) → byte_in key < 256
byte_small key = omega arith

pub same_parts : (a n x : ℕ) → x < 256 → byte_place a ≡ n * 256 + x → (slot_in a ≡ n) × (byte_in a ≡ x)
same_parts a n x lt e = (omega (arith, parts a, byte_small a), omega (arith, parts a, byte_small a))

any_index : (p : ℕ → Bool) (xs : List ℕ) → list_any p xs ≡ true → (i : ℕ) × (i < length xs) × (p (get_or xs i 0) ≡ true)
any_index p [] h = absurd (both_ways _ refl h)
any_index p (x ∷ xs) h = elim (cases_Bool (p x)) as (λ _. (i : ℕ) × (i < length (x ∷ xs)) × (p (get_or (x ∷ xs) i 0) ≡ true)) [
  | inl e ↦ (0, omega arith, e)
  | inr e ↦ let w = any_index p xs (sym (ap (λ b. b || list_any p xs) e) ∙ h) in (suc w.0, (let b = w.1 in omega arith), w.2)
]

module _ (keys : List ℕ) where
  pub hit_index : (n x : ℕ) → x < 256 → is_hit keys x n ≡ true → (i : ℕ) × (i < length keys) × (slot_in (key_at keys i) ≡ n)
      × (byte_in (key_at keys i) ≡ x)
  unfolding is_hit
  hit_index n x lt h =
      let w = any_index (λ key. byte_place key == n * 256 + x) keys h in
      let e = same_parts (key_at keys w.0) n x lt (eqb-true _ _ w.2) in
      (w.0, w.1, e.0, e.1)

  pub index_hit : (n x i : ℕ) → i < length keys → slot_in (key_at keys i) ≡ n → byte_in (key_at keys i) ≡ x → is_hit keys x n ≡ true
  unfolding is_hit
  index_hit n x i lt e f = list_any_at (λ key. byte_place key == n * 256 + x) keys i 0 lt (eq-eqb _ _ (omega (arith, parts (key_at keys i))))

  pub cursor_begins : IsCursor keys 0 0
  cursor_begins = record { within = omega arith; before = λ i lt. absurd (omega arith); after = λ i a b. omega arith }

  module _ (sorted : IsNonDecreasing keys) (n from to : ℕ) (c : IsCursor keys n from) (s : AreSlotKeys keys n from to) where
    slot_rises : (i j : ℕ) → i ≤ j → j < length keys → slot_in (key_at keys i) ≤ slot_in (key_at keys j)
    slot_rises i j le lt = div_mono (key_at keys i) (key_at keys j) (sorted i j 0 le lt)
      where
        div_mono : (a b : ℕ) → a ≤ b → a / 65536 ≤ b / 65536
        div_mono a b h = omega arith

    later : (i : ℕ) → to ≤ i → i < length keys → n + 1 ≤ slot_in (key_at keys i)
    later i le lt =
        let up = s.up in
        let here = c.after to up (omega arith) in
        let not_n = s.ended (omega arith) in
        let rise = slot_rises to i le lt in
        elim (cases_lt n (slot_in (key_at keys to))) as
        (λ _. n + 1 ≤ slot_in (key_at keys i)) [ inl h ↦ omega arith | inr h ↦ absurd (not_n (omega arith)) ]

    pub cursor_next : IsCursor keys (n + 1) to
    cursor_next = record {
      within = s.within;
      before = λ i lt. elim (cases_lt i from) as
          (λ _. slot_in (key_at keys i) < n + 1)
          [ inl h ↦ (let b = c.before i h in omega arith) | inr h ↦ (let b = s.own i h lt in omega arith) ];
      after = later;
    }

    -- the keys of the slot are those
    pub hit_here : (i : ℕ) → from ≤ i → i < to → is_hit keys (byte_in (key_at keys i)) n ≡ true
    hit_here i low high = index_hit n (byte_in (key_at keys i)) i (let w = s.within in omega arith) (s.own i low high) refl

    pub inside : (i : ℕ) → i < length keys → slot_in (key_at keys i) ≡ n → (from ≤ i) × (i < to)
    inside i lt e = (
      elim (cases_lt i from) as (λ _. from ≤ i) [ inl h ↦ absurd (let b = c.before i h in omega arith) | inr h ↦ h ],
      elim (cases_lt i to) as (λ _. i < to) [ inl h ↦ h | inr h ↦ absurd (let b = later i h lt in omega arith) ],
    )

    pub not_hit : (x : ℕ) → x < 256 → ((i : ℕ) → from ≤ i → i < to → byte_in (key_at keys i) ≡ x → ⊥) → is_hit keys x n ≡ false
    not_hit x lt none = elim (cases_Bool (is_hit keys x n)) as (λ _. is_hit keys x n ≡ false)
        [ inl h ↦ (let w = hit_index n x lt h in let at = inside w.0 w.1 w.2 in absurd (none w.0 at.0 at.1 w.3)) | inr h ↦ h ]
