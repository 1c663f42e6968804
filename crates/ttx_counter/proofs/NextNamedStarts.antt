-- Named starts in order: none is between one and the next.
use Rattle.std.proofs.Common.{◌≡◌, ℕ, zero, suc, ◌+◌, ◌-◌, ◌%◌, ◌<◌, ◌≤◌, ℤ, pos, negsuc, ◌+ℤ◌, ◌<ℤ◌, ◌≤ℤ◌, Bool, true, false, if◌then◌else◌}
use Rattle.std.proofs.Common.{List, length, get_or, refl, sym, ap, ◌∙◌, inl, inr, arith}
use Rattle.std.specs.Prelude.{nat_lt}
use Rattle.std.specs.List.{Contains}
use Rattle.std.proofs.lemmas.Int.{ints}
use Rattle.std.proofs.lemmas.Bool.{cases_lt, cond_both}
use Rattle.std.proofs.lemmas.Bool.Decides.{nat_tests}
use Rattle.std.proofs.lemmas.Grind.{get_or_default_zero}
use Rattle.std.proofs.Math.Nat.{mod-eq_of_lt, add-mod_right}
use Rattle.ttx_page.specs.Streams.{turned}
use Rattle.ttx_witness.specs.runs.Confirming.{Rising}
use Rattle.ttx_witness.specs.runs.Repeating.{next_start}

-- in a rising list, places are in the order of the elements
below_at : (starts : List ℕ) → Rising starts → (i j : ℕ) → i < length starts → get_or starts i 0 < get_or starts j 0 → i < j
below_at starts rising i j inside lt = elim (cases_lt i j) as (λ _. i < j) [
  | inl h ↦ h
  | inr ge ↦ elim (cases_lt j i) as (λ _. i < j) [
    | inl less ↦ let k = rising j i less inside in absurd (omega arith)
    | inr le ↦ let e : i ≡ j = omega arith in absurd (let k : get_or starts i 0 ≡ get_or starts j 0 = ap (λ x. get_or starts x 0) e in omega arith)
  ]
]

not_below_first : (starts : List ℕ) → Rising starts → (j : ℕ) → j < length starts → get_or starts j 0 < get_or starts 0 0 → ⊥
not_below_first starts rising zero inside lt = omega arith
not_below_first starts rising (suc j) inside lt = let k = rising 0 (suc j) (omega arith) inside in omega arith

module _ (n : ℕ) (starts : List ℕ) (rising : Rising starts) (i : ℕ) (inside : i < length starts) where
  abbrev at : ℕ → ℕ
  at j = get_or starts j 0

  found : (a : ℕ) → Contains starts a → (j : ℕ) × (j < length starts) × (at j ≡ a)
  found a c = (c.0, c.1, sym (get_or_default_zero starts c.0 a c.1) ∙ c.2)

  small : (a : ℕ) → a < n → a % n ≡ a
  small a lt = mod-eq_of_lt lt

  once_round : (a b : ℕ) → n ≤ a → a < b + n → b ≤ n → a % n ≡ a - n
  once_round a b le lt h =
      let e : a ≡ (a - n) + n = omega arith in
      let k : (a - n) < n = omega arith in
      ap (λ x. x % n) e ∙ add-mod_right (a - n) n ∙ mod-eq_of_lt k

  at_number : (a : ℕ) → at i < a → ((j : ℕ) → j < length starts → at j < n) → Contains starts (a % n) → next_start n starts i ≤ℤ pos a
  at_number a lt all c =
      cond_both (nat_lt (i + 1) (length starts)) (pos (at (i + 1))) (pos (at 0) +ℤ pos n) (λ z. z ≤ℤ pos a)
      (λ e. elim (cases_lt a (at (i + 1))) as (λ _. pos (at (i + 1)) ≤ℤ pos a) [
        | inl less ↦
            let next : i + 1 < length starts = grind (arith, nat_tests) in
            let f = found (a % n) c in
            let top = all (i + 1) next in
            let same : a % n ≡ a = small a (omega arith) in
            let up : i < f.0 = below_at starts rising i f.0 inside (omega (arith, f.2)) in
            let down : f.0 < i + 1 = below_at starts rising f.0 (i + 1) f.1 (omega (arith, f.2)) in
            absurd (omega arith)
        | inr ge ↦ omega (arith, ints)
      ])
      (λ e. elim (cases_lt a (at 0 + n)) as (λ _. (pos (at 0) +ℤ pos n) ≤ℤ pos a) [
        | inl less ↦
            let last : length starts ≤ i + 1 = grind (arith, nat_tests) in
            let f = found (a % n) c in
            let first = all 0 (omega arith) in
            elim (cases_lt a n) as (λ _. (pos (at 0) +ℤ pos n) ≤ℤ pos a) [
              | inl low ↦
                  let same : a % n ≡ a = small a low in
                  let up : i < f.0 = below_at starts rising i f.0 inside (omega (arith, f.2)) in
                  let top = f.1 in
                  absurd (omega arith)
              | inr high ↦
                  let same : a % n ≡ a - n = once_round a (at 0) high less (omega arith) in
                  absurd (not_below_first starts rising f.0 f.1 (omega (arith, f.2)))
            ]
        | inr ge ↦ omega (arith, ints)
      ])

  -- a named start after another one is not before the next one
  pub next_at_most : ((j : ℕ) → j < length starts → at j < n) → (z : ℤ) → pos (at i) <ℤ z → Contains starts (turned n z) → next_start n starts i ≤ℤ z
  next_at_most all (pos a) lt c = at_number a (omega (arith, ints)) all c
  next_at_most all (negsuc a) lt c = absurd (omega (arith, ints))
