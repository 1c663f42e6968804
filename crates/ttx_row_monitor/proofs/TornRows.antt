-- Rows that are received whole, and rows with one wrong bit in each byte.
use Rattle.std.proofs.Common.{◌≡◌, ◌≢◌, ℕ, ◌+◌, ◌-◌, ◌^◌, ◌<◌, ◌≤◌, ◌&&◌, not, leb, Bool, true, false, ◌==◌, List, All, drop, length, get_or, refl, sym, ap, ◌∙◌, subst, inl, inr}
use Rattle.std.proofs.Common.{arith, eqb-true, eq-eqb, leb-true, length-set, slice_set, get_or-set_same, get_or-set_other, bit_xor}
use Rattle.std.proofs.lemmas.Bool.{agree_below, agree_below_at, cases_Bool, cases_lt, not-true, and_parts, both_ways}
use Rattle.std.proofs.lemmas.List.{get_or-drop, ext_get_or, length-drop}
use Rattle.std.proofs.lemmas.Grind.{get_or_default_zero}
use Rattle.ttx_code.specs.Words.{Near, ones, distance, IsOdd, is_odd}
use Rattle.ttx_packet.specs.Slots.{IsSlot, is_empty}
use Rattle.ttx_packet.specs.Receptions.{MayBeReceivedAs}
use Rattle.ttx_rows.specs.RowReceptions.{IsWhole}
use Rattle.ttx_row_monitor.specs.Muting.{flipped}

abbrev is_flipped : ℕ → Bool
is_flipped b = leb (bit_xor b 1) 255 && leb (distance b (bit_xor b 1)) 1 && leb (distance b b) 1 && not (bit_xor b 1 == b)

flips : agree_below is_flipped (λ _. true) 256 ≡ true
unfolding ones distance
flips = refl

flip_at : (b : ℕ) → b < 256 → is_flipped b ≡ true
flip_at b lt = agree_below_at is_flipped (λ _. true) 256 b flips lt

flip_byte : (b : ℕ) → b < 256 → flipped b < 2 ^ 8
flip_byte b lt = let h : bit_xor b 1 ≤ 255 = leb-true _ _ ((and_parts _ _ (and_parts _ _ (and_parts _ _ (flip_at b lt)).0).0).0) in omega arith

flip_near : (b : ℕ) → b < 256 → Near b (flipped b)
flip_near b lt = leb-true _ _ ((and_parts _ _ (and_parts _ _ (and_parts _ _ (flip_at b lt)).0).0).1)

same_near : (b : ℕ) → b < 256 → Near b b
same_near b lt = leb-true _ _ ((and_parts _ _ (and_parts _ _ (flip_at b lt)).0).1)

flip_other : (b : ℕ) → b < 256 → flipped b ≢ b
flip_other b lt = λ e. both_ways _ (not-true _ ((and_parts _ _ (flip_at b lt)).1)) (eq-eqb _ _ e)

-- bytes 2 to x - 1 are flipped
pub record IsTornTo (sent packet : List ℕ) (x : ℕ) : Type 0 where
  pub size : length packet ≡ 42
  pub done : (y : ℕ) → 2 ≤ y → y < x → get_or packet y 0 ≡ flipped (get_or sent y 0)
  pub front : (y : ℕ) → y < 2 → get_or packet y 0 ≡ get_or sent y 0
  pub rest : (y : ℕ) → x ≤ y → get_or packet y 0 ≡ get_or sent y 0

pub torn_first : (sent : List ℕ) → length sent ≡ 42 → IsTornTo sent sent 2
torn_first sent size = record {
  size = size;
  done = λ y low high. absurd (omega arith);
  front = λ y lt. refl;
  rest = λ y le. refl;
}

pub torn_next : (sent packet : List ℕ) (x : ℕ) → 2 ≤ x → x < 42 → IsTornTo sent packet x → (b : ℕ) → b ≡ flipped (get_or packet x 0) →
    IsTornTo sent (slice_set packet x b) (x + 1)
torn_next sent packet x low high t b is = record {
  size = length-set packet x b ∙ t.size;
  done = λ y ge lt. elim (cases_Bool (y == x)) as (λ _. get_or (slice_set packet x b) y 0 ≡ flipped (get_or sent y 0)) [
    | inl e ↦
        let same : y ≡ x = eqb-true y x e in
        subst (λ z. get_or (slice_set packet x b) z 0 ≡ flipped (get_or sent z 0)) (sym same)
        (get_or-set_same packet x b 0 (let s = t.size in omega arith) ∙ is ∙ ap flipped (t.rest x (omega arith)))
    | inr e ↦
        let before : y < x = differ y x lt e in
        get_or-set_other packet x y b 0 (λ q. both_ways _ e (eq-eqb y x q)) ∙ t.done y ge before
  ];
  front = λ y lt. get_or-set_other packet x y b 0 (λ q. absurd (omega arith)) ∙ t.front y lt;
  rest = λ y ge. get_or-set_other packet x y b 0 (λ q. absurd (omega arith)) ∙ t.rest y (omega arith);
}
  where
    differ : (y x : ℕ) → y < x + 1 → (y == x) ≡ false → y < x
    differ y x lt e = elim (cases_lt y x) as (λ _. y < x) [
      | inl before ↦ before
      | inr after ↦ absurd (let q : y ≡ x = omega arith in both_ways _ e (eq-eqb y x q))
    ]

-- what a torn packet is
module _ (sent packet : List ℕ) (s : IsSlot sent) (t : IsTornTo sent packet 42) where
  torn_byte : (P : ℕ → ℕ → Type 0) → ((b : ℕ) → b < 256 → P b (flipped b)) → ((b : ℕ) → b < 256 → P b b) → (x : ℕ) →
      P (get_or sent x 0) (get_or packet x 0)
  torn_byte P flips same x = elim (cases_lt x 2) as (λ _. P (get_or sent x 0) (get_or packet x 0)) [
    | inl front ↦ subst (P (get_or sent x 0)) (sym (t.front x front)) (same (get_or sent x 0) (s.bytes x))
    | inr behind ↦ elim (cases_lt x 42) as (λ _. P (get_or sent x 0) (get_or packet x 0)) [
      | inl text ↦ subst (P (get_or sent x 0)) (sym (t.done x behind text)) (flips (get_or sent x 0) (s.bytes x))
      | inr past ↦ subst (P (get_or sent x 0)) (sym (t.rest x past)) (same (get_or sent x 0) (s.bytes x))
    ]
  ]

  pub torn_slot : IsSlot packet
  torn_slot = record { size = t.size; bytes = torn_byte (λ _ b. b < 2 ^ 8) flip_byte (λ b lt. lt) }

  pub torn_near : is_empty sent ≡ false → MayBeReceivedAs sent packet
  torn_near some = record {
    slot = torn_slot;
    empty = λ none. absurd (both_ways _ some none);
    near = λ x lt. inr (torn_byte Near flip_near same_near x);
  }

  pub torn_wrong : (x : ℕ) → 2 ≤ x → x < 42 → get_or packet x 0 ≢ get_or sent x 0
  torn_wrong x low high = λ e. flip_other (get_or sent x 0) (s.bytes x) (sym (t.done x low high) ∙ e)

-- rows that are received whole
module _ (sent received : List ℕ) where
  text_at : (l : List ℕ) (x : ℕ) → 2 ≤ x → get_or (drop 2 l) (x - 2) 0 ≡ get_or l x 0
  text_at l x low = let e : 2 + (x - 2) ≡ x = omega arith in get_or-drop 2 l (x - 2) 0 ∙ ap (λ n. get_or l n 0) e

  pub whole : MayBeReceivedAs sent received → drop 2 received ≡ drop 2 sent → All IsOdd (drop 2 received) → length (drop 2 received) ≡ 40 →
      IsWhole sent received
  whole may same odd size = record {
    may = may;
    right = λ x low high. sym (text_at received x low) ∙ ap (λ l. get_or l (x - 2) 0) same ∙ text_at sent x low;
    odd = λ x low high. subst (λ b. is_odd b ≡ true) (text_at received x low) (eq-eqb _ _ (odd (x - 2) 0 (omega arith)));
  }

  pub torn_text : length received ≡ 42 → length sent ≡ 42 → IsWhole sent received → drop 2 received ≡ drop 2 sent
  torn_text r s w = ext_get_or 0 (drop 2 received) (drop 2 sent) (let a = length-drop 2 received in let b = length-drop 2 sent in omega arith)
      (λ i lt. get_or-drop 2 received i 0 ∙ w.right (2 + i) (omega arith) (let a = length-drop 2 received in omega arith) ∙ sym (get_or-drop 2 sent i 0))

  pub torn_parity : length received ≡ 42 → IsWhole sent received → All IsOdd (drop 2 received)
  torn_parity r w = λ i d lt.
      let high : 2 + i < 42 = let a = length-drop 2 received in omega arith in
      subst IsOdd (sym (get_or-drop 2 received i d ∙ default received (2 + i) d (omega arith))) (eqb-true _ _ (w.odd (2 + i) (omega arith) high))
    where
      default : (l : List ℕ) (i d : ℕ) → i < length l → get_or l i d ≡ get_or l i 0
      default l i d lt = get_or_default_zero l i d lt

pub and_not : (a b : Bool) → (a && not b) ≡ true → b ≡ false
and_not true true h = absurd (both_ways _ refl h)
and_not true false h = refl
and_not false b h = absurd (both_ways _ refl h)
