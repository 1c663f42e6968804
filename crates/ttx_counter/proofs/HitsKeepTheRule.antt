-- What is received with hits is within the error rule if and only if the hits keep the rule of k.
use Rattle.std.proofs.Common.{◌≡◌, ℕ, ◌<◌, ◌^◌, ℤ, pos, ◌+ℤ◌, true, false, List, [], ◌∷◌, length, get_or, sym, ◌∙◌, subst, inl, inr, arith}
use Rattle.std.specs.List.{AllByRecursion}
use Rattle.std.proofs.lemmas.Int.{ints}
use Rattle.std.proofs.lemmas.Bool.{cases_lt, both_ways, cases_Bool}
use Rattle.std.proofs.lemmas.Grind.{same_number_lists}
use Rattle.std.proofs.lemmas.List.{ext_get_or, get_or_past}
use Rattle.ttx_code.specs.Words.{Near}
use Rattle.ttx_code.specs.Laws.{EachByteIsNearItself}
use Rattle.ttx_packet.specs.Slots.{IsSlot, is_empty}
use Rattle.ttx_packet.specs.Receptions.{MayBeReceivedAs}
use Rattle.ttx_header.specs.Ids.{Id}
use Rattle.ttx_page.specs.declared.item.Item.{Item}
use Rattle.ttx_page.specs.declared.item.Item.TheVariants.{Head as TheHead, Row as TheRow, Links as TheLinks}
use Rattle.ttx_page.specs.Streams.{Stream}
use Rattle.ttx_page.specs.Receptions.{IsTextByte, IsRight, OneIs, Received}
use Rattle.ttx_counter.specs.Keys.{key_at, slot_in, byte_in, bit_in, IsKey, is_hit}
use Rattle.ttx_counter.specs.Streaks.{IsInside, IsRightAmong}
use Rattle.ttx_counter.specs.Rule.{KeepsRule}
use Rattle.ttx_counter.specs.Hearing.{IsHitBy}
use Rattle.ttx_counter.proofs.KeyCursors.{hit_index, index_hit}
use Rattle.ttx_counter.proofs.FlippedBits.{IsFlip, flip}

text_low : (item : Item) (x : ℕ) → IsTextByte item x → x < 42
text_low TheHead x t = let h = t.1 in omega arith
text_low (TheRow r) x t = t.1
text_low TheLinks x t = absurd t

one_of : (P Q : ℤ → Type 0) (list : List ℤ) (R : ℤ → Type 0) → AllByRecursion R list → ((j : ℤ) → R j → P j → Q j) → OneIs P list → OneIs Q list
one_of P Q [] R a f h = h
one_of P Q (j ∷ list) R a f (inl h) = inl (f j a.0 h)
one_of P Q (j ∷ list) R a f (inr h) = inr (one_of P Q list R a.1 f h)

-- one slot
module _ (keys : List ℕ) (each : (i : ℕ) → i < length keys → IsKey (key_at keys i)) (n : ℕ) (sent received : List ℕ)
    (slot : IsSlot sent) (by : IsHitBy keys n sent received) where
  hit_byte : (x : ℕ) → x < 256 → is_hit keys x n ≡ true → IsFlip (get_or sent x 0) (get_or received x 0)
  hit_byte x lt h =
      let w = hit_index keys n x lt h in
      let k = each w.0 w.1 in
      subst (λ y. IsFlip (get_or sent y 0) (get_or received y 0)) w.3
      (subst (IsFlip (get_or sent (byte_in (key_at keys w.0)) 0)) (sym (by.hit w.0 w.1 w.2))
      (flip (bit_in (key_at keys w.0)) (get_or sent (byte_in (key_at keys w.0)) 0) k.some k.bit (slot.bytes (byte_in (key_at keys w.0)))))

  pub right_byte : (x : ℕ) → is_hit keys x n ≡ false → get_or received x 0 ≡ get_or sent x 0
  right_byte x h = by.other x (λ i lt e f. both_ways _ h (index_hit keys n x i lt e f))

  pub wrong_byte : (x : ℕ) → x < 256 → get_or received x 0 ≡ get_or sent x 0 → is_hit keys x n ≡ false
  wrong_byte x lt e = elim (cases_Bool (is_hit keys x n)) as (λ _. is_hit keys x n ≡ false) [ inl h ↦ absurd ((hit_byte x lt h).other e) | inr h ↦ h ]

  is_slot : IsSlot received
  is_slot = record {
    size = by.size ∙ slot.size;
    bytes = λ x. elim (cases_lt x 256) as (λ _. get_or received x 0 < 2 ^ 8) [
      | inl lt ↦ elim (cases_Bool (is_hit keys x n)) as (λ _. get_or received x 0 < 2 ^ 8)
          [ inl h ↦ (hit_byte x lt h).byte | inr h ↦ (let b = slot.bytes x in let e = right_byte x h in omega arith) ]
      | inr ge ↦ (let e = get_or_past received x 0 (let a = by.size in let b = slot.size in omega arith) in omega arith)
    ];
  }

  pub may_be : EachByteIsNearItself → (is_empty sent ≡ true → (x : ℕ) → x < 256 → is_hit keys x n ≡ false) → MayBeReceivedAs sent received
  may_be itself none = record {
    slot = is_slot;
    empty = λ e. subst (λ l. is_empty l ≡ true)
        (sym (same_number_lists received sent by.size
        (λ x lt. right_byte x (none e x (let a = by.size in let b = slot.size in omega arith))))) e;
    near = λ x lt. inr (elim (cases_Bool (is_hit keys x n)) as (λ _. Near (get_or sent x 0) (get_or received x 0)) [
      | inl h ↦ (hit_byte x (omega arith) h).near
      | inr h ↦ subst (Near (get_or sent x 0)) (sym (right_byte x h)) (itself (get_or sent x 0))
    ]);
  }

  pub only_one : (other : List ℕ) → IsHitBy keys n sent other → received ≡ other
  only_one other o = same_number_lists received other (by.size ∙ sym o.size)
      (λ x lt. elim (cases_Bool (is_hit keys x n)) as (λ _. get_or received x 0 ≡ get_or other x 0) [
        | inl h ↦
            let small : x < 256 = let a = by.size in let b = slot.size in omega arith in
            let w = hit_index keys n x small h in
            subst (λ y. get_or received y 0 ≡ get_or other y 0) w.3 (by.hit w.0 w.1 w.2 ∙ sym (o.hit w.0 w.1 w.2))
        | inr h ↦ right_byte x h ∙ sym (o.other x (λ i lt e f. both_ways _ h (index_hit keys n x i lt e f)))
      ])

-- the slots of a run
module _ (s : Stream) (slot : (j : ℤ) → IsSlot (s j)) (page : Id) (start slots k : ℕ) (keys : List ℕ)
    (each : (i : ℕ) → i < length keys → IsKey (key_at keys i)) where
  abbrev Heard : List (List ℕ) → Type 0
  Heard rs = (i : ℕ) → i < slots → IsHitBy keys i (s (pos start +ℤ pos i)) (get_or rs i [])

  pub received : EachByteIsNearItself → ((i : ℕ) → i < length keys → is_empty (s (pos start +ℤ pos (slot_in (key_at keys i)))) ≡ false)
      → (rs : List (List ℕ)) → length rs ≡ slots → Heard rs →
      KeepsRule s page start slots k keys → Received s page k (pos start) rs
  received itself full rs count heard rule = record {
    each = λ n lt.
        let inside : n < slots = omega arith in
        may_be keys each n (s (pos start +ℤ pos n)) (get_or rs n []) (slot (pos start +ℤ pos n)) (heard n inside) itself
        (λ e x small. not_hit n x small e);
    one_right = λ item x text list len succ inside.
        let within : AllByRecursion (IsInside (pos start) slots) list = subst (λ m. AllByRecursion (IsInside (pos start) m) list) count inside in
        one_of (IsRightAmong (pos start) slots (is_hit keys x)) (IsRight s (pos start) rs x) list (IsInside (pos start) slots) within
        (λ j a r. record {
          index = r.index;
          place = r.place;
          right = subst (λ y. get_or (get_or rs r.index []) x 0 ≡ get_or (s y) x 0) (sym r.place)
              (right_byte keys each r.index (s (pos start +ℤ pos r.index)) (get_or rs r.index []) (slot (pos start +ℤ pos r.index))
              (heard r.index r.below) x r.told);
        })
        (rule item x text list len succ within);
  }
    where
      not_hit : (n x : ℕ) → x < 256 → is_empty (s (pos start +ℤ pos n)) ≡ true → is_hit keys x n ≡ false
      not_hit n x small e = elim (cases_Bool (is_hit keys x n)) as (λ _. is_hit keys x n ≡ false) [
        | inl h ↦ let w = hit_index keys n x small h
            in absurd (both_ways _ (subst (λ m. is_empty (s (pos start +ℤ pos m)) ≡ false) w.2 (full w.0 w.1)) e)
        | inr h ↦ h
      ]

  pub keeps : (rs : List (List ℕ)) → length rs ≡ slots → Heard rs → Received s page k (pos start) rs → KeepsRule s page start slots k keys
  keeps rs count heard r item x text list len succ inside =
      one_of (IsRight s (pos start) rs x) (IsRightAmong (pos start) slots (is_hit keys x)) list (IsInside (pos start) slots) inside
      (λ j a w.
      let at = w.place in
      let below : w.index < slots = let b = a.1 in omega (arith, ints) in
      record {
        index = w.index;
        below = below;
        place = at;
        told = wrong_byte keys each w.index (s (pos start +ℤ pos w.index)) (get_or rs w.index []) (slot (pos start +ℤ pos w.index))
            (heard w.index below) x (let l = text_low item x text in omega arith)
            (subst (λ y. get_or (get_or rs w.index []) x 0 ≡ get_or (s y) x 0) at w.right);
      })
      (r.one_right item x text list len succ (subst (λ m. AllByRecursion (IsInside (pos start) m) list) (sym count) inside))

  pub only_list : (rs others : List (List ℕ)) → length rs ≡ slots → length others ≡ slots → Heard rs → Heard others → rs ≡ others
  only_list rs others a b h o = ext_get_or [] rs others (a ∙ sym b) (λ i lt.
      let inside : i < slots = omega arith in
      only_one keys each i (s (pos start +ℤ pos i)) (get_or rs i []) (slot (pos start +ℤ pos i)) (h i inside) (get_or others i []) (o i inside))
