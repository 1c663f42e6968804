-- Reception with wrong text in fewer slots than the repeat count.
use Rattle.std.proofs.Common.{◌≡◌, ◌≢◌, ◌⊎◌, ℕ, zero, suc, ◌<◌, ◌≤◌, ℤ, pos, ◌+ℤ◌, ◌<ℤ◌, ◌≤ℤ◌, true, ◌==◌, if◌then◌else◌, List, [], ◌∷◌, length}
use Rattle.std.proofs.Common.{get_or, slice_index, refl, sym, ap, ◌∙◌, subst, inl, inr, arith, eqb-true, eq-eqb}
use Rattle.std.specs.List.{AllByRecursion, Contains}
use Rattle.std.proofs.lemmas.Bool.{cases_lt, cond_both}
use Rattle.std.proofs.lemmas.Int.{ints}
use Rattle.ttx_code.specs.Words.{Near}
use Rattle.ttx_packet.specs.Slots.{IsSlot, Kind, IsEmpty, IsUnreadable, IsHeader, IsRow, IsLinks, IsInfo, IsOther, kind_of, is_empty}
use Rattle.ttx_packet.specs.Receptions.{IsFree, MayBeReceivedAs}
use Rattle.ttx_packet.specs.Laws.{EmptySlotsAreEmpty}
use Rattle.ttx_header.specs.Ids.{Id}
use Rattle.ttx_page.specs.Packets.{packet_of, packet_of_kind}
use Rattle.ttx_page.specs.Pages.{Item, TheHead, TheRow, TheLinks}
use Rattle.ttx_page.specs.Streams.{Stream, heads_page, carries, IsTransmission, AreSuccessive}
use Rattle.ttx_page.specs.Receptions.{IsTextByte, IsRight, OneIs, Received}
use Rattle.ttx_page.specs.ErrorRule.{AreSame, HasRightText, HasWrongText, WrongTextIsReceived}
use Rattle.ttx_page.proofs.ExactReception.{near_self}
use Rattle.ttx_page.proofs.SlotDistances.{offset, offset_lt}

-- ---- numbers in a list

IsIn : List ℕ → ℕ → Type 0
IsIn [] n = ⊥
IsIn (w ∷ ws) n = (w ≡ n) ⊎ IsIn ws n

is_in : (ws : List ℕ) (n : ℕ) → Contains ws n → IsIn ws n
unfolding IsIn
is_in [] n c = let lt = c.1 in absurd (omega arith)
is_in (w ∷ ws) n (zero, lt, e) = inl e
is_in (w ∷ ws) n (suc k, lt, e) = inr (is_in ws n (k, omega arith, e))

without : ℕ → List ℕ → List ℕ
without n [] = []
without n (w ∷ ws) = if w == n then ws else w ∷ without n ws

shorter : (n : ℕ) (ws : List ℕ) → IsIn ws n → length ws ≡ suc (length (without n ws))
unfolding IsIn without
shorter n [] i = absurd i
shorter n (w ∷ ws) i = cond_both (w == n) ws (w ∷ without n ws) (λ (xs : List ℕ). suc (length ws) ≡ suc (length xs)) (λ t. refl)
    (λ f. elim i as (λ _. suc (length ws) ≡ suc (suc (length (without n ws)))) [
      | inl e ↦ let t : (w == n) ≡ true = eq-eqb w n e in cc
      | inr r ↦ ap suc (shorter n ws r)
    ])

stays : (n m : ℕ) (ws : List ℕ) → m ≢ n → IsIn ws m → IsIn (without n ws) m
unfolding IsIn without
stays n m [] ne i = i
stays n m (w ∷ ws) ne i = cond_both (w == n) ws (w ∷ without n ws) (λ (xs : List ℕ). IsIn xs m)
    (λ t. elim i as (λ _. IsIn ws m) [ inl e ↦ absurd (ne (sym e ∙ eqb-true w n t)) | inr r ↦ r ])
    (λ f. elim i as (λ _. (w ≡ m) ⊎ IsIn (without n ws) m) [ inl e ↦ inl e | inr r ↦ inr (stays n m ws ne r) ])

-- ---- one slot

near_same : (sent received : List ℕ) (x : ℕ) → slice_index received x ≡ slice_index sent x → Near (slice_index sent x) (slice_index received x)
near_same sent received x e = subst (λ b. Near (slice_index sent x) b) (sym e) (near_self (slice_index sent x))

near_of : (kind : Kind) (sent received : List ℕ) → HasRightText kind sent received → (x : ℕ) → x < 42 → IsFree kind x
    ⊎ Near (slice_index sent x) (slice_index received x)
near_of IsEmpty sent received right x lt = inr (near_same sent received x (ap (λ slot. slice_index slot x) right))
near_of IsUnreadable sent received right x lt = inr (right x (omega arith) lt)
near_of (IsHeader mag) sent received right x lt = elim (cases_lt x 34) as (λ _. (34 ≤ x) ⊎ Near (slice_index sent x) (slice_index received x)) [
  | inr past ↦ inl past
  | inl below ↦ elim (cases_lt x 10) as (λ _. (34 ≤ x) ⊎ Near (slice_index sent x) (slice_index received x)) [
    | inl front ↦ inr (right.0 x (omega arith) front)
    | inr text ↦ inr (near_same sent received x (right.1 x text below))
  ]
]
near_of (IsRow mag number) sent received right x lt = elim (cases_lt x 2) as (λ _. ⊥ ⊎ Near (slice_index sent x) (slice_index received x)) [
  | inl front ↦ inr (right.0 x (omega arith) front)
  | inr text ↦ inr (near_same sent received x (right.1 x text lt))
]
near_of (IsLinks mag) sent received right x lt = inr (right x (omega arith) lt)
near_of IsInfo sent received right x lt = elim (cases_lt x 2) as (λ _. (2 ≤ x) ⊎ Near (slice_index sent x) (slice_index received x)) [
  | inl front ↦ inr (right x (omega arith) front)
  | inr past ↦ inl past
]
near_of (IsOther mag number) sent received right x lt = inr (right x (omega arith) lt)

head_text : (kind : Kind) (page : Id) (sent received : List ℕ) → heads_page page (packet_of_kind sent kind) ≡ true →
    HasRightText kind sent received → AreSame 10 34 sent received
head_text IsEmpty page sent received h right = cc
head_text IsUnreadable page sent received h right = cc
head_text (IsHeader mag) page sent received h right = right.1
head_text (IsRow mag number) page sent received h right = cc
head_text (IsLinks mag) page sent received h right = cc
head_text IsInfo page sent received h right = cc
head_text (IsOther mag number) page sent received h right = cc

row_text : (kind : Kind) (mag r : ℕ) (sent received : List ℕ) → carries mag (TheRow r) (packet_of_kind sent kind) ≡ true →
    HasRightText kind sent received → AreSame 2 42 sent received
row_text IsEmpty mag r sent received h right = cc
row_text IsUnreadable mag r sent received h right = cc
row_text (IsHeader m) mag r sent received h right = cc
row_text (IsRow m number) mag r sent received h right = right.1
row_text (IsLinks m) mag r sent received h right = cc
row_text IsInfo mag r sent received h right = cc
row_text (IsOther m number) mag r sent received h right = cc

-- the text of a transmission is right
text_right : (s : Stream) (page : Id) (item : Item) (x : ℕ) (j : ℤ) (received : List ℕ) → IsTransmission s page item j → IsTextByte item x →
    HasRightText (kind_of (s j)) (s j) received → slice_index received x ≡ slice_index (s j) x
unfolding packet_of
text_right s page TheHead x j received t text right = head_text (kind_of (s j)) page (s j) received t.owned.1 right x text.0 text.1
text_right s page (TheRow r) x j received t text right = row_text (kind_of (s j)) page.mag r (s j) received t.owned.2 right x text.0 text.1
text_right s page TheLinks x j received t text right = absurd text

-- ---- many slots

module _ (empty : EmptySlotsAreEmpty) (s : Stream) (page : Id) (tau : ℤ) (received : List (List ℕ)) where
  abbrev Right : ℕ → Type 0
  Right n = HasRightText (kind_of (s (tau +ℤ pos n))) (s (tau +ℤ pos n)) (get_or received n [])

  may_be_right : (sent slot : List ℕ) → IsSlot slot → HasRightText (kind_of sent) sent slot → MayBeReceivedAs sent slot
  may_be_right sent slot is right = record {
    slot = is;
    empty = λ e. let same : slot ≡ sent = subst (λ k. HasRightText k sent slot) ((empty sent).1 e) right
        in subst (λ z. is_empty z ≡ true) (sym same) e;
    near = near_of (kind_of sent) sent slot right;
  }

  may_be_wrong : (sent slot : List ℕ) → IsSlot slot → HasWrongText sent slot → MayBeReceivedAs sent slot
  may_be_wrong sent slot is wrong = record { slot = is; empty = λ e. let f = wrong.0 in cc; near = λ x lt. inr (wrong.1 x (omega arith) lt) }

  abbrev Inside : List ℤ → Type 0
  Inside = AllByRecursion (λ j. (tau ≤ℤ j) × (j <ℤ (tau +ℤ pos (length received))))

  right_here : (item : Item) (x : ℕ) (j : ℤ) (n : ℕ) → j ≡ tau +ℤ pos n → IsTransmission s page item j → IsTextByte item x → Right n →
      IsRight s tau received x j
  right_here item x j n e t text right = record {
    index = n;
    place = e;
    right = text_right s page item x j (get_or received n []) t text
        (subst (λ i. HasRightText (kind_of (s i)) (s i) (get_or received n [])) (sym e) right);
  }

  after_is_other : (j i : ℤ) (n k : ℕ) → j ≡ tau +ℤ pos k → j <ℤ i → i ≤ℤ (tau +ℤ pos n) → n ≡ k → ⊥
  after_is_other j i n k e lt past same = let p : tau +ℤ pos n ≡ tau +ℤ pos k = ap (λ m. tau +ℤ pos m) same in omega (arith, ints)

  -- the slots from `j` on have their text right, except those of a list that is shorter than the slots
  one_is : (item : Item) (x : ℕ) → IsTextByte item x → (j : ℤ) (rest : List ℤ) (ws : List ℕ) → AreSuccessive s page item (j ∷ rest) →
      Inside (j ∷ rest) → length ws ≤ length rest →
      ((n : ℕ) → n < length received → j ≤ℤ (tau +ℤ pos n) → Right n ⊎ IsIn ws n) → OneIs (IsRight s tau received x) (j ∷ rest)
  one_is item x text j [] ws t inside short each =
      let k = offset tau j inside.0.0 in
      let lt : k.0 < length received = offset_lt tau k.0 _ (subst (λ z. z <ℤ (tau +ℤ pos (length received))) k.1 inside.0.1) in
      elim (each k.0 lt (omega (arith, ints, k.1))) as (λ _. OneIs (IsRight s tau received x) (j ∷ [])) [
        | inl right ↦ inl (right_here item x j k.0 k.1 t text right)
        | inr w ↦ let more = shorter k.0 ws w in absurd (omega arith)
      ]
  one_is item x text j (i ∷ rest) ws t inside short each =
      let k = offset tau j inside.0.0 in
      let lt : k.0 < length received = offset_lt tau k.0 _ (subst (λ z. z <ℤ (tau +ℤ pos (length received))) k.1 inside.0.1) in
      elim (each k.0 lt (omega (arith, ints, k.1))) as (λ _. OneIs (IsRight s tau received x) (j ∷ i ∷ rest)) [
        | inl right ↦ inl (right_here item x j k.0 k.1 t.0 text right)
        | inr w ↦
            let more = shorter k.0 ws w in
            inr (one_is item x text i rest (without k.0 ws) t.3 inside.1 (omega arith)
            (λ n l past.
            let ne : n ≢ k.0 = λ e. after_is_other j i n k.0 k.1 t.1 past e in
            elim (each n l (omega (arith, ints, t.1))) as
            (λ _. Right n ⊎ IsIn (without k.0 ws) n) [ inl right ↦ inl right | inr m ↦ inr (stays k.0 n ws ne m) ]))
      ]

  pub received_within : (repeat : ℕ) (wrong : List ℕ) → length wrong < repeat →
      ((n : ℕ) → n < length received → IsSlot (get_or received n [])
      × (Right n ⊎ (Contains wrong n × HasWrongText (s (tau +ℤ pos n)) (get_or received n [])))) →
      Received s page repeat tau received
  received_within repeat wrong short each = record {
    each = λ n lt. let e = each n lt in elim e.1 as (λ _. MayBeReceivedAs (s (tau +ℤ pos n)) (get_or received n [])) [
      | inl right ↦ may_be_right (s (tau +ℤ pos n)) (get_or received n []) e.0 right
      | inr w ↦ may_be_wrong (s (tau +ℤ pos n)) (get_or received n []) e.0 w.1
    ];
    one_right = λ item x text places count run inside. at_places item x text places count run inside;
  }
    where
      at_places : (item : Item) (x : ℕ) → IsTextByte item x → (places : List ℤ) → length places ≡ repeat →
          AreSuccessive s page item places → Inside places → OneIs (IsRight s tau received x) places
      at_places item x text [] count run inside = absurd (omega arith)
      at_places item x text (j ∷ rest) count run inside =
          one_is item x text j rest wrong run inside (omega arith)
          (λ n lt past. elim (each n lt).1 as (λ _. Right n ⊎ IsIn wrong n) [ inl right ↦ inl right | inr w ↦ inr (is_in wrong n w.0) ])

pub wrong_text_is_received : EmptySlotsAreEmpty → WrongTextIsReceived
wrong_text_is_received empty s page repeat tau received wrong short each = received_within empty s page tau received repeat wrong short each
