-- Slots after a header of a magazine: its rows and X/27/0 up to the next header, and the next header.
use Rattle.std.proofs.Common.{◌≡◌, ◌⊎◌, ℕ, zero, suc, ◌+◌, ◌-◌, ◌<◌, Bool, true, false, not, ◌&&◌, cond, eqb, List, [], ◌∷◌, ◌++◌, drop, get_or}
use Rattle.std.proofs.Common.{refl, sym, ap, ◌∙◌, subst, inl, inr, arith}
use Rattle.std.proofs.lemmas.Bool.{cases_Bool, cases_lt, eq-eqb, eqb-true, not-true, and_parts, and_left, and_right}
use Rattle.std.proofs.lemmas.List.{get_or-drop}
use Rattle.ttx_plan.specs.declared.packet.Packet.{Packet}
use Rattle.ttx_plan.specs.declared.packet.Slot.{Slot}
use Rattle.ttx_plan.specs.declared.packet.Slot.TheVariants.{Empty, Info, Sent}
use Rattle.ttx_plan.specs.Packets.{is_row_or_links}
use Rattle.ttx_plan.proofs.ListElements.{Has}
use Rattle.ttx_plan.proofs.QueueBlocks.{Tails, tails_right, UpToHeader, Brings}
use Rattle.ttx_plan.proofs.QueueSlots.{heads, held, of_queue}

pub record IsHeaderOf (queue : ℕ) (slot : Slot) : Type 0 where
  pub packet : Packet
  pub is : slot ≡ Sent queue packet
  pub early : is_row_or_links packet.kind ≡ false

pub header_of : (queue : ℕ) (slot : Slot) → heads queue slot ≡ true → IsHeaderOf queue slot
header_of queue Empty e = cc
header_of queue (Info bytes) e = cc
header_of queue (Sent m packet) e =
    let two = and_parts (eqb m queue) (not (is_row_or_links packet.kind)) e in
    record { packet = packet; is = ap (λ q. Sent q packet) (eqb-true m queue two.0); early = not-true (is_row_or_links packet.kind) two.1 }

-- the latest header of the magazine before a slot
pub record HasLatest (queue j : ℕ) (slots : List Slot) : Type 0 where
  pub place : ℕ
  pub earlier : place < j
  pub is_header : heads queue (get_or slots place Empty) ≡ true
  pub none_between : (k : ℕ) → place < k → k < j → heads queue (get_or slots k Empty) ≡ false

pub latest_before : (queue : ℕ) (slots : List Slot) (j : ℕ) → ((k : ℕ) → k < j → heads queue (get_or slots k Empty) ≡ false) ⊎ HasLatest queue j slots
latest_before queue slots zero = inl (λ k lt. absurd (omega arith))
latest_before queue slots (suc j) = elim (cases_Bool (heads queue (get_or slots j Empty))) as
    (λ _. ((k : ℕ) → k < suc j → heads queue (get_or slots k Empty) ≡ false) ⊎ HasLatest queue (suc j) slots) [
      | inl y ↦ inr (record { place = j; earlier = omega arith; is_header = y; none_between = λ k low high. absurd (omega arith) })
      | inr n ↦ elim (latest_before queue slots j) as
          (λ _. ((k : ℕ) → k < suc j → heads queue (get_or slots k Empty) ≡ false) ⊎ HasLatest queue (suc j) slots) [
            | inl none ↦ inl (λ k lt. step k n (none k) lt)
            | inr l ↦ inr (record {
              place = l.place;
              earlier = omega (arith, l.earlier);
              is_header = l.is_header;
              none_between = λ k low high. step k n (l.none_between k low) high;
            })
          ]
    ]
  where
    step : (k : ℕ) → heads queue (get_or slots j Empty) ≡ false → (k < j → heads queue (get_or slots k Empty) ≡ false) → k < suc j →
        heads queue (get_or slots k Empty) ≡ false
    step k off below lt = elim (cases_lt k j) as (λ _. heads queue (get_or slots k Empty) ≡ false) [
      | inl less ↦ below less
      | inr more ↦ let e : k ≡ j = omega arith in ap (λ i. heads queue (get_or slots i Empty)) e ∙ off
    ]

module _ (queue : ℕ) where
  own : (P : List Packet → Type 0) (slot : Slot) (packet : Packet) (ps : List Packet) → slot ≡ Sent queue packet → P (held queue slot ++ ps) →
      P (packet ∷ ps)
  own P slot packet ps e a =
      subst (λ b. P (cond b (packet ∷ []) [] ++ ps)) (eq-eqb queue queue refl) (subst (λ s. P (held queue s ++ ps)) e a)

  -- the packets after a packet of the queue
  pub tail_at : (P : Packet → List Packet → Type 0) (slots : List Slot) (i : ℕ) (packet : Packet) → Tails P (of_queue queue slots) →
      get_or slots i Empty ≡ Sent queue packet → P packet (of_queue queue (drop (suc i) slots))
  tail_at P [] i packet a e = let f : Empty ≡ Sent queue packet = e in cc
  tail_at P (slot ∷ slots) zero packet a e = (own (Tails P) slot packet (of_queue queue slots) e a).0
  tail_at P (slot ∷ slots) (suc i) packet a e = tail_at P slots i packet (tails_right P (held queue slot) (of_queue queue slots) a) e

  -- a slot that is no header of the magazine holds at most a row or X/27/0 of it
  passed : (R : Packet → Type 0) (slot : Slot) (ps : List Packet) → heads queue slot ≡ false → UpToHeader R (held queue slot ++ ps) → UpToHeader R ps
  passed R Empty ps off a = a
  passed R (Info bytes) ps off a = a
  passed R (Sent m p) ps off a = by (eqb m queue) (is_row_or_links p.kind) refl off a
    where
      by : (mine late : Bool) → is_row_or_links p.kind ≡ late → (mine && not late) ≡ false → UpToHeader R (cond mine (p ∷ []) [] ++ ps) →
          UpToHeader R ps
      by true true e off a = (a e).1
      by true false e off a = cc
      by false late e off a = a

  pub before_header : (R : Packet → Type 0) (slots : List Slot) (k : ℕ) (p : Packet) → UpToHeader R (of_queue queue slots) →
      get_or slots k Empty ≡ Sent queue p → is_row_or_links p.kind ≡ true → ((i : ℕ) → i < k → heads queue (get_or slots i Empty) ≡ false) → R p
  before_header R [] k p a e late none = let f : Empty ≡ Sent queue p = e in cc
  before_header R (slot ∷ slots) zero p a e late none = (own (UpToHeader R) slot p (of_queue queue slots) e a late).0
  before_header R (slot ∷ slots) (suc k) p a e late none =
      before_header R slots k p (passed R slot (of_queue queue slots) (none 0 (omega arith)) a) e late (λ i lt. none (suc i) (omega arith))

  -- the same after a header
  pub after_header : (R : Packet → Type 0) (slots : List Slot) (i j : ℕ) (p : Packet) → UpToHeader R (of_queue queue (drop (suc i) slots)) → i < j →
      get_or slots j Empty ≡ Sent queue p → is_row_or_links p.kind ≡ true →
      ((k : ℕ) → i < k → k < j → heads queue (get_or slots k Empty) ≡ false) → R p
  after_header R slots i j p a lt e late none =
      let here : suc i + (j - suc i) ≡ j = omega arith in
      before_header R (drop (suc i) slots) (j - suc i) p a
      (get_or-drop (suc i) slots (j - suc i) Empty ∙ ap (λ x. get_or slots x Empty) here ∙ e) late
      (λ k less. ap (heads queue) (get_or-drop (suc i) slots k Empty) ∙ none (suc i + k) (omega arith) (omega arith))

  -- the first packet that is looked for
  pub record Comes (Q : Packet → Type 0) (slots : List Slot) : Type 0 where
    pub place : ℕ
    pub packet : Packet
    pub at : get_or slots place Empty ≡ Sent queue packet
    pub is : Q packet
    pub none_before : (i : ℕ) → i < place → heads queue (get_or slots i Empty) ≡ false

  met : (Q : Packet → Type 0) (slot : Slot) (ps : List Packet) → Brings Q (held queue slot ++ ps) →
      ((p : Packet) × (slot ≡ Sent queue p) × Q p) ⊎ ((heads queue slot ≡ false) × Brings Q ps)
  met Q Empty ps b = inr (refl, b)
  met Q (Info bytes) ps b = inr (refl, b)
  met Q (Sent m p) ps b = by (eqb m queue) refl b
    where
      by : (mine : Bool) → eqb m queue ≡ mine → Brings Q (cond mine (p ∷ []) [] ++ ps) →
          ((n : Packet) × (Sent m p ≡ Sent queue n) × Q n) ⊎ (((eqb m queue && not (is_row_or_links p.kind)) ≡ false) × Brings Q ps)
      by true e (inl q) = inl (p, ap (λ n. Sent n p) (eqb-true m queue e), q)
      by true e (inr b) = inr (and_right (eqb m queue) _ (ap not b.0), b.1)
      by false e b = inr (and_left (eqb m queue) _ e, b)

  comes : (Q : Packet → Type 0) (slots : List Slot) → Brings Q (of_queue queue slots) → Comes Q slots
  comes Q [] b = absurd b
  comes Q (slot ∷ slots) b = elim (met Q slot (of_queue queue slots) b) as (λ _. Comes Q (slot ∷ slots)) [
    | inl h ↦ record { place = 0; packet = h.0; at = h.1; is = h.2; none_before = λ i lt. absurd (omega arith) }
    | inr h ↦ let n = comes Q slots h.1 in
        record { place = suc n.place; packet = n.packet; at = n.at; is = n.is; none_before = none h.0 n.place n.none_before }
  ]
    where
      none : heads queue slot ≡ false → (place : ℕ) → ((i : ℕ) → i < place → heads queue (get_or slots i Empty) ≡ false) →
          (i : ℕ) → i < suc place → heads queue (get_or (slot ∷ slots) i Empty) ≡ false
      none off place later zero lt = off
      none off place later (suc i) lt = later i (omega arith)

  -- the same after a header
  pub record ComesAfter (Q : Packet → Type 0) (i : ℕ) (slots : List Slot) : Type 0 where
    pub place : ℕ
    pub packet : Packet
    pub later : i < place
    pub at : get_or slots place Empty ≡ Sent queue packet
    pub is : Q packet
    pub none_between : (k : ℕ) → i < k → k < place → heads queue (get_or slots k Empty) ≡ false

  pub comes_after : (Q : Packet → Type 0) (slots : List Slot) (i : ℕ) → Brings Q (of_queue queue (drop (suc i) slots)) → ComesAfter Q i slots
  comes_after Q slots i b =
      let n = comes Q (drop (suc i) slots) b in
      record {
        place = suc i + n.place;
        packet = n.packet;
        later = omega arith;
        at = sym (get_or-drop (suc i) slots n.place Empty) ∙ n.at;
        is = n.is;
        none_between = λ k low high.
            let e : k ≡ suc i + (k - suc i) = omega arith in
            ap (λ x. heads queue (get_or slots x Empty)) e ∙ ap (heads queue) (sym (get_or-drop (suc i) slots (k - suc i) Empty))
            ∙ n.none_before (k - suc i) (omega arith);
      }

  -- a packet of the queue is in some slot
  held_or_later : (p : Packet) (slot : Slot) (ps : List Packet) → Has p (held queue slot ++ ps) → (slot ≡ Sent queue p) ⊎ Has p ps
  held_or_later p Empty ps h = inr h
  held_or_later p (Info bytes) ps h = inr h
  held_or_later p (Sent m q) ps h = by (eqb m queue) refl h
    where
      by : (mine : Bool) → eqb m queue ≡ mine → Has p (cond mine (q ∷ []) [] ++ ps) → (Sent m q ≡ Sent queue p) ⊎ Has p ps
      by true e (inl same) = inl (ap (λ n. Sent n q) (eqb-true m queue e) ∙ ap (Sent queue) (sym same))
      by true e (inr h) = inr h
      by false e h = inr h

  pub slot_with : (p : Packet) (slots : List Slot) → Has p (of_queue queue slots) → (i : ℕ) × (get_or slots i Empty ≡ Sent queue p)
  slot_with p [] h = absurd h
  slot_with p (slot ∷ slots) h = elim (held_or_later p slot (of_queue queue slots) h) as
      (λ _. (i : ℕ) × (get_or (slot ∷ slots) i Empty ≡ Sent queue p)) [
        | inl e ↦ (0, e)
        | inr h ↦ let r = slot_with p slots h in (suc r.0, r.1)
      ]
