-- Except in row 0, a receiver that stores characters as they come does the same as one that does not, in a stream with another text in the
-- rows that do not matter to the page.
use Rattle.std.proofs.Common.{◌≡◌, ◌⊎◌, ℕ, ◌+◌, ◌<◌, not, Bool, true, false}
use Rattle.std.proofs.Common.{List, length, get_or, drop, refl, sym, ap, ◌∙◌, subst, inl, inr, arith, get_or-drop, length-drop}
use Rattle.std.specs.List.{list_all}
use Rattle.std.proofs.lemmas.Bool.{cases_Bool, cases_lt, both_ways, not-true, not_from_false}
use Rattle.ttx_code.specs.Words.{is_odd}
use Rattle.ttx_packet.specs.Slots.{IsSlot, Kind, IsEmpty, IsUnreadable, IsHeader, IsRow, IsLinks, IsInfo, IsOther, is_empty, kind_of, is_clean}
use Rattle.ttx_packet.specs.Receptions.{MayBeReceivedAs}
use Rattle.ttx_packet.specs.Laws.{RowsAreNumbered}
use Rattle.ttx_header.specs.Ids.{Id}
use Rattle.ttx_header.specs.Headers.{id_of, control_of}
use Rattle.ttx_page.specs.Packets.{Packet, Header, Row, packet_of, packet_of_kind}
use Rattle.ttx_page.specs.Pages.{Page}
use Rattle.ttx_page.specs.declared.selection.Selection.{Selection}
use Rattle.ttx_page.specs.declared.class.Class.{Class}
use Rattle.ttx_page.specs.Memories.{Memory}
use Rattle.ttx_page.specs.Receivers.{after, older}
use Rattle.ttx_receiver.specs.Reading.{IsIgnored}
use Rattle.ttx_late.specs.LateReceivers.{heads_number}
use Rattle.ttx_rows.specs.RowReceptions.{MayArriveAs, IsWhole}
use Rattle.ttx_rows.specs.RowReceivers.{Manner, may_refuse, blanked, AreTakenAs, IsTakenAs, RowStep}
use Rattle.ttx_rows.proofs.OtherBytes.{all_odd}
use Rattle.ttx_rows.proofs.OneSlot.{LawsBelow, packet_is, packet_at, IsRowKind, IsHeaderKind, row_of, refused_kind}
use Rattle.ttx_rows.proofs.OtherStream.{IsRetexted}
use Rattle.ttx_rows.proofs.StoredText.{taken_same, taken_row}
use Rattle.ttx_rows.proofs.Alike.{Alike, same, headers, older_alike, after_alike}

-- the manner of a receiver that stores no character of even parity
abbrev pub unstored : Manner → Manner
unstored how = record { refuses = how.refuses; spaces = how.spaces; stores = false }

-- a row of which such characters were stored: it does not matter to the page, and is sent, and received, with the text that was taken
pub record IsTorn (free : Bool) (sent received sends came : List ℕ) : Type 0 where
  pub free_row : free ≡ true
  pub refusable : may_refuse (packet_of received) ≡ true
  pub row : IsRetexted sent sends
  pub slot : IsSlot sends
  pub clean : is_clean sends ≡ true
  pub as_sent : came ≡ sends

-- any other slot is sent, and received, unchanged
abbrev pub IsReread : Bool → List ℕ → List ℕ → List ℕ → List ℕ → Type 0
IsReread free sent received sends came = ((sends ≡ sent) × (came ≡ received)) ⊎ IsTorn free sent received sends came

-- What is known of a slot: the rows that are not free are whole or lost.
pub record Placed (sel : Selection) (page : Id) (free : Bool) (sent received : List ℕ) : Type 0 where
  pub slot : IsSlot sent
  pub clean : is_clean sent ≡ true
  pub arrives : MayArriveAs page.mag sent received
  pub untorn : (mag number : ℕ) → kind_of sent ≡ IsRow mag number → free ≡ false → IsIgnored (packet_of received) ⊎ IsWhole sent received

pub record StoredAs (how : Manner) (class : Class) (lines : ℕ) (sel : Selection) (free : Bool) (sent received : List ℕ)
    (n new : Memory) : Type 0 where
  pub sends : List ℕ
  pub came : List ℕ
  pub is : IsReread free sent received sends came
  pub left : Memory
  pub step : RowStep (unstored how) class lines sel n came left
  pub alike : Alike new left
  pub number : heads_number sel (packet_of came) ≡ heads_number sel (packet_of received)

-- kinds

abbrev IsTextKind : Kind → Type 0
IsTextKind k = IsRowKind k ⊎ IsHeaderKind k

not_ignored : (slot : List ℕ) (k : Kind) → IsTextKind k → IsIgnored (packet_of_kind slot k) → ⊥
not_ignored slot (IsRow mag number) t i = i
not_ignored slot (IsHeader mag) t i = i
not_ignored slot IsEmpty t i = elim t as (λ _. ⊥) [ inl r ↦ r | inr h ↦ h ]
not_ignored slot IsUnreadable t i = elim t as (λ _. ⊥) [ inl r ↦ r | inr h ↦ h ]
not_ignored slot (IsLinks mag) t i = elim t as (λ _. ⊥) [ inl r ↦ r | inr h ↦ h ]
not_ignored slot IsInfo t i = elim t as (λ _. ⊥) [ inl r ↦ r | inr h ↦ h ]
not_ignored slot (IsOther mag number) t i = elim t as (λ _. ⊥) [ inl r ↦ r | inr h ↦ h ]

-- a row that is whole is not refused
pub whole_is_taken : (sent received : List ℕ) → IsWhole sent received → may_refuse (packet_of received) ≡ true → ⊥
whole_is_taken sent received whole h =
    let here : may_refuse (packet_of_kind received (kind_of received)) ≡ true = ap may_refuse (sym (packet_is received)) ∙ h in
    let row = row_of (kind_of received) (refused_kind received (kind_of received) here) in
    let not_all : not (list_all is_odd (drop 2 received)) ≡ true = ap may_refuse (sym (packet_at received (IsRow row.0 row.1) row.2)) ∙ h in
    both_ways _ (not-true _ not_all) (all_odd (drop 2 received) (λ x lt. byte x lt))
  where
    byte : (x : ℕ) → x < length (drop 2 received) → is_odd (get_or (drop 2 received) x 0) ≡ true
    byte x lt = elim (cases_lt (2 + x) 42) as (λ _. is_odd (get_or (drop 2 received) x 0) ≡ true) [
      | inl inside ↦ subst (λ b. is_odd b ≡ true) (sym (get_or-drop 2 received x 0)) (whole.odd (2 + x) (omega arith) inside)
      | inr past ↦ let long = whole.may.slot.size in let cut = length-drop 2 received in absurd (omega arith)
    ]

module _ (laws : LawsBelow) (numbered : RowsAreNumbered) (class : Class) (lines : ℕ) (sel : Selection) (p : Page) (how : Manner)
    (free : Bool) (sent received : List ℕ) (placed : Placed sel p.id free sent received) where
  abbrev Stored : Memory → Memory → Type 0
  Stored n new = StoredAs how class lines sel free sent received n new

  -- what is received as a row or a header was sent as one
  record Found (k : Kind) : Type 0 where
    may : MayBeReceivedAs sent received
    some : is_empty sent ≡ false
    kind : kind_of sent ≡ k

  empty_is_no_text : (k : Kind) → kind_of received ≡ k → IsTextKind k → is_empty received ≡ true → ⊥
  empty_is_no_text k e t empty =
      let same_kind : k ≡ IsEmpty = sym e ∙ (laws.empty received).1 empty in
      elim t as (λ _. ⊥) [ inl r ↦ subst IsRowKind same_kind r | inr h ↦ subst IsHeaderKind same_kind h ]

  found : (k : Kind) → kind_of received ≡ k → IsTextKind k → Found k
  found k e t = elim placed.arrives as (λ _. Found k) [
    | inr nothing ↦ absurd (not_ignored received k t (subst IsIgnored (packet_at received k e) nothing.1))
    | inl may ↦ elim (cases_Bool (is_empty sent)) as (λ _. Found k) [
      | inl empty ↦ absurd (empty_is_no_text k e t (may.empty empty))
      | inr some ↦ elim (laws.kind sent received placed.slot placed.clean some may) as (λ _. Found k) [
        | inl kept ↦ record { may = may; some = some; kind = sym kept ∙ e }
        | inr lost ↦ absurd (empty_is_no_text k e t lost.1)
      ]
    ]
  ]

  -- a slot that is received unchanged
  reread : (n new left : Memory) → RowStep (unstored how) class lines sel n received left → Alike new left → Stored n new
  reread n new left step alike = record {
    sends = sent;
    came = received;
    is = inl (refl, refl);
    left = left;
    step = step;
    alike = alike;
    number = refl;
  }

  -- a step that both receivers make at one packet
  both : (m n new : Memory) → Alike m n → (choice : Bool) (pkt : Packet) → new ≡ after class lines sel choice (older m) pkt →
      Alike new (after class lines sel choice (older n) pkt)
  both m n new a choice pkt is = subst (λ x. Alike x (after class lines sel choice (older n) pkt)) (sym is)
      (after_alike class lines sel choice (older m) (older n) _ _ (same pkt) (older_alike m n a))

  as_it_came : (m n new : Memory) → Alike m n → (choice : Bool) →
      new ≡ after class lines sel choice (older m) (packet_of received) → Stored n new
  as_it_came m n new a choice is =
      reread n new _ (inl (record { choice = choice; is = refl })) (both m n new a choice (packet_of received) is)

  -- a header of which characters are stored as they come
  stored_header : (m n new : Memory) → Alike m n → (choice : Bool) (mag : ℕ) → kind_of received ≡ IsHeader mag → (t : List ℕ) →
      new ≡ after class lines sel choice (older m) (Header (id_of received) (control_of received) t) → Stored n new
  stored_header m n new a choice mag e t is =
      reread n new (after class lines sel choice (older n) (packet_of received)) (inl (record { choice = choice; is = refl }))
      (subst (λ x. Alike x (after class lines sel choice (older n) (packet_of received))) (sym is)
      (subst (λ pkt. Alike (after class lines sel choice (older m) (Header (id_of received) (control_of received) t))
      (after class lines sel choice (older n) pkt)) (sym (packet_at received (IsHeader mag) e))
      (after_alike class lines sel choice (older m) (older n) _ _ (headers (id_of received) (control_of received) t (drop 10 received))
      (older_alike m n a))))

  -- a row of which characters are stored as they come
  stored_row_as : (m n new : Memory) → Alike m n → (choice : Bool) (mag number : ℕ) → kind_of received ≡ IsRow mag number →
      (t : List ℕ) → AreTakenAs (drop 2 received) t → new ≡ after class lines sel choice (older m) (Row mag number t) → Stored n new
  stored_row_as m n new a choice mag number e t are is = elim (cases_Bool (list_all is_odd (drop 2 received))) as (λ _. Stored n new) [
    | inl odd ↦ as_it_came m n new a choice
        (is ∙ ap (λ text. after class lines sel choice (older m) (Row mag number text)) (taken_same (drop 2 received) t are fits odd)
        ∙ ap (after class lines sel choice (older m)) (sym packet))
    | inr torn ↦ elim (cases_Bool free) as (λ _. Stored n new) [
      | inl open_row ↦ retexted open_row (not_from_false _ torn)
      | inr none ↦ elim (placed.untorn mag number f.kind none) as (λ _. Stored n new) [
        | inl nothing ↦ absurd (subst IsIgnored packet nothing)
        | inr whole ↦ absurd (whole_is_taken sent received whole (ap may_refuse packet ∙ not_from_false _ torn))
      ]
    ]
  ]
    where
      packet : packet_of received ≡ Row mag number (drop 2 received)
      packet = packet_at received (IsRow mag number) e

      f : Found (IsRow mag number)
      f = found (IsRow mag number) e (inl tt)

      fits : (c : ℕ) → get_or (drop 2 received) c 0 < 256
      fits c = subst (λ b. b < 256) (sym (get_or-drop 2 received c 0)) (f.may.slot.bytes (2 + c))

      retexted : free ≡ true → not (list_all is_odd (drop 2 received)) ≡ true → Stored n new
      retexted open_row torn =
          let row = taken_row laws numbered p sent received placed.slot placed.clean f.may mag number f.kind t are in
          let b = both m n new a choice (packet_of row.sends) (is ∙ ap (after class lines sel choice (older m)) (sym row.packet)) in
          record {
            sends = row.sends;
            came = row.sends;
            is = inr (record {
              free_row = open_row;
              refusable = ap may_refuse packet ∙ torn;
              row = record {
                mag = mag;
                number = number;
                t = drop 2 sent;
                u = t;
                was = packet_at sent (IsRow mag number) f.kind;
                is = row.packet;
              };
              slot = row.slot;
              clean = row.clean;
              as_sent = refl;
            });
            left = after class lines sel choice (older n) (packet_of row.sends);
            step = inl (record { choice = choice; is = refl });
            alike = b;
            number = ap (heads_number sel) row.packet ∙ sym (ap (heads_number sel) packet);
          }

  stored_packet : (m n new : Memory) → Alike m n → (taken : Packet) → IsTakenAs (packet_of received) taken → (choice : Bool) →
      new ≡ after class lines sel choice (older m) taken → Stored n new
  stored_packet m n new a taken took choice is = go (kind_of received) refl (subst (λ pkt. IsTakenAs pkt taken) (packet_is received) took)
    where
      -- no character of it is stored
      idle : (k : Kind) → kind_of received ≡ k → taken ≡ packet_of_kind received k → Stored n new
      idle k e same_packet = as_it_came m n new a choice
          (is ∙ ap (after class lines sel choice (older m)) (same_packet ∙ sym (packet_at received k e)))

      go : (k : Kind) → kind_of received ≡ k → IsTakenAs (packet_of_kind received k) taken → Stored n new
      go (IsHeader mag) e i = stored_header m n new a choice mag e i.0 (is ∙ ap (after class lines sel choice (older m)) i.2)
      go (IsRow mag number) e i = stored_row_as m n new a choice mag number e i.0 i.1 (is ∙ ap (after class lines sel choice (older m)) i.2)
      go IsEmpty e i = idle IsEmpty e i
      go IsUnreadable e i = idle IsUnreadable e i
      go (IsLinks mag) e i = idle (IsLinks mag) e i
      go IsInfo e i = idle IsInfo e i
      go (IsOther mag number) e i = idle (IsOther mag number) e i

  pub stored_as : (m n new : Memory) → Alike m n → RowStep how class lines sel m received new → Stored n new
  stored_as m n new a step = elim step as (λ _. Stored n new) [
    | inl taken ↦ as_it_came m n new a taken.choice taken.is
    | inr other ↦ elim other as (λ _. Stored n new) [
      | inl r ↦ reread n new (older n) (inr (inl (r.0, r.1, refl))) (subst (λ x. Alike x (older n)) (sym r.2) (older_alike m n a))
      | inr more ↦ elim more as (λ _. Stored n new) [
        | inl b ↦ reread n new _ (inr (inr (inl (b.0, (b.1.0, refl))))) (both m n new a b.1.0 (blanked (packet_of received)) b.1.1)
        | inr stored ↦ stored_packet m n new a stored.1.0 stored.1.2 stored.1.1 stored.1.3
      ]
    ]
  ]
