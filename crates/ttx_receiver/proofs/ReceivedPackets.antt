-- What a receiver gets of the packets of a page when each byte has at most one wrong bit.
use Rattle.std.proofs.Common.{◌≡◌, ◌⊎◌, ℕ, ◌+◌, ◌%◌, ◌<◌, ◌≤◌, Bool, true, false, ◌==◌, List, [], None, length, get_or, take, drop, map, refl, sym}
use Rattle.std.proofs.Common.{ap, ◌∙◌, subst, inl, inr, arith, eqb-true, length-drop, get_or-drop, get_or-take}
use Rattle.std.proofs.lemmas.Bool.{cases_Bool, cond_both, both_ways, true_from_ne_false}
use Rattle.std.proofs.lemmas.List.{get_or-map}
use Rattle.std.proofs.lemmas.List.Folds.{list_all_at}
use Rattle.ttx_code.specs.Words.{ones, Near, is_odd, odd_byte}
use Rattle.ttx_code.specs.Laws.{OddBytesUnderOneWrongBit, OddBytesHoldTheirCodes}
use Rattle.ttx_packet.specs.Slots.{IsSlot, Kind, IsEmpty, IsUnreadable, IsHeader, IsRow, IsLinks, IsInfo, IsOther, is_empty, kind_of, is_clean}
use Rattle.ttx_packet.specs.Receptions.{IsFree, MayBeReceivedAs}
use Rattle.ttx_packet.specs.Laws.{KindIsKept, RowsAreNumbered}
use Rattle.ttx_header.specs.Headers.{id_of, control_of}
use Rattle.ttx_header.specs.Laws.{HeaderIsKept}
use Rattle.ttx_links.specs.Laws.{LinksAreKept}
use Rattle.ttx_links.specs.Sets.{links_of, is_exact}
use Rattle.ttx_page.specs.Packets.{Packet, Empty, Unreadable, Header, Row, Links, Info, Other, packet_of, packet_of_kind}
use Rattle.ttx_page.specs.Pages.{Page, IsPage, page_row}
use Rattle.ttx_page.specs.declared.selection.Selection.{Selection}
use Rattle.ttx_page.specs.declared.item.Item.TheVariants.{Row as TheRow, Links as TheLinks}
use Rattle.ttx_page.specs.Streams.{heads, heads_matched, ends_serial, carries}
use Rattle.ttx_page.specs.Steady.{HeadIsRight, RowIsRight, LinksAreRight}
use Rattle.ttx_receiver.proofs.StepsOverPage.{GoodText, IsHeadOf, IsRowOf, AreLinksOf}
use Rattle.ttx_receiver.proofs.TakenAndKept.{IsRightAt, HeadRightAt, RowRightAt}

-- the laws of the crates below
pub record LawsBelow : Type 0 where
  pub kind : KindIsKept
  pub numbered : RowsAreNumbered
  pub header : HeaderIsKept
  pub links : LinksAreKept
  pub odd : OddBytesUnderOneWrongBit
  pub codes : OddBytesHoldTheirCodes

odd_is_odd : LawsBelow → (c : ℕ) → c < 128 → is_odd (odd_byte c) ≡ true
odd_is_odd laws c h = (laws.codes c h).0

odd_code : LawsBelow → (c : ℕ) → c < 128 → odd_byte c % 128 ≡ c
odd_code laws c h = (laws.codes c h).1

-- a byte of odd parity that is received with odd parity is right
near_odd : LawsBelow → (a b : ℕ) → a < 256 → b < 256 → is_odd a ≡ true → Near a b → is_odd b ≡ true → b ≡ a
near_odd laws a b la lb oa near ob = elim (laws.odd a b la lb oa near) as (λ _. b ≡ a) [ inl same ↦ same | inr even ↦ absurd (both_ways _ even ob) ]

-- a zero byte has even parity
even_zero : is_odd 0 ≡ false
unfolding ones
even_zero = refl

-- a packet without its text and links
abbrev pub outline : Packet → Packet
outline (Header id control text) = Header id control []
outline (Row mag number text) = Row mag number []
outline (Links mag content) = Links mag None
outline Empty = Empty
outline Unreadable = Unreadable
outline Info = Info
outline Other = Other

abbrev pub IsRowPacket : Packet → Type 0
IsRowPacket (Row mag number text) = Unit {0}
IsRowPacket (Header id control text) = ⊥
IsRowPacket (Links mag content) = ⊥
IsRowPacket _ = ⊥

-- bytes that may be received as anything
abbrev pub IsFreeIn : Packet → ℕ → Type 0
IsFreeIn (Header id control text) x = 34 ≤ x
IsFreeIn (Row mag number text) x = ⊥
IsFreeIn (Links mag content) x = ⊥
IsFreeIn Empty x = ⊥
IsFreeIn Unreadable x = ⊥
IsFreeIn Info x = 2 ≤ x
IsFreeIn Other x = ⊥

packet_is : (slot : List ℕ) → packet_of slot ≡ packet_of_kind slot (kind_of slot)
unfolding packet_of
packet_is slot = refl

free_in_kind : (slot : List ℕ) (x : ℕ) (k : Kind) → IsFree k x → IsFreeIn (packet_of_kind slot k) x
free_in_kind slot x (IsHeader mag) f = f
free_in_kind slot x (IsRow mag number) f = f
free_in_kind slot x (IsLinks mag) f = f
free_in_kind slot x IsEmpty f = f
free_in_kind slot x IsUnreadable f = f
free_in_kind slot x IsInfo f = f
free_in_kind slot x (IsOther mag number) f = f

free_in : (slot : List ℕ) (x : ℕ) → IsFree (kind_of slot) x → IsFreeIn (packet_of slot) x
free_in slot x f = subst (λ pkt. IsFreeIn pkt x) (sym (packet_is slot)) (free_in_kind slot x (kind_of slot) f)

-- the text of a header or row, and the links of an X/27/0
abbrev pub IsOfSlot : List ℕ → Packet → Type 0
IsOfSlot slot (Header id control text) = text ≡ drop 10 slot
IsOfSlot slot (Row mag number text) = (text ≡ drop 2 slot) × (1 ≤ number)
IsOfSlot slot (Links mag content) = content ≡ links_of mag slot
IsOfSlot slot _ = Unit {0}

of_kind : RowsAreNumbered → (slot : List ℕ) (k : Kind) → kind_of slot ≡ k → IsOfSlot slot (packet_of_kind slot k)
of_kind numbered slot IsEmpty e = tt
of_kind numbered slot IsUnreadable e = tt
of_kind numbered slot (IsHeader mag) e = refl
of_kind numbered slot (IsRow mag number) e = (refl, (numbered slot mag number e).0)
of_kind numbered slot (IsLinks mag) e = refl
of_kind numbered slot IsInfo e = tt
of_kind numbered slot (IsOther mag number) e = tt

pub of_slot : LawsBelow → (slot : List ℕ) → IsOfSlot slot (packet_of slot)
of_slot laws slot = subst (IsOfSlot slot) (sym (packet_is slot)) (of_kind laws.numbered slot (kind_of slot) refl)

pub packet_empty : (slot : List ℕ) → is_empty slot ≡ true → packet_of slot ≡ Empty
unfolding kind_of
packet_empty slot e =
    packet_is slot ∙ ap (packet_of_kind slot) (cond_both (is_empty slot) IsEmpty _ (λ k. k ≡ IsEmpty) (λ _. refl) (λ f. absurd (both_ways _ f e)))

no_empty : (slot : List ℕ) (k : ℕ) → is_empty slot ≡ true → k < length slot → get_or slot k 0 ≡ 0
no_empty slot k e lt = eqb-true _ 0 (true_from_ne_false _ (λ f. both_ways _ (list_all_at (λ b. b == 0) slot k 0 lt f) e))

-- a row of which no byte was right, and which is received as an empty slot
pub record IsLost (sent received : List ℕ) : Type 0 where
  pub row : IsRowPacket (packet_of sent)
  pub silent : packet_of received ≡ Empty
  pub zeros : is_empty received ≡ true

-- bytes 0 to 9 of a header are not free
near_header : (sent received : List ℕ) (mag : ℕ) → kind_of sent ≡ IsHeader mag → MayBeReceivedAs sent received → (x : ℕ) → x < 10 →
    Near (get_or sent x 0) (get_or received x 0)
near_header sent received mag e h x lt = elim (h.near x (omega arith)) as (λ _. Near (get_or sent x 0) (get_or received x 0))
    [ inl f ↦ let k : 34 ≤ x = subst (λ kind. IsFree kind x) e f in absurd (omega arith) | inr near ↦ near ]

-- the packet received is the packet sent, except for text and links; or a row is lost
pub received_as : LawsBelow → (sent received : List ℕ) → IsSlot sent → is_clean sent ≡ true → MayBeReceivedAs sent received →
    (outline (packet_of received) ≡ outline (packet_of sent)) ⊎ IsLost sent received
received_as laws sent received s clean h = elim (cases_Bool (is_empty sent)) as
    (λ _. (outline (packet_of received) ≡ outline (packet_of sent)) ⊎ IsLost sent received) [
      | inl e ↦ inl (ap outline (packet_empty received (h.empty e)) ∙ ap outline (sym (packet_empty sent e)))
      | inr e ↦ elim (laws.kind sent received s clean e h) as
          (λ _. (outline (packet_of received) ≡ outline (packet_of sent)) ⊎ IsLost sent received) [
            | inl same ↦ inl (ap outline (packet_is received) ∙ ap (λ k. outline (packet_of_kind received k)) same
                ∙ same_outline (kind_of sent) refl ∙ ap outline (sym (packet_is sent)))
            | inr lost ↦ inr (record {
              row = subst IsRowPacket (sym (packet_is sent ∙ ap (packet_of_kind sent) lost.0)) tt;
              silent = packet_empty received lost.1;
              zeros = lost.1;
            })
          ]
    ]
  where
    same_outline : (k : Kind) → kind_of sent ≡ k → outline (packet_of_kind received k) ≡ outline (packet_of_kind sent k)
    same_outline (IsHeader mag) e =
        let kept = laws.header sent received mag s h.slot clean e (near_header sent received mag e h) in
        ap (λ id. Header id (control_of received) []) kept.0 ∙ ap (λ control. Header (id_of sent) control []) kept.1
    same_outline IsEmpty e = refl
    same_outline IsUnreadable e = refl
    same_outline (IsRow mag number) e = refl
    same_outline (IsLinks mag) e = refl
    same_outline IsInfo e = refl
    same_outline (IsOther mag number) e = refl

-- tests that do not look at text
matched_outline : (sel : Selection) (pkt : Packet) → heads_matched sel (outline pkt) ≡ heads_matched sel pkt
matched_outline sel (Header id control text) = refl
matched_outline sel (Row mag number text) = refl
matched_outline sel (Links mag content) = refl
matched_outline sel _ = refl

heads_outline : (mag : ℕ) (pkt : Packet) → heads mag (outline pkt) ≡ heads mag pkt
heads_outline mag (Header id control text) = refl
heads_outline mag (Row m number text) = refl
heads_outline mag (Links m content) = refl
heads_outline mag _ = refl

ends_outline : (mag : ℕ) (pkt : Packet) → ends_serial mag (outline pkt) ≡ ends_serial mag pkt
ends_outline mag (Header id control text) = refl
ends_outline mag (Row m number text) = refl
ends_outline mag (Links m content) = refl
ends_outline mag _ = refl

row_outline : (mag r : ℕ) (pkt : Packet) → carries mag (TheRow r) (outline pkt) ≡ carries mag (TheRow r) pkt
row_outline mag r (Header id control text) = refl
row_outline mag r (Row m number text) = refl
row_outline mag r (Links m content) = refl
row_outline mag r _ = refl

links_outline : (mag : ℕ) (pkt : Packet) → carries mag TheLinks (outline pkt) ≡ carries mag TheLinks pkt
links_outline mag (Header id control text) = refl
links_outline mag (Row m number text) = refl
links_outline mag (Links m content) = refl
links_outline mag _ = refl

-- a test that does not look at text and is false for rows and empty slots gives the same for what is sent and received
same_test : LawsBelow → (test : Packet → Bool) → ((pkt : Packet) → test (outline pkt) ≡ test pkt) →
    ((pkt : Packet) → IsRowPacket pkt → test pkt ≡ false) → test Empty ≡ false →
    (sent received : List ℕ) → IsSlot sent → is_clean sent ≡ true → MayBeReceivedAs sent received → test (packet_of received) ≡ test (packet_of sent)
same_test laws test plain rows silent sent received s clean h =
    elim (received_as laws sent received s clean h) as (λ _. test (packet_of received) ≡ test (packet_of sent)) [
      | inl e ↦ sym (plain (packet_of received)) ∙ ap test e ∙ plain (packet_of sent)
      | inr l ↦ ap test l.silent ∙ silent ∙ sym (rows (packet_of sent) l.row)
    ]

row_heads_none : (mag : ℕ) (pkt : Packet) → IsRowPacket pkt → heads mag pkt ≡ false
row_heads_none mag (Row m number text) r = refl
row_heads_none mag (Header id control text) r = absurd r
row_heads_none mag (Links m content) r = refl
row_heads_none mag _ r = refl

row_matched_none : (sel : Selection) (pkt : Packet) → IsRowPacket pkt → heads_matched sel pkt ≡ false
row_matched_none sel (Row m number text) r = refl
row_matched_none sel (Header id control text) r = absurd r
row_matched_none sel (Links m content) r = refl
row_matched_none sel _ r = refl

row_ends_none : (mag : ℕ) (pkt : Packet) → IsRowPacket pkt → ends_serial mag pkt ≡ false
row_ends_none mag (Row m number text) r = refl
row_ends_none mag (Header id control text) r = absurd r
row_ends_none mag (Links m content) r = refl
row_ends_none mag _ r = refl

row_links_none : (mag : ℕ) (pkt : Packet) → IsRowPacket pkt → carries mag TheLinks pkt ≡ false
row_links_none mag (Row m number text) r = refl
row_links_none mag (Header id control text) r = absurd r
row_links_none mag (Links m content) r = absurd r
row_links_none mag _ r = refl

module _ (laws : LawsBelow) (sent received : List ℕ) (s : IsSlot sent) (clean : is_clean sent ≡ true) (h : MayBeReceivedAs sent received) where
  pub same_heads : (mag : ℕ) → heads mag (packet_of received) ≡ heads mag (packet_of sent)
  same_heads mag = same_test laws (heads mag) (heads_outline mag) (row_heads_none mag) refl sent received s clean h

  pub same_matched : (sel : Selection) → heads_matched sel (packet_of received) ≡ heads_matched sel (packet_of sent)
  same_matched sel = same_test laws (heads_matched sel) (matched_outline sel) (row_matched_none sel) refl sent received s clean h

  pub same_ends : (mag : ℕ) → ends_serial mag (packet_of received) ≡ ends_serial mag (packet_of sent)
  same_ends mag = same_test laws (ends_serial mag) (ends_outline mag) (row_ends_none mag) refl sent received s clean h

  pub same_links : (mag : ℕ) → carries mag TheLinks (packet_of received) ≡ carries mag TheLinks (packet_of sent)
  same_links mag = same_test laws (carries mag TheLinks) (links_outline mag) (row_links_none mag) refl sent received s clean h

  -- a row that is received was sent
  pub row_was_sent : (mag r : ℕ) → carries mag (TheRow r) (packet_of received) ≡ true → carries mag (TheRow r) (packet_of sent) ≡ true
  row_was_sent mag r c = elim (received_as laws sent received s clean h) as (λ _. carries mag (TheRow r) (packet_of sent) ≡ true) [
    | inl e ↦ sym (row_outline mag r (packet_of sent)) ∙ ap (carries mag (TheRow r)) (sym e) ∙ row_outline mag r (packet_of received) ∙ c
    | inr l ↦ absurd (both_ways _ refl (ap (carries mag (TheRow r)) (sym l.silent) ∙ c))
  ]

  -- bytes of odd parity are received right or with even parity
  good_text : (base n : ℕ) (chars : List ℕ) → base + n ≤ 42 → ((c : ℕ) → get_or chars c 0 < 128) →
      ((x : ℕ) → base ≤ x → x < base + n → IsFreeIn (packet_of sent) x → ⊥) →
      ((c : ℕ) → c < n → get_or sent (base + c) 0 ≡ odd_byte (get_or chars c 0)) → GoodText chars n (drop base received)
  good_text base n chars fits codes fixed right c lt good =
      let x = base + c in
      let at : get_or (drop base received) c 0 ≡ get_or received x 0 = get_or-drop base received c 0 in
      let o : is_odd (get_or sent x 0) ≡ true = ap is_odd (right c lt) ∙ odd_is_odd laws _ (codes c) in
      let same : get_or received x 0 ≡ get_or sent x 0 =
      elim (h.near x (omega arith)) as (λ _. get_or received x 0 ≡ get_or sent x 0) [
        | inl f ↦ absurd (fixed x (omega arith) (omega arith) (free_in sent x f))
        | inr near ↦ near_odd laws _ _ (s.bytes x) (h.slot.bytes x) o near (ap is_odd (sym at) ∙ good)
      ] in
      ap (λ b. b % 128) (at ∙ same ∙ right c lt) ∙ odd_code laws _ (codes c)

  -- a byte that is received as sent is right
  right_at : (base n : ℕ) (chars : List ℕ) → base + n ≤ 42 → ((c : ℕ) → get_or chars c 0 < 128) → (c : ℕ) → c < n →
      get_or sent (base + c) 0 ≡ odd_byte (get_or chars c 0) → get_or received (base + c) 0 ≡ get_or sent (base + c) 0 →
      IsRightAt chars (drop base received) c
  right_at base n chars fits codes c lt right same =
      let at : get_or (drop base received) c 0 ≡ odd_byte (get_or chars c 0) = get_or-drop base received c 0 ∙ same ∙ right in
      record {
        within = omega (arith, length-drop base received, h.slot.size);
        good = ap is_odd at ∙ odd_is_odd laws _ (codes c);
        right = ap (λ b. b % 128) at ∙ odd_code laws _ (codes c);
      }

  sent_head : (p : Page) → IsPage p → (text : List ℕ) → take 24 text ≡ map odd_byte p.head → text ≡ drop 10 sent → (c : ℕ) → c < 24 →
      get_or sent (10 + c) 0 ≡ odd_byte (get_or p.head c 0)
  sent_head p page text e t c lt =
      sym (get_or-drop 10 sent c 0) ∙ ap (λ x. get_or x c 0) (sym t) ∙ sym (get_or-take 24 text c 0 lt) ∙ ap (λ x. get_or x c 0) e
      ∙ get_or-map odd_byte p.head c 0 0 (omega (arith, page.head_length))

  sent_row : (p : Page) → IsPage p → (r : ℕ) → 1 ≤ r → r ≤ 24 → (text : List ℕ) → text ≡ map odd_byte (page_row p r) → text
      ≡ drop 2 sent → (c : ℕ) → c < 40 →
      get_or sent (2 + c) 0 ≡ odd_byte (get_or (page_row p r) c 0)
  sent_row p page r low high text e t c lt =
      sym (get_or-drop 2 sent c 0) ∙ ap (λ x. get_or x c 0) (sym t ∙ e)
      ∙ get_or-map odd_byte (page_row p r) c 0 0 (omega (arith, (page.rows r low high).length))

  -- a header of the page as it is received
  pub received_head : (p : Page) → IsPage p → HeadIsRight p (packet_of sent) → IsHeadOf p (packet_of received)
  received_head p page right = elim (received_as laws sent received s clean h) as (λ _. IsHeadOf p (packet_of received)) [
    | inl e ↦ go (packet_of sent) (packet_of received) e (of_slot laws sent) (of_slot laws received) right (λ x f. f)
    | inr l ↦ subst (IsHeadOf p) (sym l.silent) tt
  ]
    where
      go : (S R : Packet) → outline R ≡ outline S → IsOfSlot sent S → IsOfSlot received R → HeadIsRight p S →
          ((x : ℕ) → IsFreeIn (packet_of sent) x → IsFreeIn S x) → IsHeadOf p R
      go (Header id control text) (Header id' control' text') e os or right free =
          let k : control' ≡ control = cc in (
            k ∙ right.0,
            subst (GoodText p.head 24) (sym or)
                (good_text 10 24 p.head (omega arith) page.head_codes
                (λ x low high f. let b : 34 ≤ x = free x f in omega arith) (sent_head p page text right.1 os)),
          )
      go (Header id control text) (Row m n t) e os or right free = tt
      go (Header id control text) (Links m content) e os or right free = tt
      go (Header id control text) _ e os or right free = tt
      go (Row m n t) R e os or right free = absurd right
      go (Links m content) R e os or right free = absurd right
      go _ R e os or right free = absurd right

  -- a row of the page as it is received
  pub received_row : (p : Page) → IsPage p → (r : ℕ) → 1 ≤ r → r ≤ 24 → RowIsRight p r (packet_of sent) → IsRowOf p r (packet_of received)
  received_row p page r low high right = elim (received_as laws sent received s clean h) as (λ _. IsRowOf p r (packet_of received)) [
    | inl e ↦ go (packet_of sent) (packet_of received) e (of_slot laws sent) (of_slot laws received) right (λ x f. f)
    | inr l ↦ subst (IsRowOf p r) (sym l.silent) tt
  ]
    where
      go : (S R : Packet) → outline R ≡ outline S → IsOfSlot sent S → IsOfSlot received R → RowIsRight p r S →
          ((x : ℕ) → IsFreeIn (packet_of sent) x → IsFreeIn S x) → IsRowOf p r R
      go (Row mag number text) (Row m n t) e os or right free =
          subst (GoodText (page_row p r) 40) (sym or.0)
          (good_text 2 40 (page_row p r) (omega arith) (page.rows r low high).codes (λ x a b f. free x f)
          (sent_row p page r low high text right os.0))
      go (Row mag number text) (Header id control t) e os or right free = tt
      go (Row mag number text) (Links m content) e os or right free = tt
      go (Row mag number text) _ e os or right free = tt
      go (Header id control text) R e os or right free = absurd right
      go (Links m content) R e os or right free = absurd right
      go _ R e os or right free = absurd right

  -- the links of the page as they are received
  pub received_links : (p : Page) → LinksAreRight p sent (packet_of sent) → AreLinksOf p (packet_of received)
  received_links p right = elim (received_as laws sent received s clean h) as (λ _. AreLinksOf p (packet_of received)) [
    | inl e ↦ go (packet_of sent) (packet_of received) e (of_slot laws sent) (of_slot laws received) right (λ x f. f)
    | inr l ↦ subst (AreLinksOf p) (sym l.silent) tt
  ]
    where
      same : (mag : ℕ) → is_exact sent ≡ true → ((x : ℕ) → IsFreeIn (packet_of sent) x → ⊥) → links_of mag received ≡ links_of mag sent
      same mag exact fixed =
          laws.links sent received mag s h.slot exact
          (λ x low high. elim (h.near x (omega arith)) as
          (λ _. Near (get_or sent x 0) (get_or received x 0))
          [ inl f ↦ absurd (fixed x (free_in sent x f)) | inr near ↦ near ])

      go : (S R : Packet) → outline R ≡ outline S → IsOfSlot sent S → IsOfSlot received R → LinksAreRight p sent S →
          ((x : ℕ) → IsFreeIn (packet_of sent) x → IsFreeIn S x) → AreLinksOf p R
      go (Links mag content) (Links m c) e os or right free =
          let k : m ≡ mag = cc in
          or ∙ ap (λ x. links_of x received) k ∙ same mag right.0 free ∙ sym os ∙ right.1
      go (Links mag content) (Header id control t) e os or right free = tt
      go (Links mag content) (Row m n t) e os or right free = tt
      go (Links mag content) _ e os or right free = tt
      go (Header id control text) R e os or right free = absurd right
      go (Row m n text) R e os or right free = absurd right
      go _ R e os or right free = absurd right

  -- a character of a header that is received as sent
  pub head_received_at : (p : Page) → IsPage p → HeadIsRight p (packet_of sent) → (c : ℕ) → c < 24 → get_or received (10 + c) 0
      ≡ get_or sent (10 + c) 0 → HeadRightAt p c (packet_of received)
  head_received_at p page right c lt same = elim (received_as laws sent received s clean h) as (λ _. HeadRightAt p c (packet_of received)) [
    | inl e ↦ go (packet_of sent) (packet_of received) e (of_slot laws sent) (of_slot laws received) right
    | inr l ↦ absurd (no_head (packet_of sent) l.row right)
  ]
    where
      no_head : (S : Packet) → IsRowPacket S → HeadIsRight p S → ⊥
      no_head (Header id control text) row right = row
      no_head (Row m n text) row right = right
      no_head (Links m content) row right = right
      no_head _ row right = right

      go : (S R : Packet) → outline R ≡ outline S → IsOfSlot sent S → IsOfSlot received R → HeadIsRight p S → HeadRightAt p c R
      go (Header id control text) (Header id' control' text') e os or right =
          subst (λ t. IsRightAt p.head t c) (sym or)
          (right_at 10 24 p.head (omega arith) page.head_codes c lt (sent_head p page text right.1 os c lt) same)
      go (Header id control text) (Row m n t) e os or right = cc
      go (Header id control text) (Links m content) e os or right = cc
      go (Header id control text) _ e os or right = cc
      go (Row m n t) R e os or right = absurd right
      go (Links m content) R e os or right = absurd right
      go _ R e os or right = absurd right

  -- a character of a row that is received as sent; so the row is not lost
  pub row_received_at : (p : Page) → IsPage p → (r : ℕ) → 1 ≤ r → r ≤ 24 → RowIsRight p r (packet_of sent) → (c : ℕ) → c < 40 →
      get_or received (2 + c) 0 ≡ get_or sent (2 + c) 0 →
      RowRightAt p r c (packet_of received) ×
      ((mag : ℕ) → carries mag (TheRow r) (packet_of sent) ≡ true → carries mag (TheRow r) (packet_of received) ≡ true)
  row_received_at p page r low high right c lt same =
      elim (received_as laws sent received s clean h) as
      (λ _. RowRightAt p r c (packet_of received)
      × ((mag : ℕ) → carries mag (TheRow r) (packet_of sent) ≡ true → carries mag (TheRow r) (packet_of received) ≡ true)) [
        | inl e ↦ (
          go (packet_of sent) (packet_of received) e (of_slot laws sent) (of_slot laws received) right,
          (λ mag k. sym (row_outline mag r (packet_of received)) ∙ ap (carries mag (TheRow r)) e ∙ row_outline mag r (packet_of sent) ∙ k),
        )
        | inr l ↦ absurd (lost (packet_of sent) (of_slot laws sent) right l.zeros)
      ]
    where
      go : (S R : Packet) → outline R ≡ outline S → IsOfSlot sent S → IsOfSlot received R → RowIsRight p r S → RowRightAt p r c R
      go (Row mag number text) (Row m n t) e os or right =
          subst (λ t. IsRightAt (page_row p r) t c) (sym or.0)
          (right_at 2 40 (page_row p r) (omega arith) (page.rows r low high).codes c lt
          (sent_row p page r low high text right os.0 c lt) same)
      go (Row mag number text) (Header id control t) e os or right = cc
      go (Row mag number text) (Links m content) e os or right = cc
      go (Row mag number text) _ e os or right = cc
      go (Header id control text) R e os or right = absurd right
      go (Links m content) R e os or right = absurd right
      go _ R e os or right = absurd right

      lost : (S : Packet) → IsOfSlot sent S → RowIsRight p r S → is_empty received ≡ true → ⊥
      lost (Row mag number text) os right z =
          let zero_byte : get_or received (2 + c) 0 ≡ 0 = no_empty received (2 + c) z (omega (arith, h.slot.size)) in
          let o : is_odd (get_or sent (2 + c) 0) ≡ true = ap is_odd (sent_row p page r low high text right os.0 c lt)
          ∙ odd_is_odd laws _ ((page.rows r low high).codes c) in
          both_ways _ even_zero (sym (ap is_odd (sym same ∙ zero_byte)) ∙ o)
      lost (Header id control text) os right z = right
      lost (Links m content) os right z = right
      lost _ os right z = right
