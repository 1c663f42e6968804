-- Row 0 of receivers that spoil it with wrong characters: it is the page's from the header on whose text arrives, if the text of each later
-- header arrives too.
use Rattle.std.proofs.Common.{◌≡◌, ◌⊎◌, ℕ, zero, suc, ◌+◌, ◌-◌, ◌%◌, ◌<◌, ◌≤◌, ℤ, pos, ◌+ℤ◌, ◌==◌, ◌&&◌, not, Bool, true, false, if◌then◌else◌}
use Rattle.std.proofs.Common.{List, [], ◌∷◌, ◌++◌, Option, Some, None, length, get_or, take, drop, map, replicate, set}
use Rattle.std.proofs.Common.{refl, sym, ap, ◌∙◌, subst, inl, inr, arith, leb-true, eqb-true, eq-eqb, get_or-drop, get_or-take, length-drop}
use Rattle.std.proofs.lemmas.Bool.{cases_Bool, cases_lt, both_ways, and_parts, and_from, not-true}
use Rattle.std.proofs.lemmas.Int.{ints}
use Rattle.std.proofs.lemmas.List.{get_or-map}
use Rattle.ttx_code.specs.Words.{Near, is_odd, odd_byte, stored}
use Rattle.ttx_code.specs.Laws.{OddBytesHoldTheirCodes}
use Rattle.ttx_packet.specs.Slots.{Kind, IsEmpty, IsUnreadable, IsHeader, IsRow, IsLinks, IsInfo, IsOther, is_empty, kind_of}
use Rattle.ttx_packet.specs.Receptions.{IsFree, MayBeReceivedAs}
use Rattle.ttx_packet.specs.Laws.{RowsAreNumbered}
use Rattle.ttx_header.specs.Ids.{Id, same_id}
use Rattle.ttx_header.specs.Control.{c11}
use Rattle.ttx_header.specs.Headers.{id_of, control_of}
use Rattle.ttx_links.specs.Sets.{LinkSet}
use Rattle.ttx_page.specs.Packets.{Packet, Empty, Unreadable, Header, Row, Links, Info, Other, packet_of, packet_of_kind}
use Rattle.ttx_page.specs.Pages.{Page, IsPage, needed, matches, selected_mag, blank_row}
use Rattle.ttx_page.specs.declared.item.Item.{Item}
use Rattle.ttx_page.specs.declared.item.Item.TheVariants.{Head as TheHead, Row as TheRow, Links as TheLinks}
use Rattle.ttx_page.specs.declared.selection.Selection.{Selection}
use Rattle.ttx_page.specs.declared.selection.Selection.TheVariants.{Exact, AnySub}
use Rattle.ttx_page.specs.declared.class.Class.{Class}
use Rattle.ttx_page.specs.Memories.{Memory, memory_row, char_at, Holds, Shows, memory_of_page}
use Rattle.ttx_page.specs.Receivers.{after, older, erased, erases, begun, with_row, with_storing, with_links, stored_row, misses}
use Rattle.ttx_page.specs.Streams.{Stream, heads, heads_page, heads_matched}
use Rattle.ttx_page.specs.Receptions.{IsTextByte}
use Rattle.ttx_page.specs.Steady.{HeadIsRight}
use Rattle.ttx_render.specs.declared.cells.Cell.{Cell}
use Rattle.ttx_render.specs.Cells.{space_cell}
use Rattle.ttx_render.specs.View.{view_of, view_row, own_cells, codes_of, rows_to}
use Rattle.ttx_render.specs.Comparison.{SameButClock, IsCompared, cell_in}
use Rattle.ttx_render.specs.Laws.{ShowingIsSeeing}
use Rattle.ttx_certify.specs.Seen.{HasView}
use Rattle.ttx_rows.specs.SeenByRows.{HasViewBelowHead}
use Rattle.ttx_rows.specs.RowReceivers.{Manner, may_refuse, blank_byte, blanked, AreTakenAs, IsTakenAs, RowStep, RowRun}
use Rattle.ttx_rows.proofs.OtherBytes.{blank_odd, even_zero}
use Rattle.ttx_rows.proofs.OneSlot.{LawsBelow, packet_is, packet_at, IsHeaderKind, header_of}
use Rattle.ttx_rows.specs.RowReceptions.{may_be_lost}
use Rattle.ttx_rows.proofs.Mended.{Arrived}
use Rattle.ttx_receiver.specs.Reading.{IsIgnored}
use Rattle.ttx_receiver.proofs.KeptMemories.{length-stored_row}
use Rattle.ttx_rows.proofs.StoredText.{taken_odd, taken_at}

-- the control bits and the header text of the page
pub record HasHead (p : Page) (m : Memory) : Type 0 where
  pub control : m.control ≡ p.control
  pub head : (c : ℕ) → c < 24 → char_at m 0 (8 + c) ≡ get_or p.head c 0

-- row 0 has 40 columns
abbrev pub Wide : Memory → Type 0
Wide m = length (memory_row m 0) ≡ 40

-- row 0 keeps its length

wide_set : (rows : List (List ℕ)) (k : ℕ) (a : List ℕ) → length (get_or rows 0 []) ≡ 40 → (k ≡ 0 → length a ≡ 40) →
    length (get_or (set rows k a) 0 []) ≡ 40
wide_set [] k a old new = old
wide_set (x ∷ rows) zero a old new = new refl
wide_set (x ∷ rows) (suc k) a old new = old

wide_erased : (rows : List (List ℕ)) → length (get_or rows 0 []) ≡ 40 → length (get_or (take 1 rows ++ replicate 24 blank_row) 0 []) ≡ 40
wide_erased [] old = refl
wide_erased (x ∷ rows) old = old

abbrev headed : ℕ → List ℕ → List ℕ → List ℕ
headed n row t = take n row ++ stored_row (drop n row) t

length-headed : (n : ℕ) (row t : List ℕ) → length (headed n row t) ≡ length row
length-headed zero row t = length-stored_row row t
length-headed (suc n) [] t = refl
length-headed (suc n) (x ∷ row) t = ap suc (length-headed n row t)

if_both : (P : Memory → Type 0) (b : Bool) (m n : Memory) → (b ≡ true → P m) → P n → P (if b then m else n)
if_both P true m n x y = x refl
if_both P false m n x y = y

wide_base : (b : Bool) (m : Memory) → Wide m → Wide (if b then erased m else m)
wide_base b m w = if_both Wide b (erased m) m (λ _. wide_erased m.rows w) w

pub wide_after : (class : Class) (lines : ℕ) (sel : Selection) (choice : Bool) (m : Memory) (pkt : Packet) → Wide m →
    Wide (after class lines sel choice m pkt)
wide_after class lines sel choice m (Header id control t) w =
    if_both Wide (matches sel id) _ _
    (λ _. let b = wide_base (erases class choice m control) m w in wide_set _ 0 _ b (λ _. length-headed 8 _ t ∙ b))
    (if_both Wide (id.mag == selected_mag sel) (with_storing m false) _ (λ _. w)
    (if_both Wide (c11 control && choice) (with_storing m false) m (λ _. w) w))
wide_after class lines sel choice m (Row mag number t) w =
    if_both Wide ((mag == selected_mag sel) && m.storing && not (misses lines choice m)) _ m
    (λ _. wide_set m.rows number _ w (λ e. length-stored_row (memory_row m number) t ∙ ap (λ k. length (memory_row m k)) e ∙ w)) w
wide_after class lines sel choice m (Links mag content) w =
    if_both Wide ((mag == selected_mag sel) && m.storing && not (misses lines choice m)) _ m (λ _. linked content) w
  where
    linked : (content : Option LinkSet) → Wide (with_links m content)
    linked None = w
    linked (Some content) = w
wide_after class lines sel choice m Empty w = w
wide_after class lines sel choice m Unreadable w = w
wide_after class lines sel choice m Info w = w
wide_after class lines sel choice m Other w = w

pub wide_step : (how : Manner) (class : Class) (lines : ℕ) (sel : Selection) (m : Memory) (received : List ℕ) (new : Memory) → Wide m →
    RowStep how class lines sel m received new → Wide new
wide_step how class lines sel m received new w step = elim step as (λ _. Wide new) [
  | inl taken ↦ subst Wide (sym taken.is) (wide_after class lines sel taken.choice (older m) (packet_of received) w)
  | inr other ↦ elim other as (λ _. Wide new) [
    | inl r ↦ subst Wide (sym r.2) w
    | inr more ↦ elim more as (λ _. Wide new) [
      | inl b ↦ subst Wide (sym b.1.1) (wide_after class lines sel b.1.0 (older m) (blanked (packet_of received)) w)
      | inr stored ↦ subst Wide (sym stored.1.3) (wide_after class lines sel stored.1.1 (older m) stored.1.0 w)
    ]
  ]
]

-- what other packets leave unchanged

-- a packet that no receiver of the selection takes into row 0
abbrev pub IsElsewhere : Selection → Packet → Type 0
IsElsewhere sel (Header id control t) = matches sel id ≡ false
IsElsewhere sel (Row mag number t) = 1 ≤ number
IsElsewhere sel (Links mag content) = Unit {0}
IsElsewhere sel Empty = Unit {0}
IsElsewhere sel Unreadable = Unit {0}
IsElsewhere sel Info = Unit {0}
IsElsewhere sel Other = Unit {0}

first_other : (rows : List (List ℕ)) (k : ℕ) (a : List ℕ) → 1 ≤ k → get_or (set rows k a) 0 [] ≡ get_or rows 0 []
first_other [] k a low = refl
first_other (x ∷ rows) zero a low = absurd (omega arith)
first_other (x ∷ rows) (suc k) a low = refl

head_row : (p : Page) (m : Memory) (k : ℕ) (a : List ℕ) → 1 ≤ k → HasHead p m → HasHead p (with_row m k a)
head_row p m k a low h = record {
  control = h.control;
  head = λ c lt. ap (λ row. get_or row (8 + c) 0) (first_other m.rows k a low) ∙ h.head c lt;
}

head_storing : (p : Page) (m : Memory) (b : Bool) → HasHead p m → HasHead p (with_storing m b)
head_storing p m b h = record { control = h.control; head = h.head }

head_older : (p : Page) (m : Memory) → HasHead p m → HasHead p (older m)
head_older p m h = record { control = h.control; head = h.head }

head_kept : (p : Page) (class : Class) (lines : ℕ) (sel : Selection) (choice : Bool) (m : Memory) (pkt : Packet) → IsElsewhere sel pkt → HasHead p m →
    HasHead p (after class lines sel choice m pkt)
head_kept p class lines sel choice m (Header id control t) other h =
    if_both (HasHead p) (matches sel id) _ _ (λ here. absurd (both_ways _ other here))
    (if_both (HasHead p) (id.mag == selected_mag sel) (with_storing m false) _ (λ _. head_storing p m false h)
    (if_both (HasHead p) (c11 control && choice) (with_storing m false) m (λ _. head_storing p m false h) h))
head_kept p class lines sel choice m (Row mag number t) low h =
    if_both (HasHead p) ((mag == selected_mag sel) && m.storing && not (misses lines choice m)) _ m (λ _. head_row p m number _ low h) h
head_kept p class lines sel choice m (Links mag content) other h =
    if_both (HasHead p) ((mag == selected_mag sel) && m.storing && not (misses lines choice m)) _ m (λ _. linked content) h
  where
    linked : (content : Option LinkSet) → HasHead p (with_links m content)
    linked None = h
    linked (Some content) = record { control = h.control; head = h.head }
head_kept p class lines sel choice m Empty other h = h
head_kept p class lines sel choice m Unreadable other h = h
head_kept p class lines sel choice m Info other h = h
head_kept p class lines sel choice m Other other h = h

-- what a header of the page leaves

stored_here : (row t : List ℕ) (c : ℕ) → c < length row → is_odd (get_or t c 0) ≡ true → get_or (stored_row row t) c 0 ≡ get_or t c 0 % 128
stored_here [] t c lt odd = absurd (omega arith)
stored_here (x ∷ row) [] c lt odd = absurd (both_ways _ even_zero odd)
stored_here (x ∷ row) (b ∷ t) zero lt odd = ap (λ (o : Bool). if o then b % 128 else x) odd
stored_here (x ∷ row) (b ∷ t) (suc c) lt odd = stored_here row t c (omega arith) odd

headed_at : (n c i : ℕ) (row t : List ℕ) → i ≡ n + c → get_or (headed n row t) i 0 ≡ get_or (stored_row (drop n row) t) c 0
headed_at zero c i row t e = let same : i ≡ c = omega arith in ap (λ k. get_or (stored_row row t) k 0) same
headed_at (suc n) c i [] t e = refl
headed_at (suc n) c zero (x ∷ row) t e = absurd (omega arith)
headed_at (suc n) c (suc i) (x ∷ row) t e = headed_at n c i row t (omega arith)

set_first : (rows : List (List ℕ)) (a : List ℕ) → length (get_or rows 0 []) ≡ 40 → get_or (set rows 0 a) 0 [] ≡ a
set_first [] a long = absurd (omega arith)
set_first (x ∷ rows) a long = refl

-- a text that has the bytes of the page's header
abbrev IsHeadText : Page → List ℕ → Type 0
IsHeadText p t = (c : ℕ) → c < 24 → get_or t c 0 ≡ odd_byte (get_or p.head c 0)

head_begun : OddBytesHoldTheirCodes → (p : Page) → IsPage p → (m : Memory) (t : List ℕ) → Wide m → IsHeadText p t → HasHead p (begun m p.control t)
head_begun codes p page m t w text = record {
  control = refl;
  head = λ c lt.
      let row : List ℕ = memory_row m 0 in
      let odd = codes (get_or p.head c 0) (page.head_codes c) in
      let cut = length-drop 8 row in
      ap (λ cells. get_or cells (8 + c) 0) (set_first m.rows (headed 8 row t) w)
      ∙ headed_at 8 c (8 + c) row t refl
      ∙ stored_here (drop 8 row) t c (omega (arith, w)) (ap is_odd (text c lt) ∙ odd.0)
      ∙ ap (λ b. b % 128) (text c lt) ∙ odd.1;
}

head_set : OddBytesHoldTheirCodes → (p : Page) → IsPage p → (class : Class) (lines : ℕ) (sel : Selection) (choice : Bool) (m : Memory) (id : Id)
    (control : ℕ) (t : List ℕ) → matches sel id ≡ true → control ≡ p.control → IsHeadText p t → Wide m →
    HasHead p (after class lines sel choice m (Header id control t))
head_set codes p page class lines sel choice m id control t here is text w =
    if_true (HasHead p) (matches sel id) _ _ here
    (subst (λ k. HasHead p (begun (if erases class choice m control then erased m else m) k t)) (sym is)
    (head_begun codes p page (if erases class choice m control then erased m else m) t (wide_base (erases class choice m control) m w) text))
  where
    if_true : (P : Memory → Type 0) (b : Bool) (m n : Memory) → b ≡ true → P m → P (if b then m else n)
    if_true P true m n e x = x
    if_true P false m n e x = absurd (both_ways false refl e)

-- headers

pub page_of_mag : (page : Id) (pkt : Packet) → heads_page page pkt ≡ true → heads page.mag pkt ≡ true
page_of_mag page (Header id control t) h =
    let e : page.mag ≡ id.mag = eqb-true _ _ ((and_parts _ _ (and_parts _ _ h).0).0) in
    eq-eqb id.mag page.mag (sym e)
page_of_mag page (Row mag number t) h = h
page_of_mag page (Links mag content) h = h
page_of_mag page Empty h = h
page_of_mag page Unreadable h = h
page_of_mag page Info h = h
page_of_mag page Other h = h

mag_kind : (mag : ℕ) (slot : List ℕ) (k : Kind) → heads mag (packet_of_kind slot k) ≡ true → IsHeaderKind k
mag_kind mag slot (IsHeader m) h = tt
mag_kind mag slot (IsRow m number) h = absurd (both_ways false refl h)
mag_kind mag slot (IsLinks m) h = absurd (both_ways false refl h)
mag_kind mag slot IsEmpty h = absurd (both_ways false refl h)
mag_kind mag slot IsUnreadable h = absurd (both_ways false refl h)
mag_kind mag slot IsInfo h = absurd (both_ways false refl h)
mag_kind mag slot (IsOther m number) h = absurd (both_ways false refl h)

-- a header of the magazine is not lost
header_arrives : (mag : ℕ) (pkt : Packet) → heads mag pkt ≡ true → may_be_lost mag pkt ≡ true → ⊥
header_arrives mag (Header id control t) h lost = both_ways _ (not-true _ lost) h
header_arrives mag (Row m number t) h lost = both_ways false refl h
header_arrives mag (Links m content) h lost = both_ways false refl h
header_arrives mag Empty h lost = both_ways false refl h
header_arrives mag Unreadable h lost = both_ways false refl h
header_arrives mag Info h lost = both_ways false refl h
header_arrives mag Other h lost = both_ways false refl h

-- a header is received as one of the same id and control bits
pub record HeaderReceived (page : Id) (sent received : List ℕ) : Type 0 where
  pub may : MayBeReceivedAs sent received
  pub is_received : packet_of received ≡ Header (id_of received) (control_of received) (drop 10 received)
  pub is_sent : packet_of sent ≡ Header (id_of sent) (control_of sent) (drop 10 sent)
  pub same_id : id_of received ≡ id_of sent
  pub same_control : control_of received ≡ control_of sent

module _ (laws : LawsBelow) (page : Id) (sent received : List ℕ) (arrived : Arrived page sent received) where
  both_headers : MayBeReceivedAs sent received → (mag : ℕ) → kind_of sent ≡ IsHeader mag → kind_of received ≡ IsHeader mag →
      HeaderReceived page sent received
  both_headers may mag kind_sent kind_received =
      let fields = laws.header sent received mag arrived.slot may.slot arrived.clean kind_sent front in
      record {
        may = may;
        is_received = packet_at received (IsHeader mag) kind_received;
        is_sent = packet_at sent (IsHeader mag) kind_sent;
        same_id = fields.0;
        same_control = fields.1;
      }
    where
      front : (x : ℕ) → x < 10 → Near (get_or sent x 0) (get_or received x 0)
      front x lt = elim (may.near x (omega arith)) as (λ _. Near (get_or sent x 0) (get_or received x 0))
          [ inl f ↦ let k : 34 ≤ x = subst (λ kind. IsFree kind x) kind_sent f in absurd (omega arith) | inr near ↦ near ]

  some_header : (slot : List ℕ) (mag : ℕ) → kind_of slot ≡ IsHeader mag → is_empty slot ≡ true → ⊥
  some_header slot mag e t = subst IsHeaderKind (sym e ∙ (laws.empty slot).1 t) tt

  pub header_was_sent : (mag : ℕ) → kind_of received ≡ IsHeader mag → HeaderReceived page sent received
  header_was_sent mag e = elim arrived.arrives as (λ _. HeaderReceived page sent received) [
    | inr nothing ↦ absurd (subst IsIgnored (packet_at received (IsHeader mag) e) nothing.1)
    | inl may ↦ elim (cases_Bool (is_empty sent)) as (λ _. HeaderReceived page sent received) [
      | inl empty ↦ absurd (some_header received mag e (may.empty empty))
      | inr some ↦ elim (laws.kind sent received arrived.slot arrived.clean some may) as (λ _. HeaderReceived page sent received) [
        | inl kept ↦ both_headers may mag (sym kept ∙ e) e
        | inr lost ↦ absurd (some_header received mag e lost.1)
      ]
    ]
  ]

  pub mag_header_received : heads page.mag (packet_of sent) ≡ true → HeaderReceived page sent received
  mag_header_received mine =
      let k = header_of (kind_of sent) (mag_kind page.mag sent (kind_of sent) (ap (heads page.mag) (sym (packet_is sent)) ∙ mine)) in
      elim arrived.arrives as (λ _. HeaderReceived page sent received) [
        | inr nothing ↦ absurd (header_arrives page.mag (packet_of sent) mine nothing.0)
        | inl may ↦ elim (cases_Bool (is_empty sent)) as (λ _. HeaderReceived page sent received) [
          | inl empty ↦ absurd (some_header sent k.0 k.1 empty)
          | inr some ↦ elim (laws.kind sent received arrived.slot arrived.clean some may) as (λ _. HeaderReceived page sent received) [
            | inl kept ↦ both_headers may k.0 k.1 (kept ∙ k.1)
            | inr lost ↦ absurd (subst IsHeaderKind (sym k.1 ∙ lost.0) tt)
          ]
        ]
      ]

  pub page_header_received : heads_page page (packet_of sent) ≡ true → HeaderReceived page sent received
  page_header_received mine = mag_header_received (page_of_mag page (packet_of sent) mine)

-- the selection matches the page's own id
pub page_id_matches : (sel : Selection) (page id : Id) → matches sel page ≡ true → same_id page id ≡ true → matches sel id ≡ true
page_id_matches (Exact own) page id h k =
    let a = eqb-true _ _ ((and_parts _ _ (and_parts _ _ h).0).0) ∙ eqb-true _ _ ((and_parts _ _ (and_parts _ _ k).0).0) in
    let b = eqb-true _ _ ((and_parts _ _ (and_parts _ _ h).0).1) ∙ eqb-true _ _ ((and_parts _ _ (and_parts _ _ k).0).1) in
    let c = eqb-true _ _ ((and_parts _ _ h).1) ∙ eqb-true _ _ ((and_parts _ _ k).1) in
    and_from _ _ (and_from _ _ (eq-eqb own.mag id.mag a) (eq-eqb own.page id.page b)) (eq-eqb own.sub id.sub c)
page_id_matches (AnySub mag number) page id h k =
    let a = eqb-true _ _ ((and_parts _ _ h).0) ∙ eqb-true _ _ ((and_parts _ _ (and_parts _ _ k).0).0) in
    let b = eqb-true _ _ ((and_parts _ _ h).1) ∙ eqb-true _ _ ((and_parts _ _ (and_parts _ _ k).0).1) in
    and_from _ _ (eq-eqb mag id.mag a) (eq-eqb number id.page b)

-- one slot

-- from place `from` of the slots received on, each header of the page has its whole text right
abbrev pub AreRightFrom : Stream → Id → ℤ → List (List ℕ) → ℕ → Type 0
AreRightFrom s page tau received from =
    (n : ℕ) → from ≤ n → n < length received → heads_page page (packet_of (s (tau +ℤ pos n))) ≡ true → (x : ℕ) → IsTextByte TheHead x →
    get_or (get_or received n []) x 0 ≡ get_or (s (tau +ℤ pos n)) x 0

-- what is known of a slot: a header that the selection matches is the page's, and its text is
pub record OfPage (sel : Selection) (p : Page) (sent received : List ℕ) : Type 0 where
  pub arrived : Arrived p.id sent received
  pub selected : heads_matched sel (packet_of sent) ≡ true → heads_page p.id (packet_of sent) ≡ true
  pub head : heads_page p.id (packet_of sent) ≡ true → HeadIsRight p (packet_of sent)

module _ (laws : LawsBelow) (numbered : RowsAreNumbered) (codes : OddBytesHoldTheirCodes) (p : Page) (page : IsPage p) (sel : Selection)
    (fits : matches sel p.id ≡ true) (class : Class) (lines : ℕ) (how : Manner) (sent received : List ℕ) (of : OfPage sel p sent received) where
  -- a slot that does not send a header of the page
  pub elsewhere : heads_page p.id (packet_of sent) ≡ false → IsElsewhere sel (packet_of received)
  elsewhere other = subst (IsElsewhere sel) (sym (packet_is received)) (go (kind_of received) refl)
    where
      go : (k : Kind) → kind_of received ≡ k → IsElsewhere sel (packet_of_kind received k)
      go (IsRow mag number) e = (numbered received mag number e).0
      go (IsHeader mag) e = elim (cases_Bool (matches sel (id_of received))) as (λ _. matches sel (id_of received) ≡ false) [
        | inr f ↦ f
        | inl here ↦
            let h = header_was_sent laws p.id sent received of.arrived mag e in
            let matched : heads_matched sel (packet_of sent) ≡ true = ap (heads_matched sel) h.is_sent
            ∙ ap (λ id. matches sel id) (sym h.same_id) ∙ here in
            absurd (both_ways _ other (of.selected matched))
      ]
      go IsEmpty e = tt
      go IsUnreadable e = tt
      go (IsLinks mag) e = tt
      go IsInfo e = tt
      go (IsOther mag number) e = tt

  elsewhere_blanked : (pkt : Packet) → IsElsewhere sel pkt → IsElsewhere sel (blanked pkt)
  elsewhere_blanked (Header id control t) e = e
  elsewhere_blanked (Row mag number t) e = e
  elsewhere_blanked (Links mag content) e = e
  elsewhere_blanked Empty e = e
  elsewhere_blanked Unreadable e = e
  elsewhere_blanked Info e = e
  elsewhere_blanked Other e = e

  elsewhere_taken : (pkt taken : Packet) → IsTakenAs pkt taken → IsElsewhere sel pkt → IsElsewhere sel taken
  elsewhere_taken (Header id control t) taken i e = subst (IsElsewhere sel) (sym i.2) e
  elsewhere_taken (Row mag number t) taken i e = subst (IsElsewhere sel) (sym i.2) e
  elsewhere_taken (Links mag content) taken i e = subst (IsElsewhere sel) (sym i) e
  elsewhere_taken Empty taken i e = subst (IsElsewhere sel) (sym i) e
  elsewhere_taken Unreadable taken i e = subst (IsElsewhere sel) (sym i) e
  elsewhere_taken Info taken i e = subst (IsElsewhere sel) (sym i) e
  elsewhere_taken Other taken i e = subst (IsElsewhere sel) (sym i) e

  pub other_step : heads_page p.id (packet_of sent) ≡ false → (m new : Memory) → HasHead p m → RowStep how class lines sel m received new →
      HasHead p new
  other_step other m new h step = elim step as (λ _. HasHead p new) [
    | inl taken ↦ subst (HasHead p) (sym taken.is) (head_kept p class lines sel taken.choice (older m) (packet_of received) (elsewhere other)
        (head_older p m h))
    | inr more ↦ elim more as (λ _. HasHead p new) [
      | inl r ↦ subst (HasHead p) (sym r.2) (head_older p m h)
      | inr rest ↦ elim rest as (λ _. HasHead p new) [
        | inl b ↦ subst (HasHead p) (sym b.1.1) (head_kept p class lines sel b.1.0 (older m) (blanked (packet_of received))
            (elsewhere_blanked (packet_of received) (elsewhere other)) (head_older p m h))
        | inr stored ↦ subst (HasHead p) (sym stored.1.3) (head_kept p class lines sel stored.1.1 (older m) stored.1.0
            (elsewhere_taken (packet_of received) stored.1.0 stored.1.2 (elsewhere other)) (head_older p m h))
      ]
    ]
  ]

  -- a header of the page whose text arrives
  module _ (mine : heads_page p.id (packet_of sent) ≡ true)
      (right : (x : ℕ) → IsTextByte TheHead x → get_or received x 0 ≡ get_or sent x 0) where
    h : HeaderReceived p.id sent received
    h = page_header_received laws p.id sent received of.arrived mine

    abbrev t : List ℕ
    t = drop 10 received

    head_is : (control_of sent ≡ p.control) × (take 24 (drop 10 sent) ≡ map odd_byte p.head)
    head_is = subst (HeadIsRight p) h.is_sent (of.head mine)

    control : control_of received ≡ p.control
    control = h.same_control ∙ head_is.0

    text : IsHeadText p t
    text c lt =
        get_or-drop 10 received c 0 ∙ right (10 + c) (omega arith, omega arith) ∙ sym (get_or-drop 10 sent c 0)
        ∙ sym (get_or-take 24 (drop 10 sent) c 0 lt) ∙ ap (λ bytes. get_or bytes c 0) head_is.1
        ∙ get_or-map odd_byte p.head c 0 0 (omega (arith, page.head_length))

    odd : (c : ℕ) → c < 24 → is_odd (get_or t c 0) ≡ true
    odd c lt = ap is_odd (text c lt) ∙ (codes (get_or p.head c 0) (page.head_codes c)).0

    long : length t ≡ 32
    long = let cut = length-drop 10 received in let size = h.may.slot.size in omega arith

    blank_text : IsHeadText p (map blank_byte t)
    blank_text c lt = get_or-map blank_byte t c 0 0 (omega (arith, long)) ∙ blank_odd (get_or t c 0) (odd c lt) ∙ text c lt

    taken_text : (taken : List ℕ) → AreTakenAs t taken → IsHeadText p taken
    taken_text taken are c lt =
        let fits_byte : get_or t c 0 < 256 = subst (λ b. b < 256) (sym (get_or-drop 10 received c 0)) (h.may.slot.bytes (10 + c)) in
        taken_odd _ _ fits_byte (taken_at t taken are c) (odd c lt) ∙ text c lt

    here : matches sel (id_of received) ≡ true
    here = ap (λ id. matches sel id) h.same_id ∙ page_id_matches sel p.id (id_of sent) fits (sym (ap (heads_page p.id) h.is_sent) ∙ mine)

    begins : (choice : Bool) (m : Memory) (text : List ℕ) → IsHeadText p text → Wide m →
        HasHead p (after class lines sel choice (older m) (Header (id_of received) (control_of received) text))
    begins choice m text is w = head_set codes p page class lines sel choice (older m) (id_of received) (control_of received) text here control is w

    pub head_step : (m new : Memory) → Wide m → RowStep how class lines sel m received new → HasHead p new
    head_step m new w step = elim step as (λ _. HasHead p new) [
      | inl taken ↦ subst (HasHead p) (sym (taken.is ∙ ap (after class lines sel taken.choice (older m)) h.is_received))
          (begins taken.choice m t text w)
      | inr more ↦ elim more as (λ _. HasHead p new) [
        | inl r ↦ absurd (both_ways _ (ap may_refuse h.is_received) r.1)
        | inr rest ↦ elim rest as (λ _. HasHead p new) [
          | inl b ↦ subst (HasHead p)
              (sym (b.1.1 ∙ ap (λ pkt. after class lines sel b.1.0 (older m) (blanked pkt)) h.is_received))
              (begins b.1.0 m (map blank_byte t) blank_text w)
          | inr stored ↦
              let i : IsTakenAs (Header (id_of received) (control_of received) t) stored.1.0 =
              subst (λ pkt. IsTakenAs pkt stored.1.0) h.is_received stored.1.2 in
              subst (HasHead p) (sym (stored.1.3 ∙ ap (after class lines sel stored.1.1 (older m)) i.2))
              (begins stored.1.1 m i.0 (taken_text i.0 i.1) w)
        ]
      ]
    ]

-- runs

abbrev pub AllOfPage : Selection → Page → Stream → ℤ → List (List ℕ) → Type 0
AllOfPage sel p s tau received = (n : ℕ) → n < length received → OfPage sel p (s (tau +ℤ pos n)) (get_or received n [])

pub later : (sel : Selection) (p : Page) (s : Stream) (tau : ℤ) (slot : List ℕ) (received : List (List ℕ)) → AllOfPage sel p s tau (slot ∷ received) →
    AllOfPage sel p s (tau +ℤ pos 1) received
later sel p s tau slot received all n lt =
    let e : tau +ℤ pos (suc n) ≡ (tau +ℤ pos 1) +ℤ pos n = omega (arith, ints) in
    subst (λ j. OfPage sel p (s j) (get_or received n [])) e (all (suc n) (omega arith))

pub right_later : (s : Stream) (page : Id) (tau : ℤ) (slot : List ℕ) (received : List (List ℕ)) (from : ℕ) →
    AreRightFrom s page tau (slot ∷ received) (suc from) → AreRightFrom s page (tau +ℤ pos 1) received from
right_later s page tau slot received from right n le lt =
    let e : tau +ℤ pos (suc n) ≡ (tau +ℤ pos 1) +ℤ pos n = omega (arith, ints) in
    subst (λ j. heads_page page (packet_of (s j)) ≡ true → (x : ℕ) → IsTextByte TheHead x → get_or (get_or received n []) x 0 ≡ get_or (s j) x 0) e
    (right (suc n) (omega arith) (omega arith))

pub right_next : (s : Stream) (page : Id) (tau : ℤ) (slot : List ℕ) (received : List (List ℕ)) →
    AreRightFrom s page tau (slot ∷ received) 0 → AreRightFrom s page (tau +ℤ pos 1) received 0
right_next s page tau slot received right = right_later s page tau slot received 0 (λ n le lt. right n (omega arith) lt)

module _ (laws : LawsBelow) (numbered : RowsAreNumbered) (codes : OddBytesHoldTheirCodes) (p : Page) (page : IsPage p) (sel : Selection)
    (fits : matches sel p.id ≡ true) (class : Class) (lines : ℕ) (how : Manner) (s : Stream) where
  -- each header is right
  kept_head : (received : List (List ℕ)) (tau : ℤ) → AllOfPage sel p s tau received → AreRightFrom s p.id tau received 0 → (m new : Memory) →
      HasHead p m → Wide m → RowRun how class lines sel m received new → HasHead p new
  kept_head [] tau of right m new h w run = subst (HasHead p) (sym run) h
  kept_head (slot ∷ received) tau of right m new h w run =
      kept_head received (tau +ℤ pos 1) (later sel p s tau slot received of) (right_next s p.id tau slot received right) run.0 new
      (elim (cases_Bool (heads_page p.id (packet_of (s (tau +ℤ pos 0))))) as (λ _. HasHead p run.0) [
        | inl mine ↦ head_step laws numbered codes p page sel fits class lines how (s (tau +ℤ pos 0)) slot (of 0 (omega arith)) mine
            (right 0 (omega arith) (omega arith) mine) m run.0 w run.1
        | inr other ↦ other_step laws numbered codes p page sel fits class lines how (s (tau +ℤ pos 0)) slot (of 0
            (omega arith)) other m run.0 h run.1
      ]) (wide_step how class lines sel m slot run.0 w run.1) run.2

  -- each one from a place on is right
  pub last_head : (received : List (List ℕ)) (tau : ℤ) (from : ℕ) → AllOfPage sel p s tau received → from < length received →
      heads_page p.id (packet_of (s (tau +ℤ pos from))) ≡ true → AreRightFrom s p.id tau received from → (m new : Memory) →
      Wide m → RowRun how class lines sel m received new → HasHead p new
  last_head [] tau from of lt mine right m new w run = absurd (omega arith)
  last_head (slot ∷ received) tau zero of lt mine right m new w run =
      kept_head received (tau +ℤ pos 1) (later sel p s tau slot received of) (right_next s p.id tau slot received right) run.0 new
      (head_step laws numbered codes p page sel fits class lines how (s (tau +ℤ pos 0)) slot (of 0 (omega arith)) mine
      (right 0 (omega arith) (omega arith) mine) m run.0 w run.1)
      (wide_step how class lines sel m slot run.0 w run.1) run.2
  last_head (slot ∷ received) tau (suc from) of lt mine right m new w run =
      let e : tau +ℤ pos (suc from) ≡ (tau +ℤ pos 1) +ℤ pos from = omega (arith, ints) in
      last_head received (tau +ℤ pos 1) from (later sel p s tau slot received of) (omega arith)
      (subst (λ j. heads_page p.id (packet_of (s j)) ≡ true) e mine) (right_later s p.id tau slot received from right) run.0 new
      (wide_step how class lines sel m slot run.0 w run.1) run.2

-- Views

-- a page with its own rows and links, and the head of another
abbrev held : Page → Memory → Page
held p m = record { id = p.id; control = p.control; head = p.head; rows = drop 1 m.rows; links = m.links; crc = [] }

after_first : (rows : List (List ℕ)) (k : ℕ) → get_or (drop 1 rows) k [] ≡ get_or rows (suc k) []
after_first [] k = refl
after_first (x ∷ rows) k = refl

held_row : (p : Page) (m : Memory) (number : ℕ) → 1 ≤ number → memory_row m number ≡ get_or (drop 1 m.rows) (number - 1) []
held_row p m zero low = absurd (omega arith)
held_row p m (suc k) low =
    let e : k ≡ suc k - 1 = omega arith in
    subst (λ i. memory_row m (suc k) ≡ get_or (drop 1 m.rows) i []) e (sym (after_first m.rows k))

shows_held : (p : Page) (m : Memory) → HasHead p m → Shows (held p m) m
shows_held p m h = record { control = h.control; items = by }
  where
    by : (item : Item) → needed (held p m) item ≡ true → Holds (held p m) m item
    by TheHead need = h.head
    by (TheRow number) need = held_row p m number (leb-true 1 number ((and_parts _ _ (and_parts _ _ (and_parts _ _ need).0).0).0))
    by TheLinks need = refl

first_view : (p : Page) (m : Memory) → view_row (memory_of_page (held p m)) 0 ≡ view_row (memory_of_page p) 0
unfolding view_row own_cells codes_of
first_view p m = refl

first_of : (m : Memory) → get_or (rows_to m 25) 0 [] ≡ view_row m 0
unfolding rows_to
first_of m = refl

-- the head, and the View below it
pub whole_view : ShowingIsSeeing → (p : Page) → IsPage p → (m : Memory) → HasHead p m → HasViewBelowHead p m → HasView p m
whole_view sees p page m h below = record { links = below.links; cells = by }
  where
    own : SameButClock (view_of m) (view_of (memory_of_page (held p m)))
    own = sees (held p m) m page.head_length (shows_held p m h)

    by : (number c : ℕ) → IsCompared number c → cell_in (view_of m) number c ≡ cell_in (view_of (memory_of_page p)) number c
    by zero c is = own.cells 0 c is ∙ ap (λ (row : List Cell). get_or row c space_cell)
        (first_of (memory_of_page (held p m)) ∙ first_view p m ∙ sym (first_of (memory_of_page p)))
    by (suc d) c is = below.cells (suc d) c (omega arith) is

-- the last of several

-- the last place below n where a test holds
pub record Last (test : ℕ → Bool) (n : ℕ) : Type 0 where
  pub place : ℕ
  pub below : place < n
  pub holds : test place ≡ true
  pub none : (k : ℕ) → place < k → k < n → test k ≡ false

pub last_of : (test : ℕ → Bool) (n k : ℕ) → k < n → test k ≡ true → Last test n
last_of test zero k lt holds = absurd (omega arith)
last_of test (suc n) k lt holds = elim (cases_Bool (test n)) as (λ _. Last test (suc n)) [
  | inl here ↦ record { place = n; below = omega arith; holds = here; none = λ i low high. absurd (omega arith) }
  | inr not_here ↦
      let other : k < n = below_last (cases_lt k n) not_here in
      let rest = last_of test n k other holds in
      record {
        place = rest.place;
        below = let b = rest.below in omega arith;
        holds = rest.holds;
        none = λ i low high. elim (cases_lt i n) as (λ _. test i ≡ false) [
          | inl before ↦ rest.none i low before
          | inr past ↦ let e : n ≡ i = omega arith in subst (λ j. test j ≡ false) e not_here
        ];
      }
]
  where
    below_last : (k < n) ⊎ (n ≤ k) → test n ≡ false → k < n
    below_last c not_here = elim c as (λ _. k < n) [
      | inl before ↦ before
      | inr past ↦ let e : k ≡ n = omega arith in absurd (both_ways _ not_here (subst (λ j. test j ≡ true) e holds))
    ]
