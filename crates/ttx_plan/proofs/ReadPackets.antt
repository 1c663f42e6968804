-- The program reads each packet that is put in a slot as what it is.
use Rattle.std.proofs.Common.{◌≡◌, ℕ, suc, ◌-◌, ◌<◌, ◌≤◌, Bool, true, false, not, ◌&&◌, ◌||◌, eqb, leb, List, map, replicate, Some}
use Rattle.std.proofs.Common.{refl, sym, ap, ◌∙◌, inl, inr, arith, subst}
use Rattle.std.specs.Prelude.{slice_get, slice_index, slice_range, drop, take}
use Rattle.std.proofs.lemmas.Bool.{cond-true, cond-false, cases_eq, cases_Bool, eq-eqb, ne_eqb, eqb-true, le-leb, and_parts, and_from, and_left}
use Rattle.std.proofs.lemmas.Bool.{and_right}
use Rattle.std.proofs.lemmas.Bool.{or_right, or_left}
use Rattle.std.proofs.lemmas.List.{length-map}
use Rattle.ttx_code.specs.Laws.{WordsAreRead, WordsAreWords}
use Rattle.ttx_code.specs.Words.{odd_byte, reading, is_word}
use Rattle.ttx_header.specs.Control.{c11}
use Rattle.ttx_header.specs.Fields.{HeaderFields, IsHeaderFields, fields_at}
use Rattle.ttx_header.specs.Headers.{header_bytes, time_filling}
use Rattle.ttx_header.specs.Ids.{Id}
use Rattle.ttx_header.specs.Laws.{WrittenHeadersAreRead}
use Rattle.ttx_info.specs.Infos.{InfoFields, IsInfoFields, info_bytes}
use Rattle.ttx_info.specs.Laws.{WrittenInfosAreRead}
use Rattle.ttx_links.specs.Sets.{IsLink, links_of}
use Rattle.ttx_packet.specs.Laws.{AddressIsReadBack, EmptySlotsAreEmpty}
use Rattle.ttx_packet.specs.Slots.{Kind, IsEmpty, IsHeader, IsRow, IsLinks, IsInfo, kind_of, packet_kind, links_kind, is_clean}
use Rattle.ttx_packet.specs.Slots.{is_empty, are_words, read_number}
use Rattle.ttx_page.specs.Laws.{EachSlotTurns}
use Rattle.ttx_page.specs.Packets as P
use Rattle.ttx_page.specs.Packets.{packet_of, packet_of_kind}
use Rattle.ttx_page.specs.Pages.{Page, IsPage, page_row}
use Rattle.ttx_page.specs.declared.item.Item.{Item}
use Rattle.ttx_page.specs.declared.item.Item.TheVariants.{Head as TheHead, Row as TheRow, Links as TheLinks}
use Rattle.ttx_page.specs.Streams as S
use Rattle.ttx_plan.specs.declared.packet.Packet.{Packet}
use Rattle.ttx_plan.specs.declared.packet.Slot.{Slot}
use Rattle.ttx_plan.specs.declared.packet.Slot.TheVariants.{Empty, Info, Sent}
use Rattle.ttx_plan.specs.Blocks.{header_packet, rest_packet, time_filling_packet}
use Rattle.ttx_plan.specs.Contents.{page_header_bytes, page_row_bytes, page_links_bytes}
use Rattle.ttx_plan.specs.Packets.{is_row_or_links, bytes_of}
use Rattle.ttx_plan.specs.Laws.{IsHeadOf}
use Rattle.ttx_source.specs.Services.{Authored, IsAuthored}
use Rattle.ttx_plan.proofs.QueueSlots.{heads}

-- the laws of lower layers that are cited
pub record LawsBelow : Type 0 where
  pub word : WordsAreRead
  pub is_word : WordsAreWords
  pub empty : EmptySlotsAreEmpty
  pub address : AddressIsReadBack
  pub header : WrittenHeadersAreRead
  pub info : WrittenInfosAreRead
  pub turn : EachSlotTurns

-- a row or X/27/0 of the magazine
pub record IsLateOf (mag : ℕ) (slot : Slot) : Type 0 where
  pub queue : ℕ
  pub packet : Packet
  pub below : queue < 8
  pub mag_is : mag ≡ suc queue
  pub slot_is : slot ≡ Sent queue packet
  pub late : is_row_or_links packet.kind ≡ true

-- a header, with C11 in serial transmission
pub record IsHead (pages : List Authored) (serial : Bool) (slot : Slot) (id : Id) (control : ℕ) (text : List ℕ) : Type 0 where
  pub queue : ℕ
  pub packet : Packet
  pub slot_is : slot ≡ Sent queue packet
  pub early : is_row_or_links packet.kind ≡ false
  pub mag_is : id.mag ≡ suc queue
  pub c11_is : c11 control ≡ serial
  pub own : IsHeadOf pages id control text

-- what a slot holds if this packet is read from it
abbrev pub Fits : List Authored → Bool → Slot → P.Packet → Type 0
Fits pages serial slot (P.Header id control text) = IsHead pages serial slot id control text
Fits pages serial slot (P.Row mag number text) = IsLateOf mag slot
Fits pages serial slot (P.Links mag content) = IsLateOf mag slot
Fits pages serial slot _ = (m : ℕ) → heads m slot ≡ false

-- the slot is clean, and read as what it is
pub record Reads (pages : List Authored) (serial : Bool) (slot : Slot) : Type 0 where
  pub clean : is_clean (bytes_of slot) ≡ true
  pub fits : Fits pages serial slot (packet_of (bytes_of slot))

apart : false ≡ true → ⊥
apart e = cc

-- ---- what follows for a packet that fits

module _ (pages : List Authored) (serial : Bool) (slot : Slot) where
  heads_late : (mag m : ℕ) → IsLateOf mag slot → heads m slot ≡ false
  heads_late mag m l = ap (heads m) l.slot_is ∙ and_right (eqb l.queue m) _ (ap not l.late)

  pub heads_fit : (x : P.Packet) → Fits pages serial slot x → (m : ℕ) → S.heads (suc m) x ≡ heads m slot
  heads_fit (P.Header id control text) f m = elim (cases_eq f.queue m) as (λ _. eqb id.mag (suc m) ≡ heads m slot) [
    | inl e ↦ eq-eqb id.mag (suc m) (omega (arith, f.mag_is, e))
        ∙ sym (ap (heads m) f.slot_is ∙ and_from (eqb f.queue m) _ (eq-eqb f.queue m e) (ap not f.early))
    | inr ne ↦ ne_eqb id.mag (suc m) (λ e. ne (omega (arith, f.mag_is, e))) ∙ sym (ap (heads m) f.slot_is ∙ and_left _ _ (ne_eqb f.queue m ne))
  ]
  heads_fit (P.Row mag number text) f m = sym (heads_late mag m f)
  heads_fit (P.Links mag content) f m = sym (heads_late mag m f)
  heads_fit x f m = sym (f m)

  pub late_fit : (item : Item) (x : P.Packet) → Fits pages serial slot x → (mag : ℕ) → S.carries mag item x ≡ true → IsLateOf mag slot
  late_fit (TheRow r) (P.Row m number text) f mag c = subst (λ n. IsLateOf n slot) (eqb-true m mag ((and_parts (eqb m mag) (eqb number r) c).0)) f
  late_fit TheLinks (P.Links m content) f mag c = subst (λ n. IsLateOf n slot) (eqb-true m mag c) f
  late_fit TheHead x f mag c = absurd (apart c)
  late_fit item x f mag c = absurd (apart c)

  -- a header ends pages of other magazines in serial transmission only
  pub untainted : (x : P.Packet) → Fits pages serial slot x → (serial ≡ true → (m : ℕ) → heads m slot ≡ false) → (mag : ℕ) →
      S.ends_serial mag x ≡ false
  untainted (P.Header id control text) f off mag = elim (cases_Bool serial) as (λ _. (not (eqb id.mag mag) && c11 control) ≡ false) [
    | inl is ↦ absurd (apart (sym (off is f.queue) ∙ ap (heads f.queue) f.slot_is
        ∙ and_from (eqb f.queue f.queue) _ (eq-eqb f.queue f.queue refl) (ap not f.early)))
    | inr is ↦ and_right (not (eqb id.mag mag)) (c11 control) (f.c11_is ∙ is)
  ]
  untainted x f off mag = refl

-- ---- the packets

pub packet_from : (slot : List ℕ) (k : Kind) → kind_of slot ≡ k → packet_of slot ≡ packet_of_kind slot k
unfolding packet_of
packet_from slot k e = ap (packet_of_kind slot) e

empty_clean : is_clean (replicate 42 0) ≡ true
unfolding is_clean
empty_clean = refl

pub empty_slot : LawsBelow → (pages : List Authored) (serial : Bool) → Reads pages serial Empty
empty_slot laws pages serial = record {
  clean = empty_clean;
  fits = subst (Fits pages serial Empty) (sym (packet_from (replicate 42 0) IsEmpty ((laws.empty (replicate 42 0)).1 refl))) (λ m. refl);
}

pub info_slot : LawsBelow → (pages : List Authored) (serial : Bool) (f : InfoFields) → IsInfoFields f → IsLink f.initial →
    Reads pages serial (Info (info_bytes f))
info_slot laws pages serial f ranges link =
    let w = laws.info f ranges link in
    record { clean = w.clean; fits = subst (Fits pages serial (Info (info_bytes f))) (sym (packet_from (info_bytes f) IsInfo w.kind)) (λ m. refl) }

-- headers

pub header_is : LawsBelow → (h : HeaderFields) → IsHeaderFields h → packet_of (header_bytes h) ≡ P.Header h.id h.control (drop 10 (header_bytes h))
header_is laws h ranges =
    let w = laws.header h ranges in
    packet_from (header_bytes h) (IsHeader h.id.mag) w.kind ∙ ap (λ f. P.Header f.id f.control (drop 10 (header_bytes h))) w.fields

header_slot : LawsBelow → (pages : List Authored) (serial : Bool) (queue : ℕ) (packet : Packet) (h : HeaderFields) →
    IsHeaderFields h → packet.bytes ≡ header_bytes h → is_row_or_links packet.kind ≡ false →
    h.id.mag ≡ suc queue → c11 h.control ≡ serial → ((text : List ℕ) → take 24 text ≡ h.text → IsHeadOf pages h.id h.control text) →
    Reads pages serial (Sent queue packet)
header_slot laws pages serial queue packet h ranges bytes early mag_is c own =
    let w = laws.header h ranges in
    record {
      clean = ap is_clean bytes ∙ w.clean;
      fits = subst (Fits pages serial (Sent queue packet)) (sym (ap packet_of bytes ∙ header_is laws h ranges)) (record {
        queue = queue;
        packet = packet;
        slot_is = refl;
        early = early;
        mag_is = mag_is;
        c11_is = c;
        own = own (drop 10 (header_bytes h)) (ap (λ f. f.text) w.fields);
      });
    }

pub page_fields : (serial : Bool) (authored : Authored) → IsAuthored serial authored →
    IsHeaderFields (fields_at authored.page.id authored.page.control (map odd_byte authored.page.head) (replicate 8 32))
page_fields serial authored a =
    record { id = a.page.id; control = a.page.control; text = length-map authored.page.head odd_byte ∙ a.page.head_length; clock = refl }

pub filling_fields : (serial : Bool) (queue : ℕ) → queue < 8 → IsHeaderFields (time_filling (suc queue) serial)
filling_fields serial queue lt = record {
  id = record { mag_from = omega arith; mag_to = omega (arith, lt); page = omega arith; sub = record { top = omega arith; gap = refl } };
  control = by serial;
  text = refl;
  clock = refl;
}
  where
    by : (b : Bool) → (time_filling (suc queue) b).control < 2048
    by true = omega arith
    by false = omega arith

pub page_header_slot : LawsBelow → (pages : List Authored) (serial : Bool) (index : ℕ) (authored : Authored) → slice_get pages index ≡ Some authored →
    IsAuthored serial authored → Reads pages serial (Sent (authored.page.id.mag - 1) (header_packet (page_header_bytes authored.page)))
page_header_slot laws pages serial index authored listed a =
    header_slot laws pages serial (authored.page.id.mag - 1) (header_packet (page_header_bytes authored.page)) _
    (page_fields serial authored a) refl refl
    (omega (arith, a.page.id.mag_from)) a.c11
    (λ text e. inr (record { index = index; authored = authored; listed = listed; id_is = refl; control_is = refl; text_is = e }))

pub filling_slot : LawsBelow → (pages : List Authored) (serial : Bool) (queue : ℕ) → queue < 8 →
    Reads pages serial (Sent queue (time_filling_packet serial queue))
filling_slot laws pages serial queue lt =
    header_slot laws pages serial queue (time_filling_packet serial queue) (time_filling (suc queue) serial)
    (filling_fields serial queue lt) refl refl refl
    (by serial) (λ text e. inl refl)
  where
    by : (b : Bool) → c11 (time_filling (suc queue) b).control ≡ b
    by true = refl
    by false = refl

-- rows and X/27/0

not_or : (a b : Bool) → a ≡ false → (not a || b) ≡ true
not_or a b e = or_left (not a) b (ap not e)

-- a slot with an address in code words, which is not that of a header nor that of a packet 27 without a code word in byte 2
addressed_clean : (slot : List ℕ) (number : ℕ) → are_words (slice_range slot 0 2) ≡ true → read_number slot ≡ number →
    (number ≡ 0 → ⊥) → (not (eqb (read_number slot) 27) || is_word (slice_index slot 2)) ≡ true → is_clean slot ≡ true
unfolding is_clean
addressed_clean slot number words e ne links =
    or_right (is_empty slot) _ (and_from _ _
    (and_from _ _ words (not_or (eqb (read_number slot) 0) _ (ne_eqb (read_number slot) 0 (λ z. ne (sym e ∙ z))))) links)

late_slot : (pages : List Authored) (serial : Bool) (p : Page) → IsPage p → (bytes : List ℕ) → is_clean bytes ≡ true → (x : P.Packet) →
    packet_of bytes ≡ x →
    (IsLateOf p.id.mag (Sent (p.id.mag - 1) (rest_packet bytes)) → Fits pages serial (Sent (p.id.mag - 1) (rest_packet bytes)) x) →
    Reads pages serial (Sent (p.id.mag - 1) (rest_packet bytes))
late_slot pages serial p is bytes clean x e fit = record {
  clean = clean;
  fits = subst (Fits pages serial (Sent (p.id.mag - 1) (rest_packet bytes))) (sym e) (fit (record {
    queue = p.id.mag - 1;
    packet = rest_packet bytes;
    below = omega (arith, is.id.mag_from, is.id.mag_to);
    mag_is = omega (arith, is.id.mag_from);
    slot_is = refl;
    late = refl;
  }));
}

row_kind : (slot : List ℕ) (mag number : ℕ) → 1 ≤ number → number ≤ 24 → packet_kind slot mag number ≡ IsRow mag number
unfolding packet_kind
row_kind slot mag number from to = cond-false (eqb number 0) _ _ (ne_eqb number 0 (λ e. omega (arith, e, from)))
    ∙ cond-true (leb number 24) _ _ (le-leb number 24 to)

pub row_is : LawsBelow → (p : Page) → IsPage p → (r : ℕ) → 1 ≤ r → r ≤ 24 → packet_of (page_row_bytes p r)
    ≡ P.Row p.id.mag r (map odd_byte (page_row p r))
row_is laws p is r from to =
    let a = laws.address p.id.mag r (map odd_byte (page_row p r)) is.id.mag_from is.id.mag_to (omega (arith, to)) in
    packet_from (page_row_bytes p r) (IsRow p.id.mag r) (a.kind ∙ row_kind (page_row_bytes p r) p.id.mag r from to)

pub row_slot : LawsBelow → (pages : List Authored) (serial : Bool) (p : Page) → IsPage p → (r : ℕ) → 1 ≤ r → r ≤ 24 →
    Reads pages serial (Sent (p.id.mag - 1) (rest_packet (page_row_bytes p r)))
row_slot laws pages serial p is r from to =
    let a = laws.address p.id.mag r (map odd_byte (page_row p r)) is.id.mag_from is.id.mag_to (omega (arith, to)) in
    let clean = addressed_clean (page_row_bytes p r) r a.words a.numbered (λ z. omega (arith, z, from))
    (not_or (eqb (read_number (page_row_bytes p r)) 27) _
    (ne_eqb (read_number (page_row_bytes p r)) 27 (λ z. omega (arith, z, a.numbered, to)))) in
    late_slot pages serial p is (page_row_bytes p r) clean _ (row_is laws p is r from to) (λ l. l)

links_kind_is : (slot : List ℕ) (mag : ℕ) → reading (slice_index slot 2) ≡ Some 0 → packet_kind slot mag 27 ≡ IsLinks mag
unfolding packet_kind
links_kind_is slot mag e = ap (links_kind mag) e

pub links_read : LawsBelow → (p : Page) → IsPage p → packet_of (page_links_bytes p) ≡ P.Links p.id.mag (links_of p.id.mag (page_links_bytes p))
links_read laws p is =
    let a = laws.address p.id.mag 27 (drop 2 (page_links_bytes p)) is.id.mag_from is.id.mag_to (omega arith) in
    packet_from (page_links_bytes p) (IsLinks p.id.mag) (a.kind ∙ links_kind_is (page_links_bytes p) p.id.mag (laws.word 0 (omega arith)))

pub links_slot : LawsBelow → (pages : List Authored) (serial : Bool) (p : Page) → IsPage p →
    Reads pages serial (Sent (p.id.mag - 1) (rest_packet (page_links_bytes p)))
links_slot laws pages serial p is =
    let a = laws.address p.id.mag 27 (drop 2 (page_links_bytes p)) is.id.mag_from is.id.mag_to (omega arith) in
    let clean = addressed_clean (page_links_bytes p) 27 a.words a.numbered (λ z. omega (arith, z))
    (or_right (not (eqb (read_number (page_links_bytes p)) 27)) _ (laws.is_word 0 (omega arith))) in
    late_slot pages serial p is (page_links_bytes p) clean _ (links_read laws p is) (λ l. l)
