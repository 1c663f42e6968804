-- A service that is what a cycle sends as a draft of it says: it says what the cycle sends first.
use Rattle.std.proofs.Common.{◌≡◌, ℕ, ◌+◌, ◌-◌, ◌*◌, ◌/◌, ◌%◌, ◌<◌, ◌≤◌, pos, ◌<ℤ◌, Bool, true, false, List, [], ◌∷◌, length, map, get_or, slice_get}
use Rattle.std.proofs.Common.{Option, Some, refl, sym, ap, ◌∙◌, subst, arith, inl, inr, unsigned_abs}
use Rattle.std.proofs.lemmas.Bool.{cases_lt, false≢true}
use Rattle.std.proofs.lemmas.Int.{ints}
use Rattle.std.proofs.lemmas.Option.{slice_get_within, slice_get-get_or, get_or_from_slice_get}
use Rattle.ttx_header.specs.Ids.{Id}
use Rattle.ttx_info.specs.Infos.{InfoFields}
use Rattle.ttx_page.specs.Packets.{Packet, Empty, Unreadable, Header, Row, Links, Info, Other, packet_of}
use Rattle.ttx_page.specs.Pages.{Page}
use Rattle.ttx_page.specs.Streams.{repeated, heads_page, IsOwned, IsSure}
use Rattle.ttx_page.specs.declared.item.Item.TheVariants.{Head as TheHead, Row as TheRow}
use Rattle.ttx_source.specs.Keys.{bit_at}
use Rattle.ttx_source.specs.Services.{ServiceFields, Authored, IsService, service_at, authored_ids, pages_of}
use Rattle.ttx_witness.specs.laws.JudgingLaws.{TransmissionsAreListed}
use Rattle.ttx_witness.specs.runs.Repeating.{AreSent}
use Rattle.ttx_witness.specs.declared.runs.transmissions.Transmission.{Transmission}
use Rattle.ttx_witness.specs.sent.ItemTransmissions.{sent_in}
use Rattle.ttx_extract.specs.Extracts.{IsSentService, AreOfPages, IsOfPages, IsSentOften}
use Rattle.ttx_extract.specs.FirstPackets.{first_serial, first_info}
use Rattle.ttx_extract.specs.FirstSent.{HeadSays, HeadIsSent, IsSentPage, IsEarlier, AreInOrder, first_sent, slot_in, row_of, IsBefore}
use Rattle.ttx_extract.specs.NamedPages.{named}
use Rattle.ttx_extract.specs.Drafts.{control_in, head_in, said_control, said_head, said_rows, said_page, sent_draft}
use Rattle.ttx_extract.proofs.Lists.{made_at}
use Rattle.ttx_extract.proofs.NamedIds.{IsFirst, AreNamed, are_named}
use Rattle.ttx_extract.proofs.SentRows.{row_at}
use Rattle.ttx_extract.proofs.Slots.{abs_is, slot_is}

draft_is : (slots : List (List ℕ)) (lines : ℕ) → sent_draft slots lines ≡
    service_at lines (first_serial slots) (first_info slots) (map (said_page slots lines (first_serial slots)) (named slots))
unfolding sent_draft
draft_is slots lines = refl

below : (j k : ℕ) → j < k → (pos j) <ℤ (pos k)
below j k lt = omega (arith, ints)

lower_bits : (c b : ℕ) (serial : Bool) → b ≡ bit_at 128 serial → (2 * (c / 2 % 64) + b + 256 * (c / 256)) / 2 % 64 ≡ c / 2 % 64
lower_bits c b true e = let h : b ≡ 128 = e in omega arith
lower_bits c b false e = let h : b ≡ 0 = e in omega arith

upper_bits : (c b : ℕ) (serial : Bool) → b ≡ bit_at 128 serial → (2 * (c / 2 % 64) + b + 256 * (c / 256)) / 256 ≡ c / 256
upper_bits c b true e = let h : b ≡ 128 = e in omega arith
upper_bits c b false e = let h : b ≡ 0 = e in omega arith

head_says : (serial : Bool) (id : Id) (p : Page) (packet : Packet) → heads_page id packet ≡ true → p.control ≡ control_in serial packet →
    p.head ≡ head_in packet → HeadSays p packet
head_says serial id p Empty heads control head = absurd (false≢true heads)
head_says serial id p Unreadable heads control head = absurd (false≢true heads)
head_says serial id p (Header other c text) heads control head = (
  ap (λ n. n / 2 % 64) control ∙ lower_bits c (bit_at 128 serial) serial refl,
  ap (λ n. n / 256) control ∙ upper_bits c (bit_at 128 serial) serial refl,
  head,
)
head_says serial id p (Row mag number text) heads control head = absurd (false≢true heads)
head_says serial id p (Links mag content) heads control head = absurd (false≢true heads)
head_says serial id p Info heads control head = absurd (false≢true heads)
head_says serial id p Other heads control head = absurd (false≢true heads)

control_some : (serial : Bool) (slot : List ℕ) → said_control serial (Some slot) ≡ control_in serial (packet_of slot)
unfolding said_control
control_some serial slot = refl

head_some : (slot : List ℕ) → said_head (Some slot) ≡ head_in (packet_of slot)
unfolding said_head
head_some slot = refl

row_is : (slots : List (List ℕ)) (lines : ℕ) (id : Id) (r : ℕ) → 1 ≤ r → r ≤ 24 →
    get_or (said_rows slots lines id) (r - 1) [] ≡ row_of (first_sent slots lines id (TheRow r))
row_is slots lines id r from to =
    let one : r - 1 + 1 ≡ r = omega arith in
    row_at slots lines id (r - 1) [] (omega arith) ∙ ap (λ n. row_of (first_sent slots lines id (TheRow n))) one

module _ (listed : TransmissionsAreListed) (slots : List (List ℕ)) (some : 1 ≤ length slots) (most : length slots ≤ 65536) (lines : ℕ) where
  module _ (id : Id) (k : ℕ) (lt : k < length slots) (f : IsFirst slots id k) where
    heads : heads_page id (packet_of (repeated slots (pos k))) ≡ true
    heads = ap (λ s. heads_page id (packet_of s)) (slot_is slots k lt) ∙ f.heads

    first_in : (ts : List Transmission) →
        AreSent (IsOwned (repeated slots) id TheHead) (IsSure (repeated slots) lines id.mag TheHead) (pos 0) (pos (length slots)) ts →
        (t : Transmission) × (slice_get ts 0 ≡ Some t) × (t.slot ≡ pos k)
    first_in [] sent = absurd (sent (pos k) (omega (arith, ints)) (below k (length slots) lt) (record { owner = pos k; owned = (refl, heads) }))
    first_in (t ∷ ts) sent =
        let j = unsigned_abs t.slot in
        let at : t.slot ≡ pos j = abs_is t.slot sent.1 in
        let within : j < length slots =
        let high : (pos j) <ℤ pos (length slots) = subst (λ z. z <ℤ pos (length slots)) at sent.2 in omega (arith, ints) in
        let here : heads_page id (packet_of (get_or slots j [])) ≡ true =
        subst (λ s. heads_page id (packet_of s) ≡ true) (ap (repeated slots) at ∙ slot_is slots j within) sent.0.owned.1 in
        let same : j ≡ k = elim (cases_lt j k) as (λ _. j ≡ k) [
          | inl less ↦ absurd (false≢true (sym (f.none j less) ∙ here))
          | inr ge ↦ elim (cases_lt k j) as (λ _. j ≡ k) [
            | inl less ↦
                let under : (pos k) <ℤ t.slot = subst (λ z. (pos k) <ℤ z) (sym at) (below k j less) in
                absurd (sent.3 (pos k) (omega (arith, ints)) under (record { owner = pos k; owned = (refl, heads) }))
            | inr le ↦ omega arith
          ]
        ] in
        (t, refl, at ∙ ap (λ n. pos n) same)

    pub first_at : (t : Transmission) × (slice_get (sent_in slots id lines TheHead) 0 ≡ Some t) × (t.slot ≡ pos k)
    first_at = first_in (sent_in slots id lines TheHead) (listed slots some most id lines TheHead).0

    slot_at : first_sent slots lines id TheHead ≡ Some (get_or slots k [])
    slot_at = ap (slot_in slots) first_at.1 ∙ ap (λ z. slice_get slots (unsigned_abs z)) first_at.2 ∙ slice_get-get_or slots k [] lt

    head_is_sent : (serial : Bool) (p : Page) → p.id ≡ id → p.control ≡ said_control serial (first_sent slots lines id TheHead) →
        p.head ≡ said_head (first_sent slots lines id TheHead) → HeadIsSent p (first_sent slots lines id TheHead)
    head_is_sent serial p own control head =
        let slot = get_or slots k [] in
        subst (HeadIsSent p) (sym slot_at)
        (head_says serial id p (packet_of slot) f.heads (control ∙ ap (said_control serial) slot_at ∙ control_some serial slot)
        (head ∙ ap said_head slot_at ∙ head_some slot))

  abbrev ids : List Id
  ids = named slots

  are : AreNamed slots (length slots) ids
  are = are_named slots (length slots)

  sent_page : (serial : Bool) (n : ℕ) (id : Id) → slice_get ids n ≡ Some id → IsSentPage slots lines (said_page slots lines serial id).page
  sent_page serial n id here =
      let f = are.firsts n id here in
      record {
        head = head_is_sent id f.0 f.1 f.2 serial (said_page slots lines serial id).page refl refl refl;
        rows = λ r from to. row_is slots lines id r from to;
        links = refl;
      }

  earlier : (n : ℕ) (a b : Id) → slice_get ids n ≡ Some a → slice_get ids (n + 1) ≡ Some b →
      IsEarlier (sent_in slots a lines TheHead) (sent_in slots b lines TheHead)
  earlier n a b here next =
      let f = are.firsts n a here in
      let g = are.firsts (n + 1) b next in
      let t = first_at a f.0 f.1 f.2 in
      let u = first_at b g.0 g.1 g.2 in
      let less : (pos f.0) <ℤ (pos g.0) = below f.0 g.0 (are.rising n a b here next f.0 g.0 f.2 g.2) in
      subst (λ o. IsBefore o (slice_get (sent_in slots b lines TheHead) 0)) (sym t.1)
      (subst (IsBefore (Some t.0)) (sym u.1) (subst (λ z. z <ℤ u.0.slot) (sym t.2) (subst (λ z. (pos f.0) <ℤ z) (sym u.2) less)))

  said_ids : (serial : Bool) (xs : List Id) → authored_ids (map (said_page slots lines serial) xs) ≡ xs
  said_ids serial [] = refl
  said_ids serial (x ∷ xs) = ap (λ rest. x ∷ rest) (said_ids serial xs)

  module _ (serial : Bool) (n : ℕ) (p : Page) (at : slice_get (map (λ a. a.page) (map (said_page slots lines serial) ids)) n ≡ Some p) where
    authored : (a : Authored) × (slice_get (map (said_page slots lines serial) ids) n ≡ Some a) × (a.page ≡ p)
    authored = made_at (λ a. a.page) (map (said_page slots lines serial) ids) n p at

    own : (id : Id) × (slice_get ids n ≡ Some id) × (said_page slots lines serial id ≡ authored.0)
    own = made_at (said_page slots lines serial) ids n authored.0 authored.1

    is_page : (said_page slots lines serial own.0).page ≡ p
    is_page = ap (λ a. a.page) own.2 ∙ authored.2

    id_is : own.0 ≡ p.id
    id_is = ap (λ q. q.id) is_page

  in_order : (serial : Bool) → AreInOrder slots lines (map (λ a. a.page) (map (said_page slots lines serial) ids))
  in_order serial n p q here next =
      subst (λ a. IsEarlier (sent_in slots a lines TheHead) (sent_in slots q.id lines TheHead)) (id_is serial n p here)
      (subst (λ b. IsEarlier (sent_in slots (own serial n p here).0 lines TheHead) (sent_in slots b lines TheHead)) (id_is serial (n + 1) q next)
      (earlier n (own serial n p here).0 (own serial (n + 1) q next).0 (own serial n p here).1 (own serial (n + 1) q next).1))

  abbrev drafted : ServiceFields
  drafted = service_at lines (first_serial slots) (first_info slots) (map (said_page slots lines (first_serial slots)) ids)

  is_sent : IsService drafted → IsSentService slots lines drafted
  is_sent ranges =
      let serial = first_serial slots in
      record {
        ranges = ranges;
        lines_are = refl;
        serial = refl;
        info = refl;
        listed = subst (λ xs. AreOfPages xs slots) (sym (said_ids serial ids))
            (λ n slot at. subst (λ s. IsOfPages ids (packet_of s)) (get_or_from_slice_get slots n slot [] at)
            (are.listed n (slice_get_within slots n slot at)));
        in_order = in_order serial;
        pages = λ n p at. subst (IsSentPage slots lines) (is_page serial n p at) (sent_page serial n (own serial n p at).0 (own serial n p at).1);
        often = λ n a at.
            let own = made_at (said_page slots lines serial) ids n a at in
            subst (IsSentOften slots lines) own.2 refl;
      }

  pub draft_is_sent : (service : ServiceFields) → service ≡ sent_draft slots lines → IsService service → IsSentService slots lines service
  draft_is_sent service same ranges =
      let e : service ≡ drafted = same ∙ draft_is slots lines in
      subst (IsSentService slots lines) (sym e) (is_sent (subst IsService e ranges))

-- what the draft is, field by field
pub is_draft : (slots : List (List ℕ)) (lines : ℕ) (serial : Bool) (info : Option InfoFields) (ids : List Id) (pages : List Authored) →
    serial ≡ first_serial slots → info ≡ first_info slots → ids ≡ named slots → pages ≡ map (said_page slots lines serial) ids →
    service_at lines serial info pages ≡ sent_draft slots lines
is_draft slots lines serial info named_ids pages s i n p =
    ap (λ x. service_at lines serial info x) (p ∙ (λ k. map (said_page slots lines (s k)) (n k)))
    ∙ (λ k. service_at lines (s k) (i k) (map (said_page slots lines (first_serial slots)) (named slots))) ∙ sym (draft_is slots lines)

said_page_ids : (slots : List (List ℕ)) (lines : ℕ) (serial : Bool) (ids : List Id) →
    map (λ (p : Page). p.id) (map (λ (a : Authored). a.page) (map (said_page slots lines serial) ids)) ≡ ids
said_page_ids slots lines serial [] = refl
said_page_ids slots lines serial (id ∷ ids) = ap (λ rest. id ∷ rest) (said_page_ids slots lines serial ids)

-- the pages of the draft are those that headers name
pub draft_ids : (slots : List (List ℕ)) (lines : ℕ) (service : ServiceFields) → service ≡ sent_draft slots lines →
    map (λ (p : Page). p.id) (pages_of service) ≡ named slots
draft_ids slots lines service same =
    ap (λ s. map (λ (p : Page). p.id) (pages_of s)) (same ∙ draft_is slots lines) ∙ said_page_ids slots lines (first_serial slots) (named slots)
