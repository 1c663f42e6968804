-- There is only one service that says what a cycle sends first.
use Rattle.std.proofs.Common.{◌≡◌, ℕ, suc, ◌<◌, ◌≤◌, ℤ, pos, ◌<ℤ◌, true, false, List, [], ◌∷◌, length}
use Rattle.std.proofs.Common.{map, get_or, slice_get, Option, Some, None, refl, sym, ap, ◌∙◌, subst, arith, inl, inr, unsigned_abs}
use Rattle.std.specs.List.{Contains}
use Rattle.std.specs.Option.{option_map}
use Rattle.std.proofs.lemmas.Int.{ints}
use Rattle.std.proofs.lemmas.List.Elements.{All-get_or}
use Rattle.std.proofs.lemmas.Option.{slice_get-map, slice_get_within, slice_get-get_or, get_or_from_slice_get}
use Rattle.ttx_header.specs.Ids.{Id}
use Rattle.ttx_header.specs.Control.{c11}
use Rattle.ttx_page.specs.Packets.{Packet, Empty, Unreadable, Header, Row, Links, Info, Other, packet_of}
use Rattle.ttx_page.specs.Pages.{Page, IsPage}
use Rattle.ttx_page.specs.Streams.{repeated, heads_page, IsOwned, IsSure}
use Rattle.ttx_page.specs.declared.item.Item.TheVariants.{Head as TheHead}
use Rattle.ttx_source.specs.Services.{ServiceFields, Authored, IsService, IsAuthored, pages_of, authored_ids}
use Rattle.ttx_witness.specs.laws.JudgingLaws.{TransmissionsAreListed}
use Rattle.ttx_witness.specs.runs.Repeating.{AreSent}
use Rattle.ttx_witness.specs.declared.runs.transmissions.Transmission.{Transmission}
use Rattle.ttx_witness.specs.sent.ItemTransmissions.{sent_in}
use Rattle.ttx_extract.specs.Extracts.{IsSentService, IsOfPages, IsSentOften}
use Rattle.ttx_extract.specs.Often.{often_for}
use Rattle.ttx_extract.specs.FirstSent.{HeadIsSent, IsBefore, first_slot, first_sent}
use Rattle.ttx_extract.proofs.Listed.{same_one}
use Rattle.ttx_extract.proofs.Lists.{mapped}
use Rattle.ttx_extract.proofs.Slots.{abs_is, slot_is}
use Rattle.ttx_extract.proofs.Rising.{Rises, Within, same_rising}
use Rattle.ttx_extract.proofs.SamePages.{same_page}

-- the page in a place is an authored one's
authored_at : (service : ServiceFields) (n : ℕ) (p : Page) → slice_get (pages_of service) n ≡ Some p →
    (a : Authored) × (slice_get service.pages n ≡ Some a) × (a.page ≡ p)
authored_at service n p at = mapped (λ a. a.page) (slice_get service.pages n) p (sym (slice_get-map (λ a. a.page) service.pages n) ∙ at)

module _ (service : ServiceFields) (is : IsService service) (n : ℕ) (p : Page) (at : slice_get (pages_of service) n ≡ Some p) where
  own : (a : Authored) × (slice_get service.pages n ≡ Some a) × (a.page ≡ p)
  own = authored_at service n p at

  is_authored : IsAuthored service.serial own.0
  is_authored = subst (IsAuthored service.serial) (get_or_from_slice_get service.pages n own.0 own.0 own.1)
      (All-get_or (IsAuthored service.serial) service.pages n own.0 (slice_get_within service.pages n own.0 own.1) is.pages)

  pub is_page : IsPage p
  is_page = subst IsPage own.2 is_authored.page

  pub serial_is : c11 p.control ≡ service.serial
  serial_is = subst (λ q. c11 q.control ≡ service.serial) own.2 is_authored.c11

-- the slot of a page's first header
record FirstHeader (slots : List (List ℕ)) (lines : ℕ) (id : Id) : Type 0 where
  slot : ℕ
  within : slot < length slots
  heads : heads_page id (packet_of (get_or slots slot [])) ≡ true
  transmission : Transmission
  here : slice_get (sent_in slots id lines TheHead) 0 ≡ Some transmission

below : (k n : ℕ) → (pos k) <ℤ (pos n) → k < n
below k n lt = omega (arith, ints)

-- a header's page is listed where no page is FF
contained : (ids : List Id) (id : Id) (packet : Packet) → heads_page id packet ≡ true → IsOfPages ids packet → (id.page ≡ 255 → ⊥) → Contains ids id
contained ids id Empty e of numbered = absurd (let h : false ≡ true = e in cc)
contained ids id Unreadable e of numbered = absurd (let h : false ≡ true = e in cc)
contained ids id (Header other control text) e of numbered =
    let same : id ≡ other = same_one id other e in
    elim of as (λ _. Contains ids id) [
      | inl filling ↦ absurd (numbered (ap (λ i. i.page) same ∙ filling))
      | inr has ↦ subst (Contains ids) (sym same) has
    ]
contained ids id (Row mag number text) e of numbered = absurd (let h : false ≡ true = e in cc)
contained ids id (Links mag content) e of numbered = absurd (let h : false ≡ true = e in cc)
contained ids id Info e of numbered = absurd (let h : false ≡ true = e in cc)
contained ids id Other e of numbered = absurd (let h : false ≡ true = e in cc)

module _ (listed : TransmissionsAreListed) (slots : List (List ℕ)) (some : 1 ≤ length slots) (most : length slots ≤ 65536) (lines : ℕ) where
  header_in : (p : Page) (ts : List Transmission) → HeadIsSent p (first_slot slots ts) →
      AreSent (IsOwned (repeated slots) p.id TheHead) (IsSure (repeated slots) lines p.id.mag TheHead) (pos 0) (pos (length slots)) ts →
      sent_in slots p.id lines TheHead ≡ ts →
      FirstHeader slots lines p.id
  header_in p [] says sent e = absurd says
  header_in p (t ∷ ts) says sent e =
      let k = unsigned_abs t.slot in
      let at : t.slot ≡ pos k = abs_is t.slot sent.1 in
      let lt : k < length slots = let high = sent.2 in below k (length slots) (subst (λ z. z <ℤ pos (length slots)) at high) in
      record {
        slot = k;
        within = lt;
        heads = subst (λ s. heads_page p.id (packet_of s) ≡ true) (ap (repeated slots) at ∙ slot_is slots k lt) sent.0.owned.1;
        transmission = t;
        here = ap (λ xs. slice_get xs 0) e;
      }

  first_header : (p : Page) → HeadIsSent p (first_sent slots lines p.id TheHead) → FirstHeader slots lines p.id
  first_header p says = header_in p (sent_in slots p.id lines TheHead) says (listed slots some most p.id lines TheHead).0 refl

  abbrev first_of : Option Transmission → ℤ
  first_of None = pos 0
  first_of (Some t) = t.slot

  -- the slot of a page's first header
  abbrev key : Page → ℤ
  key p = first_of (slice_get (sent_in slots p.id lines TheHead) 0)

  before_key : (a b : Option Transmission) → IsBefore a b → (first_of a) <ℤ (first_of b)
  before_key None None e = absurd e
  before_key None (Some t) e = absurd e
  before_key (Some t) None e = absurd e
  before_key (Some t) (Some u) e = e

  rises : (service : ServiceFields) → IsSentService slots lines service → Rises key (pages_of service)
  rises service is n p q here next = before_key (slice_get (sent_in slots p.id lines TheHead) 0) (slice_get (sent_in slots q.id lines TheHead) 0)
      (is.in_order n p q here next)

  module _ (a b : ServiceFields) (sent_a : IsSentService slots lines a) (sent_b : IsSentService slots lines b) where
    within : Within key (pages_of a) (pages_of b)
    within n p here =
        let is_p = is_page a sent_a.ranges n p here in
        let says = sent_a.pages n p here in
        let first = first_header p says.head in
        let ids = authored_ids b.pages in
        let has : Contains ids p.id = contained ids p.id (packet_of (get_or slots first.slot [])) first.heads
        (sent_b.listed first.slot (get_or slots first.slot []) (slice_get-get_or slots first.slot [] first.within)) is_p.page in
        let id_at : slice_get ids has.0 ≡ Some p.id = slice_get-get_or ids has.0 p.id has.1 ∙ ap (λ i. Some i) has.2 in
        let own = mapped (λ x. x.page.id) (slice_get b.pages has.0) p.id (sym (slice_get-map (λ x. x.page.id) b.pages has.0) ∙ id_at) in
        let q = own.0.page in
        let there : slice_get (pages_of b) has.0 ≡ Some q = slice_get-map (λ x. x.page) b.pages has.0 ∙ ap (option_map (λ x. x.page)) own.1 in
        let serial : c11 p.control ≡ c11 q.control = serial_is a sent_a.ranges n p here ∙ sent_a.serial ∙ sym sent_b.serial
        ∙ sym (serial_is b sent_b.ranges has.0 q there) in
        let same : p ≡ q = same_page slots lines p q is_p (is_page b sent_b.ranges has.0 q there) (sym own.2) says
        (sent_b.pages has.0 q there) serial in
        (has.0, there ∙ ap (λ x. Some x) (sym same))

  -- a page, as often as it has headers
  abbrev made : Page → Authored
  made p = record { page = p; often = often_for (length (sent_in slots p.id lines TheHead)) }

  as_made : (pages : List Authored) → ((n : ℕ) (a : Authored) → slice_get pages n ≡ Some a → IsSentOften slots lines a) →
      pages ≡ map made (map (λ a. a.page) pages)
  as_made [] often = refl
  as_made (a ∷ rest) often =
      let first : a ≡ made a.page = λ i. record { page = a.page; often = often 0 a refl i } in
      ap (λ x. x ∷ rest) first ∙ ap (λ xs. made a.page ∷ xs) (as_made rest (λ n x at. often (suc n) x at))

  pub only_one : (a b : ServiceFields) → IsSentService slots lines a → IsSentService slots lines b → a ≡ b
  only_one a b sent_a sent_b =
      let same : pages_of a ≡ pages_of b = same_rising key (pages_of a) (pages_of b) (rises a sent_a) (rises b sent_b)
      (within a b sent_a sent_b) (within b a sent_b sent_a) in
      let line = sent_a.lines_are ∙ sym sent_b.lines_are in
      let serial = sent_a.serial ∙ sym sent_b.serial in
      let info = sent_a.info ∙ sym sent_b.info in
      let pages = as_made a.pages sent_a.often ∙ ap (map made) same ∙ sym (as_made b.pages sent_b.often) in
      λ i. record { lines = line i; serial = serial i; info = info i; pages = pages i }
