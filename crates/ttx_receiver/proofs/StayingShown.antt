-- A receiver that shows a page continues to show it if nothing else is sent of the page.
use Rattle.std.proofs.Common.{◌≡◌, ℕ, zero, suc, ◌+◌, ◌%◌, ◌<◌, ◌≤◌, ℤ, pos, ◌+ℤ◌, ◌<ℤ◌, ◌≤ℤ◌, Bool, true, false, List, [], length, get_or, take, map}
use Rattle.std.proofs.Common.{refl, sym, ap, ◌∙◌, subst, arith, get_or-take}
use Rattle.std.proofs.lemmas.Int.{ints}
use Rattle.std.proofs.lemmas.List.{get_or-map}
use Rattle.std.proofs.lemmas.Bool.{both_ways}
use Rattle.ttx_code.specs.Words.{odd_byte}
use Rattle.ttx_page.specs.Packets.{Packet, Header, Row, Links, packet_of}
use Rattle.ttx_page.specs.Pages.{Page, IsPage, selected_mag, matches, needed, page_row}
use Rattle.ttx_page.specs.declared.selection.Selection.{Selection}
use Rattle.ttx_page.specs.declared.item.Item.{Item}
use Rattle.ttx_page.specs.declared.item.Item.TheVariants.{Head as TheHead, Row as TheRow, Links as TheLinks}
use Rattle.ttx_page.specs.declared.class.Class.{Class}
use Rattle.ttx_page.specs.Memories.{Memory, IsMemory, Shows}
use Rattle.ttx_page.specs.Receivers.{older, after, Run}
use Rattle.ttx_page.specs.Streams.{Stream, heads, heads_page, heads_matched, carries, IsLatestHeader}
use Rattle.ttx_page.specs.Steady.{HeadIsRight, RowIsRight, LinksAreRight}
use Rattle.ttx_page.specs.Laws.{sent_from}
use Rattle.ttx_page.proofs.Owners.{page_heads}
use Rattle.ttx_receiver.specs.Staying.{SendsOnly, ShownStaysShown}
use Rattle.ttx_receiver.proofs.StepsOverPage.{Shape, GoodText, IsHeadOf, IsRowOf, AreLinksOf, shape_after}
use Rattle.ttx_receiver.proofs.TakenAndKept.{keep_row, keep_head, keep_links}
use Rattle.ttx_receiver.proofs.Runs.{packet_at, run_keeps, IsOwnedAt, ReceivesPage, IsTuned, tuned_next}
use Rattle.ttx_receiver.proofs.TakenItems.{needed_row}
use Rattle.ttx_receiver.proofs.ReceivedPackets.{LawsBelow}
use Rattle.ttx_receiver.proofs.ReceivedPage.{same_mag, no_row_zero}
use Rattle.ttx_receiver.proofs.SlotDistances.{offset, not_before, offset_lt, lt_offset, le_le}
use Rattle.ttx_receiver.proofs.StarvedStays.{HoldsEach, each_from, each_to}

size : (s : Stream) (tau : ℤ) (n : ℕ) → length (sent_from s tau n) ≡ n
size s tau zero = refl
size s tau (suc n) = ap suc (size s (tau +ℤ pos 1) n)

slot_of : (s : Stream) (tau : ℤ) (n k : ℕ) → k < n → get_or (sent_from s tau n) k [] ≡ s (tau +ℤ pos k)
slot_of s tau zero k h = absurd (omega arith)
slot_of s tau (suc n) zero h = let e : tau ≡ tau +ℤ pos 0 = omega (arith, ints) in ap s e
slot_of s tau (suc n) (suc k) h =
    let e : (tau +ℤ pos 1) +ℤ pos k ≡ tau +ℤ pos (suc k) = omega (arith, ints) in
    slot_of s (tau +ℤ pos 1) n k (omega arith) ∙ ap s e

-- bytes with odd parity made from characters hold these characters
good : LawsBelow → (chars text : List ℕ) (n : ℕ) → n ≤ length chars → ((c : ℕ) → get_or chars c 0 < 128) → take n text
    ≡ map odd_byte chars → GoodText chars n text
good laws chars text n long low is c lt odd =
    ap (λ b. b % 128) (sym (get_or-take n text c 0 lt) ∙ ap (λ x. get_or x c 0) is ∙ get_or-map odd_byte chars c 0 0 (omega arith))
    ∙ (laws.codes (get_or chars c 0) (low c)).1

good_row : LawsBelow → (chars text : List ℕ) (n : ℕ) → n ≤ length chars → ((c : ℕ) → get_or chars c 0 < 128) → text
    ≡ map odd_byte chars → GoodText chars n text
good_row laws chars text n long low is c lt odd =
    ap (λ b. b % 128) (ap (λ x. get_or x c 0) is ∙ get_or-map odd_byte chars c 0 0 (omega arith)) ∙ (laws.codes (get_or chars c 0) (low c)).1

head_is : LawsBelow → (p : Page) → IsPage p → (pkt : Packet) → HeadIsRight p pkt → IsHeadOf p pkt
head_is laws p page (Header id control text) h = (h.0, good laws p.head text 24 (omega (arith, page.head_length)) page.head_codes h.1)
head_is laws p page (Row mag number text) h = absurd h
head_is laws p page (Links mag content) h = absurd h
head_is laws p page _ h = absurd h

row_is : LawsBelow → (p : Page) → IsPage p → (r : ℕ) → (1 ≤ r) × (r ≤ 24) → (pkt : Packet) → RowIsRight p r pkt → IsRowOf p r pkt
row_is laws p page r range (Row mag number text) h =
    let row = page.rows r range.0 range.1 in good_row laws (page_row p r) text 40 (omega (arith, row.length)) row.codes h
row_is laws p page r range (Header id control text) h = absurd h
row_is laws p page r range (Links mag content) h = absurd h
row_is laws p page r range _ h = absurd h

links_are : (p : Page) (slot : List ℕ) (pkt : Packet) → LinksAreRight p slot pkt → AreLinksOf p pkt
links_are p slot (Links mag content) h = h.1
links_are p slot (Header id control text) h = absurd h
links_are p slot (Row mag number text) h = absurd h
links_are p slot _ h = absurd h

lt_is_le : (a b : ℤ) → a <ℤ b → a ≤ℤ b
lt_is_le a b h = omega (arith, ints)

module _ (laws : LawsBelow) (s : Stream) (p : Page) (page : IsPage p) (sel : Selection) (fits : matches sel p.id ≡ true)
    (only : SendsOnly s p sel) (tau : ℤ) (n : ℕ) where
  abbrev got : List (List ℕ)
  got = sent_from s tau n

  abbrev place : ℕ → ℤ
  place t = tau +ℤ pos t

  at : (t : ℕ) → t < length got → packet_at got t ≡ packet_of (s (place t))
  at t lt = ap packet_of (slot_of s tau n t (omega (arith, size s tau n)))

  -- a header that the selection matches is the page's
  mine : (t : ℕ) → t < length got → heads_matched sel (packet_at got t) ≡ true → heads_page p.id (packet_of (s (place t))) ≡ true
  mine t lt h = only.selected (place t) (subst (λ k. heads_matched sel k ≡ true) (at t lt) h)

  latest : (t : ℕ) → t < length got → (o : IsOwnedAt sel (packet_at got) t) → IsLatestHeader s p.id.mag (place o.place) (place t)
  latest t lt o =
      let here = mine o.place (omega (arith, o.before)) o.matched in
      record {
        earlier = lt_offset tau o.place t o.before;
        is_header = page_heads p.id (packet_of (s (place o.place))) here;
        none_between = λ i low high.
            let k = offset tau i (le_le _ _ _ (not_before tau o.place) (lt_is_le _ _ low)) in
            let after' : o.place < k.0 = offset_lt tau o.place k.0 (subst (λ x. place o.place <ℤ x) k.1 low) in
            let before' : k.0 < t = offset_lt tau k.0 t (subst (λ x. x <ℤ place t) k.1 high) in
            let e : heads p.id.mag (packet_of (s (place k.0))) ≡ false =
            ap (heads p.id.mag) (sym (at k.0 (omega arith))) ∙ ap (λ m. heads m (packet_at got k.0)) (same_mag sel p.id fits)
            ∙ o.none k.0 after' before' in
            subst (λ x. heads p.id.mag (packet_of (s x)) ≡ false) (sym k.1) e;
      }

  given : ReceivesPage sel p (packet_at got) (length got)
  given = record {
    heads = λ t lt here.
        subst (IsHeadOf p) (sym (at t lt))
        (head_is laws p page (packet_of (s (place t))) (only.items TheHead tt (place t) (place t) (refl, mine t lt here)));
    rows = λ t lt o r need c.
        let own = mine o.place (omega (arith, o.before)) o.matched in
        let c' : carries p.id.mag (TheRow r) (packet_of (s (place t))) ≡ true =
        ap (carries p.id.mag (TheRow r)) (sym (at t lt)) ∙ ap (λ m. carries m (TheRow r) (packet_at got t)) (same_mag sel p.id fits) ∙ c in
        subst (IsRowOf p r) (sym (at t lt)) (row_is laws p page r (needed_row p r need) (packet_of (s (place t)))
        (only.items (TheRow r) need (place o.place) (place t) (latest t lt o, own, c')));
    links = λ t lt o c.
        let own = mine o.place (omega (arith, o.before)) o.matched in
        let c' : carries p.id.mag TheLinks (packet_of (s (place t))) ≡ true =
        ap (carries p.id.mag TheLinks) (sym (at t lt)) ∙ ap (λ m. carries m TheLinks (packet_at got t)) (same_mag sel p.id fits) ∙ c in
        subst (AreLinksOf p) (sym (at t lt)) (links_are p (s (place t)) (packet_of (s (place t)))
        (only.items TheLinks tt (place o.place) (place t) (latest t lt o, own, c')));
    no_row_0 = λ t lt. no_row_zero laws (selected_mag sel) (get_or got t []);
  }

  -- after t slots the receiver holds all that is needed of the page
  record IsShowing (t : ℕ) (m : Memory) : Type 0 where
    shape : Shape m
    tuned : IsTuned sel p (packet_at got) t m
    items : (item : Item) → needed p item ≡ true → HoldsEach p m item

  shows_next : (class : Class) (lines t : ℕ) → t < length got → (choice : Bool) (m : Memory) → IsShowing t m →
      IsShowing (suc t) (after class lines sel choice (older m) (packet_at got t))
  shows_next class lines t lt choice m is = record {
    shape = shape_after class lines sel choice (older m) (packet_at got t) shape;
    tuned = tuned_next class lines sel p (packet_at got) (length got) given t lt choice m is.tuned;
    items = λ item need. items_next item need (is.items item need);
  }
    where
      shape : Shape (older m)
      shape = record { count = is.shape.count; width = is.shape.width }

      items_next : (item : Item) → needed p item ≡ true → HoldsEach p m item →
          HoldsEach p (after class lines sel choice (older m) (packet_at got t)) item
      items_next TheHead need was = λ c col. keep_head class lines sel p c col choice (older m) (packet_at got t) shape
          (given.heads t lt) (given.no_row_0 t lt) (was c col)
      items_next (TheRow r) need was =
          let range = needed_row p r need in
          λ c col. keep_row class lines sel p page.no_erase r c range.0 (omega (arith, range.1)) col choice (older m)
          (packet_at got t) shape is.tuned.settled (given.heads t lt)
          (λ st carry. given.rows t lt (is.tuned.owned st) r need carry) (was c col)
      items_next TheLinks need was =
          keep_links class lines sel p page.no_erase choice (older m) (packet_at got t) is.tuned.settled (given.heads t lt)
          (λ st carry. given.links t lt (is.tuned.owned st) carry) was

  begins : (former : Memory) → IsMemory former → former.storing ≡ false → former.fresh ≡ false → Shows p former → IsShowing 0 former
  begins former known off settled shows = record {
    shape = record { count = known.row_count; width = λ r lt. (known.rows r lt).length };
    tuned = record { settled = settled; control = shows.control; owned = λ st. absurd (both_ways _ off st) };
    items = λ item need. each_from p former item (shows.items item need);
  }

  runs : (class : Class) (lines : ℕ) (former m : Memory) → Run class lines sel former got m → IsShowing 0 former → IsShowing (length got) m
  runs class lines former m run first =
      let end : 0 + length got ≡ length got = omega arith in
      subst (λ t. IsShowing t m) end (run_keeps class lines sel IsShowing got 0
      (λ k lt choice x i.
      let e : k ≡ 0 + k = omega arith in
      subst (λ t. IsShowing (suc t) (after class lines sel choice (older x) (packet_at got k))) e
      (shows_next class lines k lt choice x (subst (λ t. IsShowing t x) (sym e) i)))
      former m run first)

pub shown_stays_shown : LawsBelow → ShownStaysShown
shown_stays_shown laws s p sel class lines n tau page fits only former m known off settled shows run =
    let last = runs laws s p page sel fits only tau n class lines former m run
    (begins laws s p page sel fits only tau n former known off settled shows) in record {
      control = last.tuned.control;
      items = λ item need. each_to p page m last.shape item need (last.items item need);
    }
