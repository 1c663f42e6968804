-- A receiver tuned to a stream gets its packets.
use Rattle.std.proofs.Common.{◌≡◌, ℕ, ◌<◌, ℤ, pos, ◌+ℤ◌, ◌<ℤ◌, ◌≤ℤ◌, true, false, ◌&&◌, ◌==◌, List, [], length, get_or, refl, sym, ap, ◌∙◌, subst}
use Rattle.std.proofs.Common.{inl, inr, arith, eqb-true, eq-eqb}
use Rattle.std.proofs.lemmas.Bool.{and_from, cases_Bool, and_parts}
use Rattle.std.proofs.lemmas.Int.{ints}
use Rattle.ttx_header.specs.Ids.{Id, same_id}
use Rattle.ttx_page.specs.Packets.{Packet, Header, Row, Links, packet_of}
use Rattle.ttx_page.specs.Pages.{Page, IsPage, selected_mag, matches}
use Rattle.ttx_page.specs.declared.selection.Selection.{Selection}
use Rattle.ttx_page.specs.declared.selection.Selection.TheVariants.{Exact, AnySub}
use Rattle.ttx_page.specs.declared.item.Item.TheVariants.{Head as TheHead, Row as TheRow, Links as TheLinks}
use Rattle.ttx_page.specs.Streams.{Stream, heads, heads_page, heads_matched, carries, IsLatestHeader}
use Rattle.ttx_page.specs.Receptions.{Received}
use Rattle.ttx_page.proofs.Owners.{page_heads}
use Rattle.ttx_receiver.specs.Laws.{IsSteadyFrom}
use Rattle.ttx_receiver.proofs.Runs.{packet_at, IsOwnedAt, ReceivesPage}
use Rattle.ttx_receiver.proofs.TakenItems.{needed_row}
use Rattle.ttx_receiver.proofs.ReceivedPackets.{LawsBelow, of_slot, IsOfSlot, same_heads, same_matched, same_links, row_was_sent, received_head}
use Rattle.ttx_receiver.proofs.ReceivedPackets.{received_row, received_links}
use Rattle.ttx_receiver.proofs.SlotDistances.{offset, not_before, offset_lt, lt_offset, le_le}

-- the selection matches the page's headers
matches_same : (sel : Selection) (id other : Id) → matches sel id ≡ true → same_id id other ≡ true → matches sel other ≡ true
matches_same (Exact own) id other h k =
    let a = eqb-true _ _ ((and_parts _ _ (and_parts _ _ h).0).0) ∙ eqb-true _ _ ((and_parts _ _ (and_parts _ _ k).0).0) in
    let b = eqb-true _ _ ((and_parts _ _ (and_parts _ _ h).0).1) ∙ eqb-true _ _ ((and_parts _ _ (and_parts _ _ k).0).1) in
    let c = eqb-true _ _ ((and_parts _ _ h).1) ∙ eqb-true _ _ ((and_parts _ _ k).1) in
    and_from _ _ (and_from _ _ (eq-eqb own.mag other.mag a) (eq-eqb own.page other.page b)) (eq-eqb own.sub other.sub c)
matches_same (AnySub mag page) id other h k =
    let a = eqb-true _ _ ((and_parts _ _ h).0) ∙ eqb-true _ _ ((and_parts _ _ (and_parts _ _ k).0).0) in
    let b = eqb-true _ _ ((and_parts _ _ h).1) ∙ eqb-true _ _ ((and_parts _ _ (and_parts _ _ k).0).1) in
    and_from _ _ (eq-eqb mag other.mag a) (eq-eqb page other.page b)

pub page_matched : (sel : Selection) (id : Id) (pkt : Packet) → matches sel id ≡ true → heads_page id pkt ≡ true → heads_matched sel pkt ≡ true
page_matched sel id (Header other control text) m h = matches_same sel id other m h
page_matched sel id (Row a n t) m h = h
page_matched sel id (Links a content) m h = h
page_matched sel id _ m h = h

pub same_mag : (sel : Selection) (id : Id) → matches sel id ≡ true → id.mag ≡ selected_mag sel
same_mag (Exact own) id h = sym (eqb-true own.mag id.mag ((and_parts _ _ (and_parts _ _ h).0).0))
same_mag (AnySub mag page) id h = sym (eqb-true mag id.mag ((and_parts _ _ h).0))

pub no_row_zero : LawsBelow → (mag : ℕ) (slot : List ℕ) → carries mag (TheRow 0) (packet_of slot) ≡ false
no_row_zero laws mag slot = go (packet_of slot) (of_slot laws slot)
  where
    go : (pkt : Packet) → IsOfSlot slot pkt → carries mag (TheRow 0) pkt ≡ false
    go (Row m number text) o = elim (cases_Bool ((m == mag) && (number == 0))) as (λ _. ((m == mag) && (number == 0)) ≡ false)
        [ inl e ↦ let z : number ≡ 0 = eqb-true number 0 ((and_parts _ _ e).1) in absurd (omega (arith, o.1)) | inr e ↦ e ]
    go (Header id control text) o = refl
    go (Links m content) o = refl
    go _ o = refl

module _ (laws : LawsBelow) (s : Stream) (p : Page) (page : IsPage p) (sel : Selection) (fits : matches sel p.id ≡ true) (begin : ℤ)
    (steady : IsSteadyFrom s p sel begin)
    (repeat : ℕ) (received : List (List ℕ)) (permitted : Received s p.id repeat begin received) where
  abbrev place : ℕ → ℤ
  place t = begin +ℤ pos t

  abbrev sent : ℕ → List ℕ
  sent t = s (place t)

  abbrev got : ℕ → List ℕ
  got t = get_or received t []

  heads_sent : (t : ℕ) → t < length received → (mag : ℕ) → heads mag (packet_of (got t)) ≡ heads mag (packet_of (sent t))
  heads_sent t lt mag = same_heads laws (sent t) (got t) (steady.slots _ (not_before begin t)) (steady.clean _ (not_before begin t))
      (permitted.each t lt) mag

  -- a header that is received as matching is the page's
  page_sent : (t : ℕ) → t < length received → heads_matched sel (packet_at received t) ≡ true → heads_page p.id (packet_of (sent t)) ≡ true
  page_sent t lt here =
      steady.selected _ (not_before begin t)
      (sym (same_matched laws (sent t) (got t) (steady.slots _ (not_before begin t)) (steady.clean _ (not_before begin t))
      (permitted.each t lt) sel) ∙ here)

  -- the owner of what is received is the owner of what is sent
  latest_sent : (t : ℕ) → t < length received → (o : IsOwnedAt sel (packet_at received) t) → IsLatestHeader s p.id.mag (place o.place) (place t)
  latest_sent t lt o =
      let here = page_sent o.place (omega (arith, o.before)) o.matched in
      record {
        earlier = lt_offset begin o.place t o.before;
        is_header = page_heads p.id (packet_of (sent o.place)) here;
        none_between = λ i low high.
            let k = offset begin i (le_le _ _ _ (not_before begin o.place) (lt_is_le _ _ low)) in
            let after' : o.place < k.0 = offset_lt begin o.place k.0 (subst (λ x. place o.place <ℤ x) k.1 low) in
            let before' : k.0 < t = offset_lt begin k.0 t (subst (λ x. x <ℤ place t) k.1 high) in
            let e : heads p.id.mag (packet_of (sent k.0)) ≡ false =
            sym (heads_sent k.0 (omega arith) p.id.mag) ∙ ap (λ m. heads m (packet_at received k.0)) (same_mag sel p.id fits)
            ∙ o.none k.0 after' before' in
            subst (λ x. heads p.id.mag (packet_of (s x)) ≡ false) (sym k.1) e;
      }
    where
      lt_is_le : (a b : ℤ) → a <ℤ b → a ≤ℤ b
      lt_is_le a b h = omega (arith, ints)

  pub receives_page : ReceivesPage sel p (packet_at received) (length received)
  receives_page = record {
    heads = λ t lt here.
        let mine = page_sent t lt here in
        received_head laws (sent t) (got t) (steady.slots _ (not_before begin t)) (steady.clean _ (not_before begin t)) (permitted.each t lt) p page
        (steady.items TheHead tt (place t) (place t) (not_before begin t) (refl, mine));
    rows = λ t lt o r need c.
        let range = needed_row p r need in
        let mine = page_sent o.place (omega (arith, o.before)) o.matched in
        let c' : carries p.id.mag (TheRow r) (packet_at received t) ≡ true =
        ap (λ m. carries m (TheRow r) (packet_at received t)) (same_mag sel p.id fits) ∙ c in
        let c'' = row_was_sent laws (sent t) (got t) (steady.slots _ (not_before begin t)) (steady.clean _ (not_before begin t))
        (permitted.each t lt) p.id.mag r c' in
        received_row laws (sent t) (got t) (steady.slots _ (not_before begin t)) (steady.clean _ (not_before begin t))
        (permitted.each t lt) p page r range.0 range.1
        (steady.items (TheRow r) need (place o.place) (place t) (not_before begin o.place) (latest_sent t lt o, mine, c''));
    links = λ t lt o c.
        let mine = page_sent o.place (omega (arith, o.before)) o.matched in
        let c' : carries p.id.mag TheLinks (packet_at received t) ≡ true =
        ap (λ m. carries m TheLinks (packet_at received t)) (same_mag sel p.id fits) ∙ c in
        let c'' = sym (same_links laws (sent t) (got t) (steady.slots _ (not_before begin t)) (steady.clean _ (not_before begin t))
        (permitted.each t lt) p.id.mag) ∙ c' in
        received_links laws (sent t) (got t) (steady.slots _ (not_before begin t)) (steady.clean _ (not_before begin t)) (permitted.each t lt) p
        (steady.items TheLinks tt (place o.place) (place t) (not_before begin o.place) (latest_sent t lt o, mine, c''));
    no_row_0 = λ t lt. no_row_zero laws (selected_mag sel) (got t);
  }
