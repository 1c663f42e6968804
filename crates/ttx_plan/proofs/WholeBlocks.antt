-- Under each header of a page of a planned cycle comes each item that is sent of it, and so each of them is transmitted.
use Rattle.std.proofs.Common.{◌≡◌, ℕ, ◌-◌, ◌<◌, ◌≤◌, ℤ, Bool, true, not, cond, eqb, leb, List, length, Some, refl, sym, ap, ◌∙◌, subst}
use Rattle.std.proofs.Common.{inl, inr, arith}
use Rattle.std.specs.Prelude.{slice_get}
use Rattle.std.proofs.lemmas.Bool.{eq-eqb, leb-true, and_parts, and_from}
use Rattle.ttx_header.specs.Control.{c10}
use Rattle.ttx_links.specs.Laws.{WrittenLinksAreRead}
use Rattle.ttx_page.specs.declared.class.Class.{Class}
use Rattle.ttx_page.specs.declared.class.Class.TheVariants.{Any, Clearing}
use Rattle.ttx_page.specs.declared.item.Item.{Item}
use Rattle.ttx_page.specs.declared.item.Item.TheVariants.{Head as TheHead, Row as TheRow, Links as TheLinks}
use Rattle.ttx_page.specs.Packets.{packet_of}
use Rattle.ttx_page.specs.PageLinks.{HasLinks}
use Rattle.ttx_page.specs.Pages.{Page, needed, is_hidden, page_row}
use Rattle.ttx_page.specs.Streams.{repeated, turned, heads_page, carries, IsOwned, IsSure}
use Rattle.ttx_source.specs.Services.{Authored, ServiceFields, IsAuthored}
use Rattle.ttx_plan.specs.Acceptance.{IsPlanned, IsTransmitted, PlannedItemsAreSent}
use Rattle.ttx_plan.specs.Contents.{page_row_bytes, page_links_bytes, is_sent_to, rest_of}
use Rattle.ttx_plan.specs.Laws.{PlannedIsSure}
use Rattle.ttx_plan.specs.WholeBlocks.{PlannedBlocksAreWhole}
use Rattle.ttx_plan.proofs.ListElements.{Has}
use Rattle.ttx_plan.proofs.OwnRows.{links_are}
use Rattle.ttx_plan.proofs.PageRests.{row_in_rest, links_in_rest}
use Rattle.ttx_plan.proofs.PlannedSlots.{IsPlannedLayout, laid_out, slots_led}
use Rattle.ttx_plan.proofs.QueueBlocks.{HeadsOwn}
use Rattle.ttx_plan.proofs.ReadPackets.{LawsBelow, header_is, filling_fields, row_is}
use Rattle.ttx_plan.proofs.RepeatedHeaders.{IsAfter, its_slot, after, has_header}
use Rattle.ttx_plan.proofs.ServicePages.{authored_is, page_there}
use Rattle.ttx_plan.proofs.SlotsAfterHeaders.{tail_at}
use Rattle.ttx_plan.proofs.SteadyPages.{same_is, one_id, one_page}
use Rattle.ttx_plan.proofs.UnderHeaders.{page_head}

-- items that are sent to a class are needed, and rows have their numbers
sent_needed : (class : Class) (p : Page) (item : Item) → is_sent_to class p item ≡ true → needed p item ≡ true
sent_needed Any p item e = e
sent_needed Clearing p item e = (and_parts _ _ e).0

row_numbers : (p : Page) (r : ℕ) → needed p (TheRow r) ≡ true → (1 ≤ r) × (r ≤ 24)
row_numbers p r e =
    let two = and_parts (leb 1 r) (leb r 24) (and_parts _ (not (c10 p.control)) (and_parts _ (cond (eqb r 24) p.links.show24
    (not (is_hidden (page_row p) r))) e).0).0 in
    (leb-true 1 r two.0, leb-true r 24 two.1)

module _ (laws : LawsBelow) (written : WrittenLinksAreRead) (late : Bool) (class : Class) (service : ServiceFields) (cycle : List (List ℕ))
    (c : IsPlanned late class service cycle) (index : ℕ) (own : Authored) (listed : slice_get service.pages index ≡ Some own) (h : ℤ)
    (is : heads_page own.page.id (packet_of (repeated cycle h)) ≡ true) where
  l : IsPlannedLayout c.places late class service cycle
  l = laid_out laws c.places late class service cycle c.service_is c.said c.carries

  a : IsAuthored service.serial own
  a = authored_is service.serial service.pages c.service_is.pages index own listed

  brought : (bytes : List ℕ) → Has bytes (rest_of class own.page) →
      IsAfter laws c.places late class service cycle l c.some own a h is (λ p. p.bytes ≡ bytes)
  brought bytes has =
      let queue = own.page.id.mag - 1 in
      let small : own.page.id.mag - 1 < 8 = omega (arith, a.page.id.mag_from, a.page.id.mag_to) in
      let s = its_slot laws c.places late class service cycle l c.some own a h is in
      let bytes_are : heads_page own.page.id (packet_of s.0.bytes) ≡ true = ap (λ x. heads_page own.page.id (packet_of x)) (sym s.1.same) ∙ is in
      elim (tail_at queue (HeadsOwn service.pages service.serial class queue) l.slots (turned (length cycle) h) s.0
      (slots_led _ _ _ _ _ cycle l queue small).1 s.1.at s.1.early)
      as (λ _. IsAfter laws c.places late class service cycle l c.some own a h is (λ p. p.bytes ≡ bytes)) [
        | inl filling ↦ absurd (a.page.page (ap (λ x. x.page) (same_is own.page.id _
            (ap (heads_page own.page.id) (sym (ap (λ p. packet_of p.bytes) filling.0 ∙ header_is laws _ (filling_fields service.serial queue small)))
            ∙ bytes_are))))
        | inr b ↦
            let o = b.of_page in
            let head = ap (λ p. heads_page o.authored.page.id (packet_of p.bytes)) b.header_is
            ∙ ap (λ x. heads_page o.authored.page.id (packet_of x)) o.header_is ∙ page_head laws service.serial o.authored o.kept in
            let same : own ≡ o.authored = one_page service.pages c.service_is.distinct index o.index own o.authored listed o.listed
            (one_id own.page.id o.authored.page.id (packet_of s.0.bytes) bytes_are head) in
            after laws c.places late class service cycle l c.some own a h is (λ p. p.bytes ≡ bytes)
            (b.brings bytes (subst (Has bytes) (ap (λ x. rest_of class x.page) same ∙ sym o.rest_is) has))
      ]

  pub comes_under : HasLinks own.page → (item : Item) → is_sent_to class own.page item ≡ true →
      (j : ℤ) × IsOwned (repeated cycle) own.page.id item h j
  comes_under linked TheHead sent = (h, (refl, is))
  comes_under linked (TheRow r) sent =
      let n = row_numbers own.page r (sent_needed class own.page (TheRow r) sent) in
      let x = brought (page_row_bytes own.page r) (row_in_rest class own.page r n.0 n.1 sent) in (
        x.slot,
        (
          x.latest,
          is,
          ap (λ y. carries own.page.id.mag (TheRow r) (packet_of y)) (x.same ∙ x.is_it)
              ∙ ap (carries own.page.id.mag (TheRow r)) (row_is laws own.page a.page r n.0 n.1)
              ∙ and_from _ _ (eq-eqb own.page.id.mag own.page.id.mag refl) (eq-eqb r r refl),
        ),
      )
  comes_under linked TheLinks sent =
      let x = brought (page_links_bytes own.page) (links_in_rest class own.page sent) in (
        x.slot,
        (
          x.latest,
          is,
          ap (λ y. carries own.page.id.mag TheLinks (packet_of y)) (x.same ∙ x.is_it)
              ∙ ap (carries own.page.id.mag TheLinks) (links_are written own.page a.page linked).0
              ∙ eq-eqb own.page.id.mag own.page.id.mag refl,
        ),
      )

pub planned_blocks_are_whole : LawsBelow → WrittenLinksAreRead → PlannedIsSure → PlannedBlocksAreWhole
planned_blocks_are_whole laws written sure late class service cycle c n p e =
    let there = page_there service.pages n p e in
    subst (λ q. (h : ℤ) → heads_page q.id (packet_of (repeated cycle h)) ≡ true → (item : Item) → is_sent_to class q item ≡ true →
    (j : ℤ) × IsOwned (repeated cycle) q.id item h j × IsSure (repeated cycle) service.lines q.id.mag item h j) there.2
    (λ h is item sent.
    let j = comes_under laws written late class service cycle c n there.0 there.1 h is (c.linked n there.0 there.1) item sent in
    (j.0, j.1, sure c.places late class service cycle c.service_is c.said c.carries c.some there.0.page.id item h j.0 j.1))

pub planned_items_are_sent : LawsBelow → WrittenLinksAreRead → PlannedItemsAreSent
planned_items_are_sent laws written late class service cycle c n p e =
    let there = page_there service.pages n p e in
    let header = has_header laws late class service cycle c n there.0 there.1 in
    subst (IsTransmitted class cycle) there.2 (record {
      header = header;
      items = λ item sent.
          let j = comes_under laws written late class service cycle c n there.0 there.1 header.slot header.is_header (c.linked n there.0 there.1)
          item sent in
          (j.0, record { owner = header.slot; owned = j.1 });
    })
