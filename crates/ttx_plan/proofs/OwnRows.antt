-- Each row and X/27/0 of a planned cycle is that of the page whose header it is under.
use Rattle.std.proofs.Common.{◌≡◌, ℕ, true, List, [], map, get_or, Option, Some, refl, sym, ap, ◌∙◌}
use Rattle.std.proofs.lemmas.Bool.{eq-eqb, and_from}
use Rattle.ttx_code.specs.Words.{odd_byte}
use Rattle.ttx_links.specs.Laws.{WrittenLinksAreRead}
use Rattle.ttx_links.specs.Sets.{LinkSet, links_at, is_exact}
use Rattle.ttx_packet.specs.Slots.{IsLinks}
use Rattle.ttx_page.specs.declared.item.Item.TheVariants.{Row as TheRow, Links as TheLinks}
use Rattle.ttx_page.specs.Packets as P
use Rattle.ttx_page.specs.Packets.{packet_of}
use Rattle.ttx_page.specs.PageLinks.{HasLinks}
use Rattle.ttx_page.specs.Pages.{Page, IsPage, page_row}
use Rattle.ttx_page.specs.Streams as S
use Rattle.ttx_plan.specs.Acceptance.{PlannedLinksAreOwn}
use Rattle.ttx_plan.specs.Contents.{page_links_bytes, rest_of}
use Rattle.ttx_plan.specs.Laws.{PlannedRowsAreOwn}
use Rattle.ttx_plan.proofs.ListElements.{all_has}
use Rattle.ttx_plan.proofs.PageLinks.{are_links}
use Rattle.ttx_plan.proofs.PageRests.{rest_all}
use Rattle.ttx_plan.proofs.PlannedSlots.{laid_out}
use Rattle.ttx_plan.proofs.ReadPackets.{LawsBelow, packet_from, row_is, links_read}
use Rattle.ttx_plan.proofs.UnderHeaders.{under}

-- a packet that is read as a row is that of the page
abbrev SaysRow : Page → List ℕ → Type 0
SaysRow p bytes = (mag number : ℕ) (text : List ℕ) → packet_of bytes ≡ P.Row mag number text → text ≡ map odd_byte (page_row p number)

row_says : (p : Page) (m r mag number : ℕ) (own text : List ℕ) → own ≡ map odd_byte (page_row p r) → P.Row m r own ≡ P.Row mag number text →
    text ≡ map odd_byte (page_row p number)
row_says p m r mag number own text is e =
    let a : number ≡ r = cc in
    let b : text ≡ own = cc in
    b ∙ is ∙ ap (λ x. map odd_byte (page_row p x)) (sym a)

pub planned_rows_are_own : LawsBelow → PlannedRowsAreOwn
planned_rows_are_own laws places late class service cycle is said carries n lt mag number text e =
    let u = under laws places late class service cycle (laid_out laws places late class service cycle is said carries) n lt mag (TheRow number)
    (ap (S.carries mag (TheRow number)) e ∙ and_from _ _ (eq-eqb mag mag refl) (eq-eqb number number refl)) in
    let p = u.authored.page in
    let says = rest_all (SaysRow p) class p
    (λ r from to m x t f. row_says p p.id.mag r m x _ t refl (sym (row_is laws p u.kept.page r from to) ∙ f))
    (λ m x t f. let g : P.Links p.id.mag _ ≡ P.Row m x t = sym (links_read laws p u.kept.page) ∙ f in cc) in
    record {
      index = u.index;
      authored = u.authored;
      listed = u.listed;
      mag_is = u.mag_is;
      text_is = all_has (SaysRow p) (rest_of class p) (get_or cycle n []) says u.item mag number text e;
      header = u.header;
      later = u.later;
      is_header = u.is_header;
      none_between = u.none_between;
    }

pub links_are : WrittenLinksAreRead → (p : Page) → IsPage p → HasLinks p →
    (packet_of (page_links_bytes p) ≡ P.Links p.id.mag (Some p.links)) × (is_exact (page_links_bytes p) ≡ true)
links_are written p is l =
    let w = written p.id.mag (links_at p.links.six p.links.show24 p.crc) is.id.mag_from is.id.mag_to
    (record { six = l.six; crc = l.crc }) (are_links p.links.six l.targets) in
    (packet_from (page_links_bytes p) (IsLinks p.id.mag) w.kind ∙ ap (λ x. P.Links p.id.mag x) w.set, w.exact)

-- a packet that is read as X/27/0 has the page's links
abbrev SaysLinks : Page → List ℕ → Type 0
SaysLinks p bytes = (mag : ℕ) (content : Option LinkSet) → packet_of bytes ≡ P.Links mag content → (content ≡ Some p.links) × (is_exact bytes ≡ true)

pub planned_links_are_own : LawsBelow → WrittenLinksAreRead → PlannedLinksAreOwn
planned_links_are_own laws written late class service cycle c n lt mag content e =
    let u = under laws c.places late class service cycle (laid_out laws c.places late class service cycle c.service_is c.said c.carries) n lt mag
    TheLinks (ap (S.carries mag TheLinks) e ∙ eq-eqb mag mag refl) in
    let p = u.authored.page in
    let s = links_are written p u.kept.page (c.linked u.index u.authored u.listed) in
    let says = rest_all (SaysLinks p) class p
    (λ r from to m x f. let g : P.Row p.id.mag r _ ≡ P.Links m x = sym (row_is laws p u.kept.page r from to) ∙ f in cc)
    (λ m x f. let g : P.Links p.id.mag (Some p.links) ≡ P.Links m x = sym s.0 ∙ f in let h : x ≡ Some p.links = cc in (h, s.1)) in
    let own = all_has (SaysLinks p) (rest_of class p) (get_or cycle n []) says u.item mag content e in
    record {
      index = u.index;
      authored = u.authored;
      listed = u.listed;
      mag_is = u.mag_is;
      content_is = own.0;
      exact = own.1;
      header = u.header;
      later = u.later;
      is_header = u.is_header;
      none_between = u.none_between;
    }
