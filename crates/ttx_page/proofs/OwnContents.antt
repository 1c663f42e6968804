-- No reason is true if and only if the page's own contents are sent.
use Rattle.std.proofs.Common.{◌≡◌, ℕ, ◌/◌, ℤ, true, false, List, Some, map, take, refl, sym, ap, ◌∙◌, inl, inr, arith}
use Rattle.std.proofs.lemmas.Bool.{cases_eq, cases_Bool, both_ways}
use Rattle.std.proofs.lemmas.Bool.Decides.{nat_tests}
use Rattle.ttx_code.specs.Words.{odd_byte}
use Rattle.ttx_header.specs.Ids.{Id}
use Rattle.ttx_header.specs.Control.{c4}
use Rattle.ttx_links.specs.Sets.{LinkSet, is_exact}
use Rattle.ttx_page.specs.Packets.{Packet, Empty, Unreadable, Header, Row, Links, packet_of}
use Rattle.ttx_page.specs.Pages.{Page, IsPage, Item, TheHead, TheRow, TheLinks, page_row}
use Rattle.ttx_page.specs.Streams.{IsOwned, heads_page}
use Rattle.ttx_page.specs.Steady.{Steady, SendsItsOwn, IsChecked, IsTrueTo, IsLikeHead, HeadIsRight, RowIsRight, LinksAreRight, erases_page}
use Rattle.ttx_page.specs.Laws.{NoHeaderIsNone, SteadySendsItsOwn}
use Rattle.ttx_page.proofs.Decisions.{Decided, by_refuting, both, same_bool, same_option, same_list}

same_nat : (a b : ℕ) → Decided (a ≡ b)
same_nat a b = cases_eq a b

same_text : (a b : List ℕ) → Decided (a ≡ b)
same_text = same_list same_nat

same_page_id : (a b : Id) → Decided (a ≡ b)
same_page_id a b = elim (both (same_nat a.mag b.mag) (both (same_nat a.page b.page) (same_nat a.sub b.sub))) as (λ _. Decided (a ≡ b)) [
  | inl e ↦ let m = e.0 in let n = e.1.0 in let k = e.1.1 in inl (λ i. record { mag = m i; page = n i; sub = k i })
  | inr ne ↦ inr (λ e. ne (ap (λ x. x.mag) e, (ap (λ x. x.page) e, ap (λ x. x.sub) e)))
]

same_link_set : (a b : LinkSet) → Decided (a ≡ b)
same_link_set a b = elim (both (same_list (same_option same_page_id) a.six b.six) (same_bool a.show24 b.show24)) as (λ _. Decided (a ≡ b)) [
  | inl e ↦ let m = e.0 in let n = e.1 in inl (λ i. record { six = m i; show24 = n i })
  | inr ne ↦ inr (λ e. ne (ap (λ x. x.six) e, ap (λ x. x.show24) e))
]

-- two sets of control bits without C4 are equal if their other bits are
same_control : (a b : ℕ) → c4 a ≡ false → c4 b ≡ false → a / 2 ≡ b / 2 → a ≡ b
same_control a b h k e = grind (arith, nat_tests)

head_right : (p : Page) (packet : Packet) → IsPage p → heads_page p.id packet ≡ true → (erases_page packet ≡ true → ⊥) →
    ((IsLikeHead p packet → ⊥) → ⊥) → HeadIsRight p packet
head_right p (Header id control text) is h none like =
    let k = by_refuting (both (same_nat (control / 2) (p.control / 2)) (same_text (take 24 text) (map odd_byte p.head))) like in (
      same_control control p.control
          (elim (cases_Bool (c4 control)) as (λ _. c4 control ≡ false) [ inl e ↦ absurd (none e) | inr e ↦ e ]) is.no_erase k.0,
      k.1,
    )
head_right p Empty is h none like = cc
head_right p Unreadable is h none like = cc
head_right p (Row m number text) is h none like = cc
head_right p (Links m content) is h none like = cc
head_right p _ is h none like = cc

row_right : (p : Page) (r : ℕ) (packet : Packet) → ((RowIsRight p r packet → ⊥) → ⊥) → RowIsRight p r packet
row_right p r (Row m number text) f = by_refuting (same_text text (map odd_byte (page_row p r))) f
row_right p r Empty f = f (λ e. e)
row_right p r Unreadable f = f (λ e. e)
row_right p r (Header id control text) f = f (λ e. e)
row_right p r (Links m content) f = f (λ e. e)
row_right p r _ f = f (λ e. e)

links_right : (p : Page) (slot : List ℕ) (packet : Packet) → ((LinksAreRight p slot packet → ⊥) → ⊥) → LinksAreRight p slot packet
links_right p slot (Links m content) f = by_refuting (both (same_bool (is_exact slot) true) (same_option same_link_set content (Some p.links))) f
links_right p slot Empty f = f (λ e. e)
links_right p slot Unreadable f = f (λ e. e)
links_right p slot (Header id control text) f = f (λ e. e)
links_right p slot (Row m number text) f = f (λ e. e)
links_right p slot _ f = f (λ e. e)

right_keeps : (p : Page) (packet : Packet) → IsPage p → HeadIsRight p packet → erases_page packet ≡ true → ⊥
right_keeps p (Header id control text) is r e = both_ways _ is.no_erase (ap c4 (sym r.0) ∙ e)
right_keeps p Empty is r e = r
right_keeps p Unreadable is r e = r
right_keeps p (Row m number text) is r e = r
right_keeps p (Links m content) is r e = r
right_keeps p _ is r e = r

right_like : (p : Page) (packet : Packet) → HeadIsRight p packet → IsLikeHead p packet
right_like p (Header id control text) r = (ap (λ c. c / 2) r.0, r.1)
right_like p Empty r = r
right_like p Unreadable r = r
right_like p (Row m number text) r = r
right_like p (Links m content) r = r
right_like p _ r = r

pub no_header_is_none : NoHeaderIsNone
no_header_is_none s p = (
  (λ none h. both_ways _ (none h.slot) h.is_header),
  (λ none j. elim (cases_Bool (heads_page p.id (packet_of (s j)))) as (λ _. heads_page p.id (packet_of (s j)) ≡ false)
      [ inl e ↦ absurd (none (record { slot = j; is_header = e })) | inr e ↦ e ]),
)

pub steady_sends_its_own : SteadySendsItsOwn
steady_sends_its_own s pages p is = (own, steady)
  where
    own : Steady s pages p → SendsItsOwn s pages p
    own t = record {
      header = t.header;
      only_subpage = λ alone j number. elim (cases_Bool (heads_page p.id (packet_of (s j)))) as (λ _. heads_page p.id (packet_of (s j)) ≡ true)
          [ inl e ↦ e | inr e ↦ absurd (t.only_subpage j (record { alone = alone; number = number; other = e })) ];
      items = items;
    }
      where
        items : (item : Item) → IsChecked p item → (h j : ℤ) → IsOwned s p.id item h j → IsTrueTo p item (s j)
        items TheHead c h j o = head_right p (packet_of (s j)) is o.1 (λ e. t.not_erased j (record { header = o.1; erases = e }))
            (λ d. t.head j (record { header = o.1; differs = d }))
        items (TheRow r) c h j o = row_right p r (packet_of (s j))
            (λ d. t.rows j (record { row = r; needed = c; sent = record { owner = h; owned = o }; differs = d }))
        items TheLinks c h j o = links_right p (s j) (packet_of (s j))
            (λ d. t.links j (record { sent = record { owner = h; owned = o }; differs = d }))

    steady : SendsItsOwn s pages p → Steady s pages p
    steady o = record {
      header = o.header;
      only_subpage = λ j r. both_ways _ r.other (o.only_subpage r.alone j r.number);
      not_erased = λ j r. right_keeps p (packet_of (s j)) is (o.items TheHead tt j j (refl, r.header)) r.erases;
      head = λ j r. r.differs (right_like p (packet_of (s j)) (o.items TheHead tt j j (refl, r.header)));
      rows = λ j r. r.differs (o.items (TheRow r.row) r.needed r.sent.owner j r.sent.owned);
      links = λ j r. r.differs (o.items TheLinks tt r.sent.owner j r.sent.owned);
    }
