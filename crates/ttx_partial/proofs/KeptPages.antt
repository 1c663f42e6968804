-- A page that the cycle without a number sends unchanged is sent unchanged by the cycle itself: `kept`.
use Rattle.std.proofs.Common.{◌≡◌, inl, inr, ℕ, ℤ, Bool, true, false, List, ap, sym, ◌∙◌, subst, arith}
use Rattle.ttx_header.specs.Ids.{Id}
use Rattle.ttx_page.specs.Packets.{packet_of}
use Rattle.ttx_page.specs.Pages.{Page}
use Rattle.ttx_page.specs.declared.selection.Selection.TheVariants.{AnySub}
use Rattle.ttx_page.specs.declared.item.Item.{Item}
use Rattle.ttx_page.specs.declared.item.Item.TheVariants.{Row as TheRow, Links as TheLinks}
use Rattle.ttx_page.specs.Streams.{Stream, heads, heads_page, heads_matched, carries, IsLatestHeader, IsTransmission}
use Rattle.ttx_page.specs.Steady.{Steady, OtherSubpageAt, ErasedAt, HeadDiffersAt, RowDiffersAt, LinksDifferAt, erases_page, IsLikeHead, RowIsRight, LinksAreRight}
use Rattle.ttx_partial.specs.Asides.{same_number}
use Rattle.ttx_partial.proofs.SetAside.{Answers, clash, clash_number, apart_of, carries_none, same_heads, no_page}

-- each slot of t is that of s, or a time-filling header in the place of one of the number
abbrev pub Replaces : Id → Stream → Stream → Type 0
Replaces id s t = (j : ℤ) → Answers id (s j) (t j)

not_both : (b : Bool) → b ≡ true → b ≡ false → ⊥
not_both b e f = grind arith

-- a header of the page stays
own_by : (id page : Id) (s t : List ℕ) → same_number id page ≡ false → Answers id s t → heads_page page (packet_of s) ≡ true → t ≡ s
own_by id page s t apart (inl kept) h = kept.same
own_by id page s t apart (inr replaced) h = absurd (not_both (same_number id page) (clash id page (packet_of s) replaced.numbered h) apart)

number_by : (id page : Id) (s t : List ℕ) → same_number id page ≡ false → Answers id s t → heads_matched (AnySub page.mag page.page) (packet_of s) ≡ true → t ≡ s
number_by id page s t apart (inl kept) h = kept.same
number_by id page s t apart (inr replaced) h = absurd (not_both (same_number id page) (clash_number id page (packet_of s) replaced.numbered h) apart)

-- so does what carries an item
carried_by : (id : Id) (mag : ℕ) (item : Item) (s t : List ℕ) → Answers id s t → carries mag item (packet_of s) ≡ true → t ≡ s
carried_by id mag item s t (inl kept) c = kept.same
carried_by id mag item s t (inr replaced) c = absurd (carries_none id mag item (packet_of s) replaced.numbered c)

heads_by : (id : Id) (mag : ℕ) (s t : List ℕ) → Answers id s t → heads mag (packet_of t) ≡ heads mag (packet_of s)
heads_by id mag s t (inl kept) = ap (λ x. heads mag (packet_of x)) kept.same
heads_by id mag s t (inr replaced) = same_heads id mag (packet_of s) (packet_of t) replaced.numbered replaced.filling

-- the header of the page that t has is one of s
header_by : (id page : Id) (s t : List ℕ) → (page.page ≡ 255 → ⊥) → Answers id s t → heads_page page (packet_of t) ≡ true →
    (heads_page page (packet_of s) ≡ true) × (same_number id page ≡ false)
header_by id page s t not_ff (inl kept) h =
    let e = subst (λ x. heads_page page (packet_of x) ≡ true) kept.same h in (e, apart_of id page (packet_of s) kept.other e)
header_by id page s t not_ff (inr replaced) h = absurd (no_page id page (packet_of t) not_ff replaced.filling h)

latest : (id : Id) (mag : ℕ) (s t : Stream) → Replaces id s t → (h j : ℤ) → IsLatestHeader s mag h j → IsLatestHeader t mag h j
latest id mag s t all h j is = record {
  earlier = is.earlier;
  is_header = heads_by id mag (s h) (t h) (all h) ∙ is.is_header;
  none_between = λ i a b. heads_by id mag (s i) (t i) (all i) ∙ is.none_between i a b;
}

headed : (id page : Id) (s t : Stream) → Replaces id s t → same_number id page ≡ false → (j : ℤ) → heads_page page (packet_of (s j)) ≡ true →
    heads_page page (packet_of (t j)) ≡ true
headed id page s t all apart j h = subst (λ x. heads_page page (packet_of x) ≡ true) (sym (own_by id page (s j) (t j) apart (all j) h)) h

carried : (id : Id) (mag : ℕ) (item : Item) (s t : Stream) → Replaces id s t → (j : ℤ) → carries mag item (packet_of (s j)) ≡ true →
    carries mag item (packet_of (t j)) ≡ true
carried id mag item s t all j c = subst (λ x. carries mag item (packet_of x) ≡ true) (sym (carried_by id mag item (s j) (t j) (all j) c)) c

row_sent : (id page : Id) (r : ℕ) (s t : Stream) → Replaces id s t → same_number id page ≡ false → (j : ℤ) → IsTransmission s page (TheRow r) j →
    IsTransmission t page (TheRow r) j
row_sent id page r s t all apart j is = record {
  owner = is.owner;
  owned = (
    latest id page.mag s t all is.owner j is.owned.0,
    headed id page s t all apart is.owner is.owned.1,
    carried id page.mag (TheRow r) s t all j is.owned.2,
  );
}

links_sent : (id page : Id) (s t : Stream) → Replaces id s t → same_number id page ≡ false → (j : ℤ) → IsTransmission s page TheLinks j →
    IsTransmission t page TheLinks j
links_sent id page s t all apart j is = record {
  owner = is.owner;
  owned = (
    latest id page.mag s t all is.owner j is.owned.0,
    headed id page s t all apart is.owner is.owned.1,
    carried id page.mag TheLinks s t all j is.owned.2,
  );
}

other_subpage : (id : Id) (pages : List Page) (p : Page) (s t : Stream) → Replaces id s t → same_number id p.id ≡ false → (j : ℤ) →
    OtherSubpageAt s pages p j → OtherSubpageAt t pages p j
other_subpage id pages p s t all apart j is =
    let same = sym (number_by id p.id (s j) (t j) apart (all j) is.number) in
    record {
      alone = is.alone;
      number = subst (λ x. heads_matched (AnySub p.id.mag p.id.page) (packet_of x) ≡ true) same is.number;
      other = subst (λ x. heads_page p.id (packet_of x) ≡ false) same is.other;
    }

erased : (id : Id) (p : Page) (s t : Stream) → Replaces id s t → same_number id p.id ≡ false → (j : ℤ) → ErasedAt s p j → ErasedAt t p j
erased id p s t all apart j is = record {
  header = headed id p.id s t all apart j is.header;
  erases = subst (λ x. erases_page (packet_of x) ≡ true) (sym (own_by id p.id (s j) (t j) apart (all j) is.header)) is.erases;
}

head_differs : (id : Id) (p : Page) (s t : Stream) → Replaces id s t → same_number id p.id ≡ false → (j : ℤ) → HeadDiffersAt s p j → HeadDiffersAt t p j
head_differs id p s t all apart j is = record {
  header = headed id p.id s t all apart j is.header;
  differs = subst (λ x. IsLikeHead p (packet_of x) → ⊥) (sym (own_by id p.id (s j) (t j) apart (all j) is.header)) is.differs;
}

row_differs : (id : Id) (p : Page) (s t : Stream) → Replaces id s t → same_number id p.id ≡ false → (j : ℤ) → RowDiffersAt s p j → RowDiffersAt t p j
row_differs id p s t all apart j is = record {
  row = is.row;
  needed = is.needed;
  sent = row_sent id p.id is.row s t all apart j is.sent;
  differs = subst (λ x. RowIsRight p is.row (packet_of x) → ⊥)
      (sym (carried_by id p.id.mag (TheRow is.row) (s j) (t j) (all j) is.sent.owned.2)) is.differs;
}

links_differ : (id : Id) (p : Page) (s t : Stream) → Replaces id s t → same_number id p.id ≡ false → (j : ℤ) → LinksDifferAt s p j → LinksDifferAt t p j
links_differ id p s t all apart j is = record {
  sent = links_sent id p.id s t all apart j is.sent;
  differs = subst (λ x. LinksAreRight p x (packet_of x) → ⊥) (sym (carried_by id p.id.mag TheLinks (s j) (t j) (all j) is.sent.owned.2)) is.differs;
}

pub kept : (id : Id) (pages : List Page) (p : Page) (s t : Stream) → Replaces id s t → (p.id.page ≡ 255 → ⊥) → Steady t pages p → Steady s pages p
kept id pages p s t all not_ff is =
    let slot = is.header.slot in
    let first = header_by id p.id (s slot) (t slot) not_ff (all slot) is.header.is_header in
    let apart = first.1 in
    record {
      header = record { slot = slot; is_header = first.0 };
      only_subpage = λ j a. is.only_subpage j (other_subpage id pages p s t all apart j a);
      not_erased = λ j a. is.not_erased j (erased id p s t all apart j a);
      head = λ j a. is.head j (head_differs id p s t all apart j a);
      rows = λ j a. is.rows j (row_differs id p s t all apart j a);
      links = λ j a. is.links j (links_differ id p s t all apart j a);
    }
