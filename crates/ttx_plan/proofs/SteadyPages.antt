-- Each page of a planned cycle is sent unchanged.
use Rattle.std.proofs.Common.{◌≡◌, ℕ, ◌<◌, ℤ, pos, ◌+ℤ◌, Bool, true, false, not, ◌&&◌, eqb, List, [], map, length, get_or, Some, refl, sym}
use Rattle.std.proofs.Common.{ap, ◌∙◌, subst, inl, inr, arith}
use Rattle.std.specs.Prelude.{slice_get}
use Rattle.std.specs.List.{AllPairs}
use Rattle.std.proofs.lemmas.Bool.{eq-eqb, eqb-true, and_parts, cases_lt, and_from}
use Rattle.std.proofs.lemmas.Option.{get_or_from_slice_get, slice_get_within}
use Rattle.ttx_code.specs.Words.{odd_byte}
use Rattle.ttx_header.specs.Ids.{Id, id_at, same_id, is_time_filling}
use Rattle.ttx_links.specs.Laws.{WrittenLinksAreRead}
use Rattle.ttx_page.specs.declared.class.Class.{Class}
use Rattle.ttx_page.specs.declared.item.Item.{Item}
use Rattle.ttx_page.specs.declared.item.Item.TheVariants.{Head as TheHead, Row as TheRow, Links as TheLinks}
use Rattle.ttx_page.specs.declared.selection.Selection.TheVariants.{AnySub}
use Rattle.ttx_page.specs.Laws.{SteadySendsItsOwn}
use Rattle.ttx_page.specs.Packets as P
use Rattle.ttx_page.specs.Packets.{Packet, packet_of}
use Rattle.ttx_page.specs.Pages.{Page, IsPage, IsAlone, is_other_subpage, page_row}
use Rattle.ttx_page.specs.Steady.{Steady, IsChecked, IsTrueTo, HeadIsRight, RowIsRight, LinksAreRight}
use Rattle.ttx_page.specs.Streams.{turned, repeated, heads, heads_page, heads_matched, carries, IsLatestHeader, IsOwned}
use Rattle.ttx_source.specs.Services.{Authored, ServiceFields, authored_ids, pages_of}
use Rattle.ttx_plan.specs.Acceptance.{IsPlanned, PlannedIsSteady}
use Rattle.ttx_plan.specs.Laws.{IsHeadOf}
use Rattle.ttx_plan.proofs.PlannedSlots.{get_map}
use Rattle.ttx_plan.proofs.OwnRows.{planned_rows_are_own, planned_links_are_own}
use Rattle.ttx_plan.proofs.ReadPackets.{LawsBelow}
use Rattle.ttx_plan.proofs.RepeatedHeaders.{one_latest, slot_back, latest_here, has_header}
use Rattle.ttx_plan.proofs.ServicePages.{authored_is, page_there}
use Rattle.ttx_plan.proofs.UnderHeaders.{planned_headers_are_own}
use Rattle.ttx_page.proofs.Owners.{page_heads}

-- ids

pub same_is : (a b : Id) → same_id a b ≡ true → a ≡ b
same_is a b e =
    let two = and_parts (eqb a.mag b.mag && eqb a.page b.page) (eqb a.sub b.sub) e in
    let one = and_parts (eqb a.mag b.mag) (eqb a.page b.page) two.0 in
    ap (λ m. id_at m a.page a.sub) (eqb-true a.mag b.mag one.0) ∙ ap (λ g. id_at b.mag g a.sub) (eqb-true a.page b.page one.1)
    ∙ ap (λ s. id_at b.mag b.page s) (eqb-true a.sub b.sub two.1)

apart : false ≡ true → ⊥
apart e = cc

-- one header has one id
pub one_id : (a b : Id) (x : Packet) → heads_page a x ≡ true → heads_page b x ≡ true → a ≡ b
one_id a b (P.Header id control text) e f = same_is a id e ∙ sym (same_is b id f)
one_id a b x e f = absurd (apart e)

-- a page of a service by its id
pub one_page : (pages : List Authored) → AllPairs (λ a b. a ≡ b → ⊥) (authored_ids pages) → (i j : ℕ) (a b : Authored) → slice_get pages i
    ≡ Some a → slice_get pages j ≡ Some b → a.page.id ≡ b.page.id → a ≡ b
one_page pages distinct i j a b e f same = elim (cases_lt i j) as (λ _. a ≡ b) [
  | inl lt ↦ absurd (distinct i j a.page.id lt (slice_get_within (authored_ids pages) j b.page.id (at j b f))
      (id_is i a e a.page.id ∙ same ∙ sym (id_is j b f a.page.id)))
  | inr ge ↦ elim (cases_lt j i) as (λ _. a ≡ b) [
    | inl lt ↦ absurd (distinct j i a.page.id lt (slice_get_within (authored_ids pages) i a.page.id (at i a e))
        (id_is j b f a.page.id ∙ sym same ∙ sym (id_is i a e a.page.id)))
    | inr le ↦
        let q : i ≡ j = omega arith in
        let g : Some a ≡ Some b = sym e ∙ ap (slice_get pages) q ∙ f in
        cc
  ]
]
  where
    at : (k : ℕ) (x : Authored) → slice_get pages k ≡ Some x → slice_get (authored_ids pages) k ≡ Some x.page.id
    at k x h = get_map (λ p. p.page.id) pages k x h

    id_is : (k : ℕ) (x : Authored) → slice_get pages k ≡ Some x → (d : Id) → get_or (authored_ids pages) k d ≡ x.page.id
    id_is k x h d = get_or_from_slice_get (authored_ids pages) k x.page.id d (get_map (λ p. p.page.id) pages k x h)

not_filling : (p : Page) → IsPage p → is_time_filling p.id ≡ true → ⊥
not_filling p is e = is.page (eqb-true p.id.page 255 (and_parts (eqb p.id.page 255) (eqb p.id.sub 16255) e).0)

module _ (laws : LawsBelow) (written : WrittenLinksAreRead) (late : Bool) (class : Class) (service : ServiceFields)
    (cycle : List (List ℕ)) (c : IsPlanned late class service cycle)
    (n : ℕ) (own : Authored) (listed : slice_get service.pages n ≡ Some own) where
  is_page : IsPage own.page
  is_page = (authored_is service.serial service.pages c.service_is.pages n own listed).page

  inside : (j : ℤ) → turned (length cycle) j < length cycle
  inside j = (laws.turn (length cycle) j c.some).inside

  same_page : (i : ℕ) (other : Authored) → slice_get service.pages i ≡ Some other → own.page.id ≡ other.page.id → other ≡ own
  same_page i other at e = one_page service.pages c.service_is.distinct i n other own at listed (sym e)

  -- the page of a late packet is the page of its owner
  under_own : (h j : ℤ) → IsLatestHeader (repeated cycle) own.page.id.mag h j → heads_page own.page.id (packet_of (repeated cycle h))
      ≡ true → (header : ℕ) → header < turned (length cycle) j →
      (i : ℕ) (other : Authored) → slice_get service.pages i ≡ Some other →
      heads_page other.page.id (packet_of (get_or cycle header [])) ≡ true → own.page.id.mag ≡ other.page.id.mag →
      ((k : ℕ) → header < k → k < turned (length cycle) j → heads own.page.id.mag (packet_of (get_or cycle k [])) ≡ false) → other ≡ own
  under_own h j latest is header lt i other at page mag none =
      let t = laws.turn (length cycle) j c.some in
      let l = latest_here cycle own.page.id.mag j t header lt (ap (λ m. heads m (packet_of (get_or cycle header []))) mag
      ∙ page_heads other.page.id (packet_of (get_or cycle header [])) page) none in
      let slot : repeated cycle h ≡ get_or cycle header [] =
      ap (repeated cycle) (one_latest (repeated cycle) own.page.id.mag h (pos header +ℤ t.by) j latest l)
      ∙ slot_back cycle t.by t.same header (omega (arith, lt, t.inside)) in
      same_page i other at (one_id own.page.id other.page.id (packet_of (get_or cycle header []))
      (ap (λ x. heads_page own.page.id (packet_of x)) (sym slot) ∙ is) page)

  -- headers of the page's number
  sub_own : (alone : IsAlone (pages_of service) own.page) (id : Id) (control : ℕ) (text : List ℕ) → IsHeadOf service.pages id control text →
      heads_matched (AnySub own.page.id.mag own.page.id.page) (P.Header id control text) ≡ true → same_id own.page.id id ≡ true
  sub_own alone id control text (inl filling) m =
      let page = eqb-true own.page.id.page id.page (and_parts (eqb own.page.id.mag id.mag) (eqb own.page.id.page id.page) m).1 in
      absurd (is_page.page (page ∙ eqb-true id.page 255 (and_parts (eqb id.page 255) (eqb id.sub 16255) filling).0))
  sub_own alone id control text (inr h) m =
      let two = and_parts (eqb own.page.id.mag id.mag) (eqb own.page.id.page id.page) m in
      let q = h.authored.page in
      let other : is_other_subpage own.page h.authored.page ≡ false =
      alone h.index h.authored.page (get_map (λ a. a.page) service.pages h.index h.authored h.listed) in
      let mag : h.authored.page.id.mag ≡ own.page.id.mag = sym (eqb-true own.page.id.mag id.mag two.0 ∙ ap (λ x. x.mag) h.id_is) in
      let page : h.authored.page.id.page ≡ own.page.id.page = sym (eqb-true own.page.id.page id.page two.1 ∙ ap (λ x. x.page) h.id_is) in
      let sub = same_sub (eqb h.authored.page.id.mag own.page.id.mag) (eqb h.authored.page.id.page own.page.id.page)
      (eqb h.authored.page.id.sub own.page.id.sub) (eq-eqb _ _ mag) (eq-eqb _ _ page) other in
      let subs : own.page.id.sub ≡ id.sub = sym (ap (λ x. x.sub) h.id_is ∙ eqb-true h.authored.page.id.sub own.page.id.sub sub) in
      and_from (eqb own.page.id.mag id.mag && eqb own.page.id.page id.page) (eqb own.page.id.sub id.sub) m (eq-eqb own.page.id.sub id.sub subs)
    where
      same_sub : (a b d : Bool) → a ≡ true → b ≡ true → ((a && b) && not d) ≡ false → d ≡ true
      same_sub true true true e f g = refl
      same_sub true true false e f g = cc
      same_sub true false d e f g = cc
      same_sub false b d e f g = cc

  only_subpage : IsAlone (pages_of service) own.page → (j : ℤ) →
      heads_matched (AnySub own.page.id.mag own.page.id.page) (packet_of (repeated cycle j)) ≡ true →
      heads_page own.page.id (packet_of (repeated cycle j)) ≡ true
  only_subpage alone j m = by (packet_of (repeated cycle j)) refl m
    where
      by : (x : Packet) → packet_of (repeated cycle j) ≡ x → heads_matched (AnySub own.page.id.mag own.page.id.page) x ≡ true →
          heads_page own.page.id x ≡ true
      by (P.Header id control text) e m = sub_own alone id control text
          (planned_headers_are_own laws c.places late class service cycle c.service_is c.said c.carries (turned (length cycle) j)
          (inside j) id control text e) m
      by x e m = m

  head_own : (id : Id) (control : ℕ) (text : List ℕ) → IsHeadOf service.pages id control text → same_id own.page.id id ≡ true →
      HeadIsRight own.page (P.Header id control text)
  head_own id control text (inl filling) e = absurd
      (not_filling own.page is_page (subst (λ x. is_time_filling x ≡ true) (sym (same_is own.page.id id e)) filling))
  head_own id control text (inr h) e =
      let same : h.authored ≡ own = same_page h.index h.authored h.listed (same_is own.page.id id e ∙ h.id_is) in
      (h.control_is ∙ ap (λ a. a.page.control) same, h.text_is ∙ ap (λ a. map odd_byte a.page.head) same)

  true_head : (j : ℤ) (x : Packet) → packet_of (repeated cycle j) ≡ x → heads_page own.page.id x ≡ true → HeadIsRight own.page x
  true_head j (P.Header id control text) e h = head_own id control text
      (planned_headers_are_own laws c.places late class service cycle c.service_is c.said c.carries (turned (length cycle) j)
      (inside j) id control text e) h
  true_head j x e h = absurd (apart h)

  true_row : (r : ℕ) (h j : ℤ) → IsLatestHeader (repeated cycle) own.page.id.mag h j →
      heads_page own.page.id (packet_of (repeated cycle h)) ≡ true → (x : Packet) → packet_of (repeated cycle j) ≡ x →
      carries own.page.id.mag (TheRow r) x ≡ true → RowIsRight own.page r x
  true_row r h j latest is (P.Row mag number text) e k =
      let two = and_parts (eqb mag own.page.id.mag) (eqb number r) k in
      let mags : mag ≡ own.page.id.mag = eqb-true mag own.page.id.mag two.0 in
      let numbers : number ≡ r = eqb-true number r two.1 in
      let u = planned_rows_are_own laws c.places late class service cycle c.service_is c.said c.carries (turned (length cycle) j)
      (inside j) mag number text e in
      let same : u.authored ≡ own = under_own h j latest is u.header (omega (arith, u.later)) u.index u.authored u.listed u.is_header
      (sym mags ∙ u.mag_is) (λ i low high. ap (λ m. heads m (packet_of (get_or cycle i []))) (sym mags)
      ∙ u.none_between i low high) in
      u.text_is ∙ ap (λ a. map odd_byte (page_row a.page number)) same ∙ ap (λ k. map odd_byte (page_row own.page k)) numbers
  true_row r h j latest is x e k = absurd (apart k)

  true_links : (h j : ℤ) → IsLatestHeader (repeated cycle) own.page.id.mag h j → heads_page own.page.id (packet_of (repeated cycle h))
      ≡ true → (x : Packet) → packet_of (repeated cycle j) ≡ x → carries own.page.id.mag TheLinks x ≡ true →
      LinksAreRight own.page (repeated cycle j) x
  true_links h j latest is (P.Links mag content) e k =
      let mags : mag ≡ own.page.id.mag = eqb-true mag own.page.id.mag k in
      let u = planned_links_are_own laws written late class service cycle c (turned (length cycle) j) (inside j) mag content e in
      let same : u.authored ≡ own = under_own h j latest is u.header (omega (arith, u.later)) u.index u.authored u.listed u.is_header
      (sym mags ∙ u.mag_is) (λ i low high. ap (λ m. heads m (packet_of (get_or cycle i []))) (sym mags)
      ∙ u.none_between i low high) in
      (u.exact, u.content_is ∙ ap (λ a. Some a.page.links) same)
  true_links h j latest is x e k = absurd (apart k)

  all_true : (item : Item) → IsChecked own.page item → (h j : ℤ) → IsOwned (repeated cycle) own.page.id item h j →
      IsTrueTo own.page item (repeated cycle j)
  all_true TheHead checked h j o = true_head j (packet_of (repeated cycle j)) refl o.1
  all_true (TheRow r) checked h j o = true_row r h j o.0 o.1 (packet_of (repeated cycle j)) refl o.2
  all_true TheLinks checked h j o = true_links h j o.0 o.1 (packet_of (repeated cycle j)) refl o.2

  pub steady_page : SteadySendsItsOwn → Steady (repeated cycle) (pages_of service) own.page
  steady_page law =
      let header = has_header laws late class service cycle c n own listed in
      (law (repeated cycle) (pages_of service) own.page is_page).1 (record { header = header; only_subpage = only_subpage; items = all_true })

pub planned_is_steady : LawsBelow → WrittenLinksAreRead → SteadySendsItsOwn → PlannedIsSteady
planned_is_steady laws written law late class service cycle c n p e =
    let there = page_there service.pages n p e in
    subst (Steady (repeated cycle) (pages_of service)) there.2 (steady_page laws written late class service cycle c n there.0 there.1 law)
