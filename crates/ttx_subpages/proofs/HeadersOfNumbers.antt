-- What the header in a slot decides of a number with several pages.
use Rattle.std.proofs.Common.{◌≡◌, ◌≢◌, ℕ, ◌+◌, ◌<◌, ◌≤◌, ℤ, pos, true, false, ◌==◌, List, [], length, map, get_or, slice_get, Option, Some, None, MatchOption, refl, sym, ap}
use Rattle.std.proofs.Common.{◌∙◌, subst, inl, inr, arith, eqb-true, eq-eqb, mod-eq_of_lt}
use Rattle.std.proofs.lemmas.Bool.{and_from, and_parts, both_ways, cases_lt}
use Rattle.std.proofs.lemmas.Option.{slice_get_within, get_or_from_slice_get, slice_get-map}
use Rattle.std.proofs.lemmas.Simd.{map-map}
use Rattle.std.specs.List.{AllPairs}
use Rattle.std.specs.Option.{option_map}
use Rattle.std.specs.Prelude.{is_some}
use Rattle.ttx_header.specs.Ids.{Id, same_id}
use Rattle.ttx_page.specs.Laws.{EachSlotTurns, IsSameOn, StreamsMove}
use Rattle.ttx_page.specs.Packets.{Packet, Empty, Unreadable, Header, Row, Links, Info, Other, packet_of}
use Rattle.ttx_page.specs.Pages.{Page}
use Rattle.ttx_page.specs.Views.{page_of, ids_of}
use Rattle.ttx_page.specs.declared.page.Page.{Page as PageValue}
use Rattle.ttx_page.specs.declared.selection.Selection.TheVariants.{AnySub}
use Rattle.ttx_page.specs.Streams.{Stream, repeated, turned, heads_page, heads_matched}
use Rattle.ttx_witness.specs.faults.Comparing.{HoldsHeader, HoldsNoHeader}
use Rattle.ttx_header.specs.Fields.{HeaderFields}
use Rattle.ttx_plan.proofs.SteadyPages.{one_id}
use Rattle.ttx_subpages.specs.WholeBlocks.{ComesUnder, IsWhole}
use Rattle.ttx_subpages.specs.Numbers.{count_of, AllSendWholeAt, AllSendWhole}
use Rattle.ttx_subpages.specs.declared.lack.Lack.{Lack}
use Rattle.ttx_subpages.proofs.ComingItems.{moved}

-- a header of a page with the number has it
its_number : (mag number : ℕ) (id : Id) (pkt : Packet) → heads_page id pkt ≡ true → heads_matched (AnySub mag number) pkt ≡ true →
    (id.mag ≡ mag) × (id.page ≡ number)
its_number mag number id (Header own control text) head matched =
    let same = and_parts _ _ (and_parts _ _ head).0 in
    let parts = and_parts (mag == own.mag) (number == own.page) matched in
    (eqb-true id.mag own.mag same.0 ∙ sym (eqb-true mag own.mag parts.0), eqb-true id.page own.page same.1 ∙ sym (eqb-true number own.page parts.1))
its_number mag number id (Row m n text) head matched = absurd (both_ways _ refl head)
its_number mag number id (Links m content) head matched = absurd (both_ways _ refl head)
its_number mag number id Empty head matched = absurd (both_ways _ refl head)
its_number mag number id Unreadable head matched = absurd (both_ways _ refl head)
its_number mag number id Info head matched = absurd (both_ways _ refl head)
its_number mag number id Other head matched = absurd (both_ways _ refl head)

-- ids of a list are distinct, so one id is of one page
module _ (pages : List Page) (distinct : AllPairs (λ a b. a ≢ b) (map (λ p. p.id) pages)) where
  id_at : (k : ℕ) (x : Page) → slice_get pages k ≡ Some x → slice_get (map (λ p. p.id) pages) k ≡ Some x.id
  id_at k x e = slice_get-map (λ p. p.id) pages k ∙ ap (option_map (λ p. p.id)) e

  id_is : (k : ℕ) (x : Page) → slice_get pages k ≡ Some x → (d : Id) → get_or (map (λ p. p.id) pages) k d ≡ x.id
  id_is k x e d = get_or_from_slice_get (map (λ p. p.id) pages) k x.id d (id_at k x e)

  pub one_listed : (i j : ℕ) (a b : Page) → slice_get pages i ≡ Some a → slice_get pages j ≡ Some b → a.id ≡ b.id → a ≡ b
  one_listed i j a b e f same = elim (cases_lt i j) as (λ _. a ≡ b) [
    | inl lt ↦ absurd (distinct i j a.id lt (slice_get_within (map (λ p. p.id) pages) j b.id (id_at j b f))
        (id_is i a e a.id ∙ same ∙ sym (id_is j b f a.id)))
    | inr ge ↦ elim (cases_lt j i) as (λ _. a ≡ b) [
      | inl lt ↦ absurd (distinct j i a.id lt (slice_get_within (map (λ p. p.id) pages) i a.id (id_at i a e))
          (id_is j b f a.id ∙ sym same ∙ sym (id_is i a e a.id)))
      | inr le ↦
          let q : i ≡ j = omega arith in
          let g : Some a ≡ Some b = sym e ∙ ap (slice_get pages) q ∙ f in
          cc
    ]
  ]

-- the ids of the program's pages
pub listed_ids : (pages : List PageValue) → AllPairs (λ a b. a ≢ b) (ids_of pages) → AllPairs (λ a b. a ≢ b) (map (λ p. p.id) (map page_of pages))
listed_ids pages distinct = subst (AllPairs (λ a b. a ≢ b)) (sym (map-map (λ (p : Page). p.id) page_of pages)) distinct

module _ (s : Stream) (pages : List Page) (lines : ℕ) (h : ℤ) where
  -- a slot that is no header
  pub no_header : (pkt : Packet) → packet_of (s h) ≡ pkt → HoldsNoHeader pkt → AllSendWholeAt s pages lines h
  no_header pkt is none mag number several = record {
    own = λ matched. absurd (both_ways _ (unmatched pkt none) (subst (λ x. heads_matched (AnySub mag number) x ≡ true) is matched));
    whole = λ p sub head. absurd (both_ways _ (no_page p.id pkt none) (subst (λ x. heads_page p.id x ≡ true) is head));
  }
    where
      unmatched : (pkt : Packet) → HoldsNoHeader pkt → heads_matched (AnySub mag number) pkt ≡ false
      unmatched (Header own control text) none = absurd none
      unmatched Empty none = refl
      unmatched Unreadable none = refl
      unmatched (Row m n text) none = refl
      unmatched (Links m content) none = refl
      unmatched Info none = refl
      unmatched Other none = refl

      no_page : (id : Id) (pkt : Packet) → HoldsNoHeader pkt → heads_page id pkt ≡ false
      no_page id (Header own control text) none = absurd none
      no_page id Empty none = refl
      no_page id Unreadable none = refl
      no_page id (Row m n text) none = refl
      no_page id (Links m content) none = refl
      no_page id Info none = refl
      no_page id Other none = refl

  module _ (id : Id) (header : heads_page id (packet_of (s h)) ≡ true) where
    -- one of a number that has no two pages
    pub few_pages : count_of pages id.mag id.page < 2 → AllSendWholeAt s pages lines h
    few_pages few mag number several = record {
      own = λ matched. absurd (too_few (its_number mag number id (packet_of (s h)) header matched));
      whole = λ p sub head. absurd (let same = one_id p.id id (packet_of (s h)) head header in
          too_few (ap (λ x. x.mag) (sym same) ∙ sub.mag_is, ap (λ x. x.page) (sym same) ∙ sub.number_is));
    }
      where
        too_few : (id.mag ≡ mag) × (id.page ≡ number) → ⊥
        too_few is =
            let less : count_of pages mag number < 2 =
            subst (λ m. count_of pages m number < 2) is.0 (subst (λ n. count_of pages id.mag n < 2) is.1 few) in
            let two : 2 ≤ count_of pages mag number = several in
            omega arith

    -- one of a page of the list, whose block is whole
    pub whole_block : AllPairs (λ a b. a ≢ b) (map (λ p. p.id) pages) → (index : ℕ) (page : Page) → slice_get pages index ≡ Some page →
        page.id ≡ id → IsWhole s page lines h → AllSendWholeAt s pages lines h
    whole_block distinct index page listed is whole mag number several = record {
      own = λ matched.
          let n = its_number mag number id (packet_of (s h)) header matched in (
            page,
            record {
              index = index;
              listed = listed;
              mag_is = ap (λ x. x.mag) is ∙ n.0;
              number_is = ap (λ x. x.page) is ∙ n.1;
            },
            subst (λ x. heads_page x (packet_of (s h)) ≡ true) (sym is) header,
          );
      whole = λ p sub head.
          let same : page ≡ p = one_listed pages distinct index sub.index page p listed sub.listed
          (is ∙ sym (one_id p.id id (packet_of (s h)) head header)) in
          subst (λ x. IsWhole s x lines h) same whole;
    }

pub header_told : (header : HeaderFields) (pkt : Packet) → HoldsHeader header pkt → heads_page header.id pkt ≡ true
header_told header pkt holds = subst (λ x. heads_page header.id x ≡ true) (sym holds.is) (same header.id)
  where
    same : (id : Id) → same_id id id ≡ true
    same id = and_from _ _ (and_from _ _ (eq-eqb id.mag id.mag refl) (eq-eqb id.page id.page refl)) (eq-eqb id.sub id.sub refl)

pub slot_here : (cycle : List (List ℕ)) (at : ℕ) → at < length cycle → repeated cycle (pos at) ≡ get_or cycle at []
slot_here cycle at lt = ap (λ i. get_or cycle i []) (mod-eq_of_lt lt)

module _ (cycle : List (List ℕ)) (pages : List Page) (lines : ℕ) where
  abbrev pub WholeBelow : ℕ → Type 0
  WholeBelow n = (i : ℕ) → i < n → AllSendWholeAt (repeated cycle) pages lines (pos i)

  pub whole_more : (n : ℕ) → WholeBelow n → AllSendWholeAt (repeated cycle) pages lines (pos n) → WholeBelow (n + 1)
  whole_more n old here i lt = elim (cases_lt i n) as (λ _. AllSendWholeAt (repeated cycle) pages lines (pos i)) [
    | inl less ↦ old i less
    | inr ge ↦ let e : n ≡ i = omega arith in subst (λ x. AllSendWholeAt (repeated cycle) pages lines (pos x)) e here
  ]

  -- the slots of one period decide
  pub all_whole : EachSlotTurns → StreamsMove → 0 < length cycle → (n : ℕ) → length cycle ≤ n → WholeBelow n → AllSendWhole (repeated cycle) pages lines
  all_whole turn move some n enough below mag number several h =
      let t = turn (length cycle) h some in
      let i = turned (length cycle) h in
      let inside = t.inside in
      let same : IsSameOn (repeated cycle) t.by = λ j. ap (λ k. get_or cycle k []) (t.same j) in
      let here = below i (omega arith) mag number several in
      let slot : repeated cycle (pos i) ≡ repeated cycle h = sym (ap (repeated cycle) t.place ∙ same (pos i)) in
      record {
        own = λ matched.
            let o = here.own (subst (λ x. heads_matched (AnySub mag number) (packet_of x) ≡ true) (sym slot) matched) in
            (o.0, o.1, subst (λ x. heads_page o.0.id (packet_of x) ≡ true) slot o.2);
        whole = λ p sub head item need.
            let c = here.whole p sub (subst (λ x. heads_page p.id (packet_of x) ≡ true) (sym slot) head) item need in
            subst (λ z. ComesUnder (repeated cycle) p lines item z) (sym t.place) (moved move (repeated cycle) t.by same p lines item (pos i) c);
      }

-- a lack that is found, and none
pub if_some : (A B : Type 0) (P Q : Lack → Type 0) (o : Option Lack) → is_some o ≡ true → ((x : Lack) → P x → Q x) → MatchOption o A P →
    MatchOption o B Q
if_some A B P Q None e f m = absurd (both_ways _ refl e)
if_some A B P Q (Some x) e f m = f x m

pub if_none : (A : Type 0) (P : Lack → Type 0) (o : Option Lack) → is_some o ≡ false → MatchOption o A P → A
if_none A P None e m = m
if_none A P (Some x) e m = absurd (both_ways _ e refl)
