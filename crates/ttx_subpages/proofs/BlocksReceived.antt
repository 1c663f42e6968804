-- A block of a subpage as it is received: when a header ends it, all has come.
use Rattle.std.proofs.Common.{◌≡◌, ◌⊎◌, ℕ, suc, ◌+◌, ◌<◌, ◌≤◌, ℤ, pos, ◌+ℤ◌, ◌<ℤ◌, ◌≤ℤ◌, true, false, ◌==◌, List, [], ◌∷◌, length, get_or, take}
use Rattle.std.proofs.Common.{refl, sym, ap, ◌∙◌, subst, inl, inr, arith, eq-eqb}
use Rattle.std.proofs.lemmas.Int.{ints}
use Rattle.std.proofs.lemmas.Bool.{and_from, and_parts, both_ways, cases_Bool}
use Rattle.std.proofs.lemmas.List.{length-take-le}
use Rattle.ttx_packet.specs.Laws.{KindIsKept}
use Rattle.ttx_header.specs.Laws.{HeaderIsKept}
use Rattle.ttx_header.specs.Ids.{Id}
use Rattle.ttx_page.proofs.Decisions.{eq_sym}
use Rattle.ttx_page.proofs.SlotDistances.{cases_ltz}
use Rattle.ttx_page.specs.Packets.{Packet, Empty, Unreadable, Header, Row, Links, Info, Other, packet_of}
use Rattle.ttx_page.specs.Pages.{Page, matches, needed}
use Rattle.ttx_page.specs.declared.selection.Selection.{Selection}
use Rattle.ttx_page.specs.declared.selection.Selection.TheVariants.{AnySub}
use Rattle.ttx_page.specs.declared.item.Item.{Item}
use Rattle.ttx_page.specs.declared.item.Item.TheVariants.{Head as TheHead, Row as TheRow, Links as TheLinks}
use Rattle.ttx_page.specs.declared.class.Class.{Class}
use Rattle.ttx_page.specs.declared.class.Class.TheVariants.{Any}
use Rattle.ttx_page.specs.Memories.{Memory, IsMemory}
use Rattle.ttx_page.specs.Receivers.{Run}
use Rattle.ttx_page.specs.Streams.{Stream, heads, heads_page, heads_matched, ends_serial, carries, IsLatestHeader, IsOwned, IsSure}
use Rattle.ttx_page.specs.Receptions.{Received}
use Rattle.ttx_page.specs.Followers.{IsFollowed, heads_another}
use Rattle.ttx_certify.specs.Seen.{HasView}
use Rattle.ttx_certify.specs.Laws.{RunsAreSeen}
use Rattle.ttx_late.specs.LateReceivers.{LateMemory, heads_number}
use Rattle.ttx_subpages.specs.SeenInTurn.{MayEnd}
use Rattle.ttx_subpages.specs.EndedReceivers.{EndedRun}
use Rattle.ttx_subpages.specs.WholeBlocks.{IsSubpage, IsWhole}
use Rattle.ttx_subpages.specs.ListsInForce.{Lists, SendsListed}
use Rattle.ttx_late.proofs.KeptSlots.{SameTests, same_tests}
use Rattle.ttx_late.proofs.FollowedReceptions.{received_before}
use Rattle.ttx_subpages.proofs.PartsOfStreams.{block_has_view}
use Rattle.ttx_subpages.proofs.EndedBlocks.{AtPlace, AtPlaces, IsOpen, IsShut, block_is_shown}

-- a header that is not matched has another number
no_number : (mag number : ℕ) (pkt : Packet) → heads_matched (AnySub mag number) pkt ≡ false → heads_number (AnySub mag number) pkt ≡ false
no_number mag number pkt none = elim (cases_Bool (heads_number (AnySub mag number) pkt)) as (λ _. heads_number (AnySub mag number) pkt ≡ false)
    [ inr e ↦ e | inl e ↦ absurd (both_ways _ none (matched pkt e)) ]
  where
    matched : (pkt : Packet) → heads_number (AnySub mag number) pkt ≡ true → heads_matched (AnySub mag number) pkt ≡ true
    matched (Header id control text) h =
        and_from _ _ (eq_sym id.mag mag ((and_parts _ _ h).0)) (eq_sym id.page number ((and_parts (id.mag == mag) _ h).1))
    matched (Row m n text) h = absurd (both_ways false refl h)
    matched (Links m content) h = absurd (both_ways false refl h)
    matched Empty h = absurd (both_ways false refl h)
    matched Unreadable h = absurd (both_ways false refl h)
    matched Info h = absurd (both_ways false refl h)
    matched Other h = absurd (both_ways false refl h)

-- a header of the magazine with another number is one of the magazine
pub another_heads : (page : Id) (pkt : Packet) → heads_another page pkt ≡ true → heads page.mag pkt ≡ true
another_heads page (Header id control text) h = (and_parts (id.mag == page.mag) _ h).0
another_heads page (Row m n text) h = absurd (both_ways false refl h)
another_heads page (Links m content) h = absurd (both_ways false refl h)
another_heads page Empty h = absurd (both_ways false refl h)
another_heads page Unreadable h = absurd (both_ways false refl h)
another_heads page Info h = absurd (both_ways false refl h)
another_heads page Other h = absurd (both_ways false refl h)

-- a row or an X/27/0 ends nothing
row_no_end : (own mag r : ℕ) (pkt : Packet) → carries own (TheRow r) pkt ≡ true → MayEnd mag pkt → ⊥
row_no_end own mag r (Row m n text) c e = elim e as (λ _. ⊥) [ inl h ↦ both_ways _ refl h | inr h ↦ both_ways _ refl h ]
row_no_end own mag r (Header id control text) c e = both_ways _ refl c
row_no_end own mag r (Links m content) c e = both_ways _ refl c
row_no_end own mag r Empty c e = both_ways _ refl c
row_no_end own mag r Unreadable c e = both_ways _ refl c
row_no_end own mag r Info c e = both_ways _ refl c
row_no_end own mag r Other c e = both_ways _ refl c

links_no_end : (own mag : ℕ) (pkt : Packet) → carries own TheLinks pkt ≡ true → MayEnd mag pkt → ⊥
links_no_end own mag (Links m content) c e = elim e as (λ _. ⊥) [ inl h ↦ both_ways _ refl h | inr h ↦ both_ways _ refl h ]
links_no_end own mag (Header id control text) c e = both_ways _ refl c
links_no_end own mag (Row m n text) c e = both_ways _ refl c
links_no_end own mag Empty c e = both_ways _ refl c
links_no_end own mag Unreadable c e = both_ways _ refl c
links_no_end own mag Info c e = both_ways _ refl c
links_no_end own mag Other c e = both_ways _ refl c

-- what comes under the header at slot h comes before each later header that may end the page
module _ (s : Stream) (page : Id) (lines : ℕ) (h z : ℤ) (after : h <ℤ z) (end : MayEnd page.mag (packet_of (s z))) where
  not_past : (j : ℤ) → IsLatestHeader s page.mag h j → ((i : ℤ) → h <ℤ i → i <ℤ j → ends_serial page.mag (packet_of (s i)) ≡ false) →
      (MayEnd page.mag (packet_of (s j)) → ⊥) → j <ℤ z
  not_past j latest on none = elim (cases_ltz j z) as (λ _. j <ℤ z) [
    | inl lt ↦ lt
    | inr ge ↦ elim (cases_ltz z j) as (λ _. j <ℤ z) [
      | inl lt ↦ elim end as (λ _. j <ℤ z) [
        | inl head ↦ absurd (both_ways _ (latest.none_between z after lt) head)
        | inr serial ↦ absurd (both_ways _ (on z after lt) serial)
      ]
      | inr le ↦ let e : z ≡ j = omega (arith, ints) in absurd (none (subst (λ x. MayEnd page.mag (packet_of (s x))) e end))
    ]
  ]

  comes_before : (item : Item) (j : ℤ) → IsOwned s page item h j → IsSure s lines page.mag item h j → j <ℤ z
  comes_before TheHead j owned sure = let e = owned.0 in omega (arith, ints)
  comes_before (TheRow r) j owned sure = not_past j owned.0 sure.1 (row_no_end page.mag page.mag r (packet_of (s j)) owned.2)
  comes_before TheLinks j owned sure = not_past j owned.0 sure.1 (links_no_end page.mag page.mag (packet_of (s j)) owned.2)

at_places : (sel : Selection) (Done : ℕ → Type 0) (follower : ℕ) (rest : List (List ℕ)) (t : ℕ) →
    ((i : ℕ) → i < length rest → AtPlace sel Done follower (t + i) (packet_of (get_or rest i []))) → AtPlaces sel Done follower t rest
at_places sel Done follower [] t each = tt
at_places sel Done follower (slot ∷ rest) t each =
    let e : t + 0 ≡ t = omega arith in (
      subst (λ n. AtPlace sel Done follower n (packet_of slot)) e (each 0 (omega arith)),
      at_places sel Done follower rest (suc t)
          (λ i lt. let f : t + suc i ≡ suc t + i = omega arith in
          subst (λ n. AtPlace sel Done follower n (packet_of (get_or rest i []))) f (each (suc i) (omega arith))),
    )

module _ (runs : RunsAreSeen) (kind : KindIsKept) (header : HeaderIsKept) (s : Stream) (lists : Lists) (class : Class) (lines mag number : ℕ)
    (few : lines ≤ 32) (sends : SendsListed s lists lines mag number) (h : ℤ) (p : Page) (sub : IsSubpage (lists h) mag number p)
    (head : heads_page p.id (packet_of (s h)) ≡ true) (whole : IsWhole s p lines h) (f : IsFollowed s p.id h) (follower : ℕ)
    (at : f.slot ≡ h +ℤ pos follower) where
  abbrev sel : Selection
  sel = AnySub mag number

  -- each item has come below the slot t places on, and a header that may end the page by then
  abbrev Done : ℕ → Type 0
  Done t = ((item : Item) (need : needed p item ≡ true) → (whole item need).slot <ℤ (h +ℤ pos t))
      × ((z : ℤ) × (h <ℤ z) × (z ≤ℤ (h +ℤ pos t)) × MayEnd mag (packet_of (s z)))

  more : (t : ℕ) → Done t → Done (suc t)
  more t done = (
    λ item need. let lt = done.0 item need in omega (arith, ints),
    (done.1.0, done.1.1, (let le = done.1.2 in omega (arith, ints)), done.1.3),
  )

  fits : matches sel p.id ≡ true
  fits = and_from (mag == p.id.mag) (number == p.id.page) (eq-eqb mag p.id.mag (sym sub.mag_is)) (eq-eqb number p.id.page (sym sub.number_is))

  module _ (slot : List ℕ) (rest : List (List ℕ)) (permitted : Received s p.id 1 h (slot ∷ rest))
      (none : (j : ℤ) → h <ℤ j → j <ℤ (h +ℤ pos (suc (length rest))) → heads_matched sel (packet_of (s j)) ≡ false) where
    tests : (i : ℕ) → i < suc (length rest) → SameTests (s (h +ℤ pos i)) (get_or (slot ∷ rest) i [])
    tests i lt = same_tests kind header (s (h +ℤ pos i)) (get_or (slot ∷ rest) i []) (sends.slots (h +ℤ pos i)) (sends.clean (h +ℤ pos i))
        (permitted.each i lt)

    place : (i : ℕ) → 1 ≤ i → i < suc (length rest) → AtPlace sel Done follower i (packet_of (get_or (slot ∷ rest) i []))
    place i some lt =
        let t = tests i lt in
        let z = h +ℤ pos i in
        let after : h <ℤ z = omega (arith, ints) in
        let before : z <ℤ (h +ℤ pos (suc (length rest))) = omega (arith, ints) in
        record {
          quiet = t.number sel ∙ no_number mag number (packet_of (s z)) (none z after before);
          done = λ end.
              let own : MayEnd mag (packet_of (s z)) = elim end as (λ _. MayEnd mag (packet_of (s z)))
              [ inl e ↦ inl (sym (t.heads mag) ∙ e) | inr e ↦ inr (sym (t.ends mag) ∙ e) ] in (
                λ item need.
                    let c = whole item need in
                    comes_before s p.id lines h z after (subst (λ m. MayEnd m (packet_of (s z))) (sym sub.mag_is) own) item c.slot c.owned c.sure,
                (z, after, omega (arith, ints), own),
              );
          here = λ e.
              t.heads mag ∙ subst (λ m. heads m (packet_of (s z)) ≡ true) sub.mag_is
              (subst (λ x. heads p.id.mag (packet_of (s x)) ≡ true) (at ∙ ap (λ n. h +ℤ pos n) (sym e))
              (another_heads p.id (packet_of (s f.slot)) f.another));
        }

    view : (base : Memory) → IsMemory base → (k : ℕ) (x : Memory) → k ≤ length rest → Run Any lines sel base (slot ∷ take k rest) x →
        Done (1 + k) → HasView p x
    view base is k x le run done =
        let e : 1 + k ≡ suc (length (take k rest)) = omega (arith, length-take-le k rest le) in
        block_has_view runs s p sel lines h (sends.are_pages h p sub) few fits sends.slots sends.clean (sends.items h p sub) head
        (slot ∷ take k rest)
        (λ j after before. none j after (omega (arith, ints)))
        (λ item need. (whole item need, subst (λ n. (whole item need).slot <ℤ (h +ℤ pos n)) e (done.0 item need)))
        (received_before s p.id 1 h (suc k) (slot ∷ rest) (omega arith) permitted) base x is run

    pub block_shown : heads_matched sel (packet_of (s h)) ≡ true → (d new : LateMemory) → IsMemory d.gathered →
        EndedRun class lines sel d (slot ∷ rest) new →
        IsOpen follower (d.gathered.storing ≡ false) d.shown (1 + length rest) new ⊎ IsShut Done p (1 + length rest) new
    block_shown matched d new is run =
        let some : 1 ≤ follower = let a = f.next.earlier in omega (arith, ints) in
        let zero_on : h +ℤ pos 0 ≡ h = omega (arith, ints) in
        let first : heads_matched sel (packet_of slot) ≡ true =
        (tests 0 (omega arith)).matched sel ∙ subst (λ z. heads_matched sel (packet_of (s z)) ≡ true) (sym zero_on) matched in
        block_is_shown class lines sel Done more follower p slot rest d new first some
        (at_places sel Done follower rest 1 (λ i lt.
        let e : suc i ≡ 1 + i = omega arith in
        subst (λ n. AtPlace sel Done follower n (packet_of (get_or rest i []))) e (place (suc i) (omega arith) (omega arith))))
        view is run
