-- In a clean cycle, a steady page that is seen is covered.
use Rattle.std.proofs.Common.{◌≡◌, ℕ, ◌*◌, ◌≤◌, ℤ, Bool, true, false, ◌&&◌, List, [], length, refl, sym, ap, ◌∙◌, subst, inl, inr, arith, eq-eqb}
use Rattle.std.proofs.lemmas.List.Elements.{All-get_or}
use Rattle.std.proofs.lemmas.Bool.{and_from}
use Rattle.ttx_packet.specs.Slots.{IsSlot}
use Rattle.ttx_header.specs.Ids.{Id}
use Rattle.ttx_page.specs.Packets.{Packet, Empty, Unreadable, Header, Row, Links, Info, Other, packet_of}
use Rattle.ttx_page.specs.Pages.{Page, IsPage, matches, needed}
use Rattle.ttx_page.specs.declared.selection.Selection.TheVariants.{Exact}
use Rattle.ttx_page.specs.declared.item.Item.{Item}
use Rattle.ttx_page.specs.declared.class.Class.TheVariants.{Any}
use Rattle.ttx_page.specs.Memories.{IsFormer}
use Rattle.ttx_page.specs.Receivers.{Run}
use Rattle.ttx_page.specs.Receptions.{Received}
use Rattle.ttx_page.specs.Streams.{repeated, turned, heads_page, heads_matched}
use Rattle.ttx_page.specs.Steady.{Steady}
use Rattle.ttx_page.specs.Laws.{EachSlotTurns, SteadySendsItsOwn}
use Rattle.ttx_receiver.specs.Laws.{IsSteadyFrom}
use Rattle.ttx_receiver.specs.Starving.{wrong_memory, starved_memory, starved_slots, StarvedStaysWrong}
use Rattle.ttx_cycle.specs.Files.{IsCycle}
use Rattle.ttx_witness.specs.Coverage.{Certificate, IsCertificate, limit, IsCovered}
use Rattle.ttx_certify.specs.Seen.{Seen}
use Rattle.ttx_certify.specs.Laws.{AcceptedIsSeen}
use Rattle.ttx_counter.specs.Starving.{fullest}
use Rattle.ttx_certify.specs.Verdicts.{IsClean}
use Rattle.ttx_counter.specs.Completeness.{CoveredOrStarved, StarvedIsUnseen, StarvedHasCounter, CounterIsUnseen, FullestNamesAll}
use Rattle.ttx_counter.specs.Completeness.{SeenIsCovered, SeenExactlyWhereAccepted, FoundIsLeastSeen, NoneFoundIsUnseen}

pub exact_matches : (id : Id) → matches (Exact id) id ≡ true
exact_matches id = let e = λ (n : ℕ). eq-eqb n n refl in and_from _ _ (and_from _ _ (e id.mag) (e id.page)) (e id.sub)

pub exactly : (id : Id) (packet : Packet) → heads_matched (Exact id) packet ≡ true → heads_page id packet ≡ true
exactly id (Header i control text) h = h
exactly id (Row m n t) h = h
exactly id (Links m content) h = h
exactly id Empty h = h
exactly id Unreadable h = h
exactly id Info h = h
exactly id Other h = h

pub record SeeingLaws : Type 0 where
  pub turn : EachSlotTurns
  pub own : SteadySendsItsOwn
  pub stays : StarvedStaysWrong
  pub unseen : StarvedIsUnseen

pub steady_from : SeeingLaws → (cycle : List (List ℕ)) (pages : List Page) (p : Page) → IsCycle cycle → IsPage p → IsClean cycle →
    Steady (repeated cycle) pages p →
    (tau : ℤ) → IsSteadyFrom (repeated cycle) p (Exact p.id) tau
steady_from laws cycle pages p is_cycle page clean steady tau =
    let own = (laws.own (repeated cycle) pages p page).0 steady in
    let inside = λ (j : ℤ). (laws.turn (length cycle) j is_cycle.some).inside in
    record {
      slots = λ j _. All-get_or IsSlot cycle (turned (length cycle) j) [] (inside j) is_cycle.each;
      clean = λ j _. clean (turned (length cycle) j) (inside j);
      selected = λ j _ h. exactly p.id (packet_of (repeated cycle j)) h;
      items = λ item checked h j _ owned. own.items item checked h j owned;
    }

pub starved_has_counter : SeeingLaws → StarvedHasCounter
starved_has_counter laws cycle pages p w is_cycle page is any clean steady item need starves =
    let s = repeated cycle in
    let former = wrong_memory p item in
    let st = laws.stays s p (Exact p.id) w.lines w.repeat item starves.tau (limit w) page is.few_lines is.some_repeats (exact_matches p.id)
    (steady_from laws cycle pages p is_cycle page clean steady starves.tau) need starves.none in
    let m = starved_memory w.lines (Exact p.id) item s starves.tau former (limit w) in
    let received = starved_slots w.lines (Exact p.id) item s starves.tau former (limit w) in
    record {
      sel = Exact p.id;
      fits = refl;
      tau = starves.tau;
      former = former;
      received = received;
      memory = m;
      is_former = subst (λ c. IsFormer c former) (sym any) st.is_former;
      permitted = st.permitted;
      size = st.size;
      run = subst (λ c. Run c w.lines (Exact p.id) former received m) (sym any) st.run;
      wrong = laws.unseen s p (Exact p.id) w.lines w.repeat item starves.tau (limit w) former m received page need st;
    }

-- the laws of this crate that are cited
pub record OwnLaws : Type 0 where
  pub decide : CoveredOrStarved
  pub counter : StarvedHasCounter
  pub refutes : CounterIsUnseen
  pub names : FullestNamesAll

module _ (laws : OwnLaws) (cycle : List (List ℕ)) (pages : List Page) (p : Page) (w : Certificate) (is_cycle : IsCycle cycle)
    (page : IsPage p) (is : IsCertificate w) (any : w.class ≡ Any)
    (clean : IsClean cycle) (steady : Steady (repeated cycle) pages p) (seen : Seen cycle pages p w) where
  pub fullest_covers : (item : Item) → needed p item ≡ true → IsCovered cycle p (fullest cycle w) item
  fullest_covers item need =
      let f = laws.names cycle is_cycle w is in
      elim (laws.decide cycle is_cycle.some p (fullest cycle w) item f.0.some_repeats (f.0.rising p.id item) (f.1 p item)) as
      (λ _. IsCovered cycle p (fullest cycle w) item) [
        | inl c ↦ c
        | inr starves ↦ absurd (laws.refutes cycle pages p w (laws.counter cycle pages p w is_cycle page is any clean steady item need starves) seen)
      ]

pub seen_is_covered : OwnLaws → SeenIsCovered
seen_is_covered laws cycle pages p w is_cycle page is any clean steady seen = record {
  v = fullest cycle w;
  is = (laws.names cycle is_cycle w is).0;
  same_class = refl;
  same_lines = refl;
  same_repeat = refl;
  same_deadline = refl;
  covered = fullest_covers laws cycle pages p w is_cycle page is any clean steady seen;
}

-- what is seen with some numbers is seen with these numbers, whatever starts are named
seen_same : (cycle : List (List ℕ)) (pages : List Page) (p : Page) (v w : Certificate) → v.class ≡ w.class → v.lines ≡ w.lines →
    v.repeat ≡ w.repeat → v.deadline ≡ w.deadline →
    Seen cycle pages p v → Seen cycle pages p w
seen_same cycle pages p v w ec el er ed seen = record {
  shown = λ sel fits tau former m received is_former permitted long run.
      let win : limit v ≡ limit w = ap (λ d. d * v.lines) ed ∙ ap (λ l. w.deadline * l) el in
      seen.shown sel fits tau former m received (subst (λ c. IsFormer c former) (sym ec) is_former)
      (subst (λ r. Received (repeated cycle) p.id r tau received) (sym er) permitted) (omega (arith, win, long))
      (subst (λ c. Run c v.lines sel former received m) (sym ec) (subst (λ l. Run w.class l sel former received m) (sym el) run));
}

pub seen_exactly_where_accepted : OwnLaws → AcceptedIsSeen → SeenExactlyWhereAccepted
seen_exactly_where_accepted laws headline cycle pages w is_cycle are_pages is any unchanged = (
  (λ seen. record {
    w = fullest cycle w;
    is = (laws.names cycle is_cycle w is).0;
    same_class = refl;
    same_lines = refl;
    same_repeat = refl;
    same_deadline = refl;
    accepted = record {
      clean = unchanged.clean;
      steady = unchanged.steady;
      covered = λ n p here item need. inl
          (fullest_covers laws cycle pages p w is_cycle (are_pages n p here) is any unchanged.clean (unchanged.steady n p here)
          (seen n p here) item need);
    };
  }),
  (λ can n p here. seen_same cycle pages p can.w w can.same_class can.same_lines can.same_repeat can.same_deadline
      (headline cycle pages can.w is_cycle are_pages can.is can.accepted n p here)),
)

-- a certificate with another deadline
with_deadline : (w : Certificate) (d : ℕ) → IsCertificate w → 1 ≤ d → d ≤ 1000000 → IsCertificate (record w { deadline = d })
with_deadline w d is some few = record {
  some_lines = is.some_lines;
  few_lines = is.few_lines;
  some_repeats = is.some_repeats;
  few_repeats = is.few_repeats;
  some_fields = some;
  few_fields = few;
  rising = is.rising;
}

pub found_is_least_seen : SeenExactlyWhereAccepted → AcceptedIsSeen → FoundIsLeastSeen
found_is_least_seen exactly headline cycle pages w d is_cycle are_pages is any unchanged least = (
  headline cycle pages w is_cycle are_pages is least.1,
  least.0,
  (λ e some few seen. least.2 e
      ((exactly cycle pages (record w { deadline = e }) is_cycle are_pages (with_deadline w e is some few) any unchanged).0 seen)),
)

pub none_found_is_unseen : SeenExactlyWhereAccepted → NoneFoundIsUnseen
none_found_is_unseen exactly cycle pages w is_cycle are_pages is any unchanged none d some few seen =
    none.1 d ((exactly cycle pages (record w { deadline = d }) is_cycle are_pages (with_deadline w d is some few) any unchanged).0 seen)
