-- The run of a starved receiver as a counter-run.
use Rattle.std.proofs.Common.{◌≡◌, ℕ, ◌<◌, ℤ, pos, ◌+ℤ◌, Bool, true, false, ◌==◌, List, [], map, length, get_or, refl, sym, ap, ◌∙◌, subst, inl, inr}
use Rattle.std.proofs.Common.{arith, length-set, get_or-set_same, get_or-set_other}
use Rattle.std.specs.Prelude.{bit_xor}
use Rattle.std.specs.List.{Contains, AllPairs, list_any}
use Rattle.std.proofs.lemmas.Int.{ints}
use Rattle.std.proofs.lemmas.List.{get_or-map, length-map}
use Rattle.std.proofs.lemmas.List.Elements.{Contains-get_or, All-get_or}
use Rattle.std.proofs.lemmas.Bool.{cases_Bool}
use Rattle.ttx_packet.specs.Slots.{IsSlot}
use Rattle.ttx_page.specs.Pages.{Page}
use Rattle.ttx_page.specs.declared.selection.Selection.TheVariants.{Exact}
use Rattle.ttx_page.specs.declared.item.Item.{Item}
use Rattle.ttx_page.specs.declared.item.Item.TheVariants.{Head as TheHead, Row as TheRow, Links as TheLinks}
use Rattle.ttx_page.specs.Memories.{Memory}
use Rattle.ttx_page.specs.Streams.{repeated, turned, IsSent}
use Rattle.ttx_page.specs.Laws.{EachSlotTurns, StreamsMove}
use Rattle.ttx_receiver.specs.Starving.{spoilt, first_byte, wrong_memory, starved_memory, starved_slots, starved_hits, starved_choices}
use Rattle.ttx_receiver.specs.Starving.{StarvedIsScripted, IsScripted}
use Rattle.ttx_cycle.specs.Files.{IsCycle}
use Rattle.ttx_witness.specs.Coverage.{Certificate, limit}
use Rattle.ttx_certify.specs.Seen.{HasView}
use Rattle.ttx_counter.specs.Counters.{Hit, IsHitIn, AreHits, IsHitList, flipped}
use Rattle.ttx_counter.specs.StarvingRuns.{hit_at}
use Rattle.ttx_counter.specs.Completeness.{StarvesFrom, StarvesInPeriod, StarvingIsCounterRun}
use Rattle.ttx_counter.proofs.FullestCertificate.{any_to, any_from}
use Rattle.ttx_counter.proofs.SeenIsCovered.{SeeingLaws, steady_from, exact_matches}

-- from a tuning slot that is moved into the first period
pub starves_turned : EachSlotTurns → StreamsMove → (cycle : List (List ℕ)) → 0 < length cycle → (p : Page) (w : Certificate) (item : Item) (tau : ℤ) →
    (IsSent (repeated cycle) p.id w.lines w.repeat item tau (tau +ℤ pos (limit w)) → ⊥) → StarvesFrom cycle p w item (turned (length cycle) tau)
starves_turned turn move cycle some p w item tau none =
    let n = length cycle in
    let s = repeated cycle in
    let t = turn n tau some in
    let moves = move s t.by (λ j. ap (λ x. get_or cycle x []) (t.same j)) in
    record {
      inside = t.inside;
      none = λ x. none
          (let e : (pos (turned n tau) +ℤ t.by) ≡ tau = sym t.place in
          let e' : ((pos (turned n tau) +ℤ pos (limit w)) +ℤ t.by) ≡ (tau +ℤ pos (limit w)) = omega (arith, ints, t.place) in
          subst (λ z. IsSent s p.id w.lines w.repeat item tau z) e'
          (subst (λ z. IsSent s p.id w.lines w.repeat item z ((pos (turned n tau) +ℤ pos (limit w)) +ℤ t.by)) e
          (moves.sent p.id w.lines w.repeat item (pos (turned n tau)) (pos (turned n tau) +ℤ pos (limit w)) x)));
    }

pub starves_in_period : EachSlotTurns → StreamsMove → StarvesInPeriod
starves_in_period turn move cycle some p w item starves =
    (turned (length cycle) starves.tau, starves_turned turn move cycle some p w item starves.tau starves.none)

low_byte : (item : Item) → first_byte item < 42
low_byte TheHead = omega arith
low_byte (TheRow r) = omega arith
low_byte TheLinks = omega arith

-- a hit of the list is one of its slots
record IsOneOf (item : Item) (xs : List ℕ) (h : Hit) : Type 0 where
  slot : Contains xs h.index
  byte : h.byte ≡ first_byte item
  bit : h.bit ≡ 1

hit_is : (item : Item) (xs : List ℕ) (h : Hit) → Contains (map (hit_at item) xs) h → IsOneOf item xs h
hit_is item xs h c =
    let long : length (map (hit_at item) xs) ≡ length xs = length-map xs (hit_at item) in
    let lt : c.0 < length xs = omega (arith, c.1) in
    let is : hit_at item (get_or xs c.0 0) ≡ h = sym (get_or-map (hit_at item) xs c.0 0 h lt) ∙ c.2 in
    record {
      slot = subst (Contains xs) (ap (λ x. x.index) is) (Contains-get_or xs c.0 0 lt);
      byte = sym (ap (λ x. x.byte) is);
      bit = sym (ap (λ x. x.bit) is);
    }

hit_in : (item : Item) (xs : List ℕ) (n : ℕ) → Contains xs n → Contains (map (hit_at item) xs) (hit_at item n)
hit_in item xs n c = (
  c.0,
  (let long : length (map (hit_at item) xs) ≡ length xs = length-map xs (hit_at item) in let lt = c.1 in omega arith),
  get_or-map (hit_at item) xs c.0 n (hit_at item n) c.1 ∙ ap (hit_at item) c.2,
)

hits_differ : (item : Item) (xs : List ℕ) → ((i j : ℕ) → i < j → j < length xs → get_or xs i 0 < get_or xs j 0) →
    AllPairs (λ a b. a.index ≡ b.index → a.byte ≡ b.byte → ⊥) (map (hit_at item) xs)
hits_differ item xs rising i j d lt inside e _ =
    let long : length (map (hit_at item) xs) ≡ length xs = length-map xs (hit_at item) in
    let last : j < length xs = omega arith in
    let first : i < length xs = omega arith in
    let up = rising i j lt last in
    let a : (get_or (map (hit_at item) xs) i d).index ≡ get_or xs i 0 = ap (λ x. x.index) (get_or-map (hit_at item) xs i 0 d first) in
    let b : (get_or (map (hit_at item) xs) j d).index ≡ get_or xs j 0 = ap (λ x. x.index) (get_or-map (hit_at item) xs j 0 d last) in
    let e' : get_or xs i 0 ≡ get_or xs j 0 = sym a ∙ e ∙ b in
    omega arith

module _ (cycle : List (List ℕ)) (is_cycle : IsCycle cycle) (turn : EachSlotTurns) (p : Page) (item : Item) (start n : ℕ) (m : Memory)
    (received : List (List ℕ)) (xs : List ℕ) (choices : List Bool) (lines : ℕ)
    (is : IsScripted lines (Exact p.id) item (repeated cycle) (pos start) (wrong_memory p item) m n received xs choices) where
  abbrev sent : ℕ → List ℕ
  sent t = repeated cycle (pos start +ℤ pos t)

  sent_slot : (t : ℕ) → IsSlot (sent t)
  sent_slot t = All-get_or IsSlot cycle (turned (length cycle) (pos start +ℤ pos t)) []
      (turn (length cycle) (pos start +ℤ pos t) is_cycle.some).inside is_cycle.each

  pub are_hits : AreHits (repeated cycle) start n (map (hit_at item) xs)
  are_hits = record {
    each = λ i d lt. let h = get_or (map (hit_at item) xs) i d in let o = hit_is item xs h (Contains-get_or (map (hit_at item) xs) i d lt) in record {
      index = is.inside h.index o.slot;
      byte = subst (λ x. x < 42) (sym o.byte) (low_byte item);
      some = omega (arith, o.bit);
      bit = omega (arith, o.bit);
      sent = is.some h.index o.slot;
    };
    once = hits_differ item xs is.rising;
  }

  hit_here : (t : ℕ) → Contains xs t → IsHitIn (map (hit_at item) xs) t (sent t) (spoilt (sent t) (first_byte item))
  hit_here t c =
      let x = first_byte item in
      let b = bit_xor (get_or (sent t) x 0) 1 in
      record {
        size = length-set (sent t) x b;
        hit = λ h k e. let o = hit_is item xs h k in
            subst (λ y. get_or (spoilt (sent t) x) y 0 ≡ flipped h.bit (get_or (sent t) y 0)) (sym o.byte)
            (subst (λ y. get_or (spoilt (sent t) x) x 0 ≡ flipped y (get_or (sent t) x 0)) (sym o.bit)
            (get_or-set_same (sent t) x b 0 (omega (arith, low_byte item, (sent_slot t).size))));
        other = λ y no. get_or-set_other (sent t) x y b 0 (λ q. no (hit_at item t) (hit_in item xs t c) refl (sym q));
      }

  pub with_hits : length received ≡ n → IsHitList (repeated cycle) start n (map (hit_at item) xs) received
  with_hits long = record {
    count = long;
    each = λ t lt. elim (cases_Bool (list_any (λ x. x == t) xs)) as (λ _. IsHitIn (map (hit_at item) xs) t (sent t) (get_or received t [])) [
      | inl e ↦ let c = any_to t xs e in subst (IsHitIn (map (hit_at item) xs) t (sent t)) (sym (is.hit t c)) (hit_here t c)
      | inr e ↦
          let no = λ (c : Contains xs t). let k = any_from t xs c.0 c.1 c.2 in let q : true ≡ false = sym k ∙ e in absurd cc in
          subst (IsHitIn (map (hit_at item) xs) t (sent t)) (sym (is.other t lt no)) (record {
            size = refl;
            hit = λ h k same. absurd (no (subst (Contains xs) same (hit_is item xs h k).slot));
            other = λ y _. refl;
          })
    ];
  }

pub starving_is_counter_run : SeeingLaws → StarvedIsScripted → StarvingIsCounterRun
starving_is_counter_run laws scripts cycle pages p w index here is_cycle page is clean steady item need start starves =
    let s = repeated cycle in
    let former = wrong_memory p item in
    let n = limit w in
    let m = starved_memory w.lines (Exact p.id) item s (pos start) former n in
    let received = starved_slots w.lines (Exact p.id) item s (pos start) former n in
    let xs = starved_hits w.lines (Exact p.id) item s (pos start) former n in
    let choices = starved_choices w.lines (Exact p.id) item s (pos start) former n in
    let st = laws.stays s p (Exact p.id) w.lines w.repeat item (pos start) n page is.few_lines is.some_repeats (exact_matches p.id)
    (steady_from laws cycle pages p is_cycle page clean steady (pos start)) need starves.none in
    let sc = scripts w.lines (Exact p.id) item s (pos start) former n in
    record {
      page = p;
      here = here;
      fits = refl;
      numbers = record {
        some_lines = is.some_lines;
        few_lines = is.few_lines;
        some_repeats = is.some_repeats;
        few_repeats = is.few_repeats;
        some_fields = is.some_fields;
        few_fields = is.few_fields;
      };
      lasts = omega arith;
      hits = are_hits cycle is_cycle laws.turn p item start n m received xs choices w.lines sc;
      former = st.is_former;
      received = received;
      with_hits = with_hits cycle is_cycle laws.turn p item start n m received xs choices w.lines sc st.size;
      permitted = st.permitted;
      wrong = λ view. laws.unseen s p (Exact p.id) w.lines w.repeat item (pos start) n former m received page need st
          (subst (HasView p) sc.script view);
    }
