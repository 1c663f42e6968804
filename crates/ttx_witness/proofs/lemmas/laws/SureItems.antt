-- If each item has a sure run, the certificate that names all starts of sure runs is accepted.
use Rattle.std.proofs.Common.{◌≡◌, ◌⊎◌, ℕ, zero, suc, ◌+◌, ◌-◌, ◌*◌, ◌<◌, ◌≤◌, ℤ, pos, ◌+ℤ◌, ◌-ℤ◌, ◌<ℤ◌, ◌≤ℤ◌, true, List, [], ◌∷◌, ◌++◌, map, take}
use Rattle.std.proofs.Common.{length, slice_index_or, None, unsigned_abs, refl, sym, ap, ◌∙◌, subst, inl, inr, arith, mul-le-mul, mod-eq_of_lt}
use Rattle.std.proofs.Common.{length-append}
use Rattle.std.specs.List.{Contains, AllByRecursion}
use Rattle.std.proofs.lemmas.Int.{ints}
use Rattle.std.proofs.lemmas.Bool.{and_from, and_parts, cond_both, both_ways}
use Rattle.ttx_page.proofs.SlotDistances.{cases_ltz}
use Rattle.ttx_header.specs.Ids.{Id}
use Rattle.ttx_page.specs.Laws.{Turn, EachSlotTurns, StreamsMove, OwnersAreNear, IsSameOn}
use Rattle.ttx_page.specs.Packets.{packet_of}
use Rattle.ttx_page.specs.Pages.{Page, IsBlank}
use Rattle.ttx_page.specs.declared.item.Item.{Item}
use Rattle.ttx_page.specs.declared.item.Item.TheVariants.{Head as TheHead, Row as TheRow, Links as TheLinks}
use Rattle.ttx_page.specs.declared.class.Class.{Class}
use Rattle.ttx_page.specs.declared.class.Class.TheVariants.{Clearing}
use Rattle.ttx_page.specs.Steady.{HasHeader}
use Rattle.ttx_page.specs.Streams.{Stream, turned, repeated, run_length, heads_page, IsOwned, IsTransmission, IsSure, AreSuccessive, EndsBelow}
use Rattle.ttx_witness.specs.runs.Transmissions.{Transmission, Run, later, further, windows, run_of, runs, all_sure}
use Rattle.ttx_witness.specs.runs.Confirming.{Rising}
use Rattle.ttx_witness.specs.Coverage.{Certificate, IsSureStart, IsCovered, IsLeftOut}
use Rattle.ttx_witness.specs.search.Finding.{starts_of}
use Rattle.ttx_witness.specs.runs.Repeating.{IsSentAt, AreSent}
use Rattle.ttx_witness.specs.runs.SureStarts.{sure_runs, sure_starts}
use Rattle.ttx_witness.specs.sent.ItemTransmissions.{sent_in}
use Rattle.ttx_witness.specs.laws.SureItems.{HasSureStart, AllSureHaveStarts, IsLongEnough, SureItemsAreAccepted}
use Rattle.ttx_witness.proofs.lemmas.laws.CycleLaws.{sure_starts_are_found, further_starts_cover}
use Rattle.ttx_certificate.proofs.EntryOrder.{rising_pairs}
use Rattle.ttx_witness.proofs.lemmas.runs.FoundStarts.{starts_rise}
use Rattle.ttx_witness.proofs.lemmas.runs.Rounds.{length_further}
use Rattle.ttx_witness.proofs.lemmas.sent.CycleTransmissions.{period_of, sent_told, told_in_order}
use Rattle.ttx_witness.proofs.Windows.{windows_yes}
use Rattle.ttx_witness.proofs.lemmas.sent.RunLengths.{run_some}

few_length : (repeat : ℕ) (item : Item) → repeat ≤ 8 → run_length repeat item ≤ 8
few_length repeat TheHead h = h
few_length repeat (TheRow r) h = h
few_length repeat TheLinks h = omega arith

-- if all is sure, the first window of a period is a sure run

all_sure_append : (ts us : List Transmission) → all_sure ts ≡ true → all_sure us ≡ true → all_sure (ts ++ us) ≡ true
all_sure_append [] us a b = b
all_sure_append (t ∷ ts) us a b = and_from t.sure _ (and_parts t.sure _ a).0 (all_sure_append ts us ((and_parts t.sure _ a).1) b)

all_sure_further : (n k : ℕ) (ts : List Transmission) → all_sure ts ≡ true → all_sure (further n k ts) ≡ true
unfolding further
all_sure_further n zero ts a = refl
all_sure_further n (suc k) [] a = refl
all_sure_further n (suc k) (t ∷ ts) a =
    and_from _ _ (and_parts t.sure _ a).0
    (all_sure_further n k (ts ++ later n t ∷ [])
    (all_sure_append ts (later n t ∷ []) ((and_parts t.sure _ a).1) (and_from t.sure true (and_parts t.sure _ a).0 refl)))

all_sure_take : (k : ℕ) (ts : List Transmission) → all_sure ts ≡ true → all_sure (take k ts) ≡ true
all_sure_take zero ts a = refl
all_sure_take (suc k) [] a = refl
all_sure_take (suc k) (t ∷ ts) a = and_from _ _ (and_parts t.sure _ a).0 (all_sure_take k ts ((and_parts t.sure _ a).1))

first_found : (r : Run) (rs : List Run) → r.sure ≡ true → Contains (sure_starts (r ∷ rs)) (unsigned_abs r.start)
unfolding sure_runs
first_found r rs e = cond_both r.sure (r ∷ sure_runs rs) (sure_runs rs) (λ qs. Contains (map (λ q. unsigned_abs q.start) qs) (unsigned_abs r.start))
    (λ y. (0, omega arith, refl)) (λ f. absurd (both_ways _ f e))

some_found : (n k : ℕ) (t : Transmission) (ts : List Transmission) → all_sure (t ∷ ts) ≡ true → (start : ℕ)
    × Contains (sure_starts (runs n k (t ∷ ts))) start
some_found n k t ts a =
    let more = further n k (t ∷ ts) in
    let size : length (further n k (t ∷ ts)) ≡ k = length_further n k (t ∷ ts) (omega arith) in
    let sum : length (ts ++ further n k (t ∷ ts)) ≡ length ts + length (further n k (t ∷ ts)) = length-append ts (further n k (t ∷ ts)) in
    let list : runs n k (t ∷ ts) ≡ run_of (t ∷ take k (ts ++ further n k (t ∷ ts))) ∷ map run_of (windows (suc k) (ts ++ further n k (t ∷ ts))) =
    ap (map run_of) (windows_yes (suc k) t (ts ++ further n k (t ∷ ts)) (omega arith)) in
    let sure : all_sure (t ∷ take k (ts ++ further n k (t ∷ ts))) ≡ true =
    all_sure_take (suc k) (t ∷ (ts ++ further n k (t ∷ ts)))
    (all_sure_append (t ∷ ts) (further n k (t ∷ ts)) a (all_sure_further n k (t ∷ ts) a)) in (
      unsigned_abs t.slot,
      subst (λ rs. Contains (sure_starts rs) (unsigned_abs t.slot)) (sym list)
          (first_found (run_of (t ∷ take k (ts ++ further n k (t ∷ ts)))) (map run_of (windows (suc k) (ts ++ further n k (t ∷ ts)))) sure),
    )

told_sure : (Owned Sure : ℤ → ℤ → Type 0) → ((h j : ℤ) → Owned h j → Sure h j) → (low high : ℤ) (ts : List Transmission) →
    AreSent Owned Sure low high ts → all_sure ts ≡ true
told_sure Owned Sure all low high [] l = refl
told_sure Owned Sure all low high (t ∷ ts) l = and_from _ _ (l.0.sure.1 (all t.owner t.slot l.0.owned))
    (told_sure Owned Sure all (t.slot +ℤ pos 1) high ts l.4)

-- periods

module _ (turns : EachSlotTurns) (move : StreamsMove) (cycle : List (List ℕ)) (some : 1 ≤ length cycle) where
  same_on : (i : ℤ) (t : Turn (length cycle) i) → IsSameOn (repeated cycle) t.by
  same_on i t j = ap (λ x. slice_index_or cycle x []) (t.same j)

  -- a transmission has its place in the first period
  placed : (page : Id) (item : Item) (h j : ℤ) → IsOwned (repeated cycle) page item h j →
      IsSentAt (IsOwned (repeated cycle) page item) (pos (turned (length cycle) j))
  placed page item h j o =
      let t = turns (length cycle) j some in
      let back : IsSameOn (repeated cycle) (pos 0 -ℤ t.by) = (move (repeated cycle) t.by (same_on j t)).back in
      let m = move (repeated cycle) (pos 0 -ℤ t.by) back in
      let here : j +ℤ (pos 0 -ℤ t.by) ≡ pos (turned (length cycle) j) = omega (arith, ints, t.place) in
      record {
        owner = h +ℤ (pos 0 -ℤ t.by);
        owned = subst (λ x. IsOwned (repeated cycle) page item (h +ℤ (pos 0 -ℤ t.by)) x) here
            (m.owned page item h j o);
      }

  has_start : (page : Id) (lines repeat : ℕ) (item : Item) → 1 ≤ repeat → (h j : ℤ) → IsOwned (repeated cycle) page item h j →
      ((h j : ℤ) → IsOwned (repeated cycle) page item h j → IsSure (repeated cycle) lines page.mag item h j) →
      HasSureStart cycle page lines repeat item
  has_start page lines repeat item one h j o all = from (sent_in cycle page lines item) refl (sent_told cycle some page lines item)
    where
      k : ℕ
      k = run_length repeat item - 1

      from : (ts : List Transmission) → sent_in cycle page lines item ≡ ts →
          AreSent (IsOwned (repeated cycle) page item) (IsSure (repeated cycle) lines page.mag item) (pos 0)
          (pos (length cycle)) ts → HasSureStart cycle page lines repeat item
      from [] e told =
          let t = turns (length cycle) j some in
          let inside : turned (length cycle) j < length cycle = t.inside in
          absurd (told (pos (turned (length cycle) j)) (omega (arith, ints)) (omega (arith, ints, inside)) (placed page item h j o))
      from (t ∷ ts) e told =
          let f = some_found (length cycle) (run_length repeat item - 1) t ts
          (told_sure (IsOwned (repeated cycle) page item) (IsSure (repeated cycle) lines page.mag item) all (pos 0)
          (pos (length cycle)) (t ∷ ts) told) in (
            f.0,
            (sure_starts_are_found cycle some page lines repeat item (run_length repeat item - 1) (run_some repeat item one) f.0).0
                (subst (λ us. Contains (sure_starts (runs (length cycle) (run_length repeat item - 1) us)) f.0) (sym e) f.1),
          )

pub all_sure_have_starts : EachSlotTurns → StreamsMove → AllSureHaveStarts
all_sure_have_starts turns move cycle some = has_start turns move cycle some

-- one start covers an item

only_one : (a x : ℕ) → Contains (a ∷ []) x → a ≡ x
only_one a x h = at h.0 h.1 h.2
  where
    at : (k : ℕ) → k < 1 → slice_index_or (a ∷ []) k x ≡ x → a ≡ x
    at zero lt e = e
    at (suc k) lt e = absurd (omega arith)

abbrev numbered : Class → ℕ → ℕ → ℕ → (Id → Item → List ℕ) → Certificate
numbered class lines repeat deadline starts = record { lines = lines; repeat = repeat; deadline = deadline; class = class; starts = starts }

module _ (turns : EachSlotTurns) (move : StreamsMove) (near : OwnersAreNear) (cycle : List (List ℕ)) (some : 1 ≤ length cycle) where
  abbrev n : ℕ
  n = length cycle

  abbrev s : Stream
  s = repeated cycle

  -- the next transmission comes within a period
  ends_near : (page : Id) (item : Item) (e i : ℤ) (rest : List ℤ) → AreSuccessive s page item (i ∷ rest) →
      (i +ℤ pos (length rest * n)) <ℤ e → AllByRecursion (λ j. j <ℤ e) (i ∷ rest)
  ends_near page item e i [] a lt = ((let z : 0 * n ≡ 0 = omega arith in omega (arith, ints)), tt)
  ends_near page item e i (j ∷ rest) a lt =
      let m : suc (length rest) * n ≡ n + length rest * n = omega arith in
      let later : IsTransmission s page item (i +ℤ pos n) = (move s (pos n) (period_of cycle)).transmission page item i a.0 in
      let step : j ≤ℤ (i +ℤ pos n) = within (i +ℤ pos n) j (λ lt. a.2 (i +ℤ pos n) (omega (arith, ints, some)) lt later) in
      ((omega (arith, ints)), ends_near page item e j rest a.3 (omega (arith, ints)))
    where
      within : (a b : ℤ) → (a <ℤ b → ⊥) → b ≤ℤ a
      within a b none = elim (cases_ltz a b) as (λ _. b ≤ℤ a) [
        | inl lt ↦ absurd (none lt)
        | inr le ↦ le
      ]

  -- after each slot the same comes again within a period
  pub record Again (x tau : ℤ) : Type 0 where
    pub by : ℤ
    pub same : IsSameOn s by
    pub place : (start : ℕ) → start < n → turned n (pos start +ℤ by) ≡ start
    pub from : tau ≤ℤ (x +ℤ by)
    pub to : (x +ℤ by) ≤ℤ (tau +ℤ pos n)

  again : (x tau : ℤ) → Again x tau
  again x tau =
      let z = (tau -ℤ x) +ℤ pos n in
      let t = turns n z some in
      let inside : turned n z < n = t.inside in
      record {
        by = t.by;
        same = λ j. ap (λ y. slice_index_or cycle y []) (t.same j);
        place = λ start lt. t.same (pos start) ∙ mod-eq_of_lt lt;
        from = omega (arith, ints, t.place, inside);
        to = omega (arith, ints, t.place);
      }

  one_covers : (p : Page) (class : Class) (lines repeat deadline : ℕ) (item : Item) → 1 ≤ repeat → repeat ≤ 8 →
      IsLongEnough cycle lines deadline → (start : ℕ) → IsSureStart cycle p.id lines repeat item start →
      IsCovered cycle p (numbered class lines repeat deadline (λ id i. start ∷ [])) item
  one_covers p class lines repeat deadline item one eight long start sure = record {
    named = (start, (0, omega arith, refl));
    sure = λ x h. subst (IsSureStart cycle p.id lines repeat item) (only_one start x h) sure;
    in_time = λ tau.
        let run = sure.1 in
        let first = run.all_sure.0 in
        let a = again first.owner tau in
        let m = move s a.by a.same in
        let e = (tau +ℤ pos (deadline * lines)) -ℤ a.by in
        let back : e +ℤ a.by ≡ tau +ℤ pos (deadline * lines) = omega (arith, ints) in
        let seven : length run.rest ≤ 7 = let c : suc (length run.rest) ≡ run_length repeat item = run.run.count
        in omega (arith, c, few_length repeat item eight) in
        let most : length run.rest * n ≤ 7 * n = mul-le-mul seven (omega arith) in
        let close : pos start <ℤ (first.owner +ℤ pos n) = near s n some (period_of cycle) p.id item first.owner (pos start) first.owned in
        let soon : (pos start +ℤ pos (length run.rest * n)) <ℤ e = omega (arith, ints, a.to, most, close, long) in (
          pos start +ℤ a.by,
          first.owner +ℤ a.by,
          (0, omega arith, sym (a.place start sure.0)),
          m.owned p.id item first.owner (pos start) first.owned,
          a.from,
          subst (λ x. EndsBelow s p.id repeat item (pos start +ℤ a.by) x) back
              (m.ends p.id repeat item (pos start) e
              (record {
                rest = run.rest;
                run = run.run;
                ends = ends_near p.id item e (pos start) run.rest run.run.successive soon;
              })),
        );
  }

  -- the certificate that names all starts of sure runs covers the item
  all_cover : (p : Page) (class : Class) (lines repeat deadline : ℕ) (item : Item) → 1 ≤ repeat → repeat ≤ 8 →
      IsLongEnough cycle lines deadline → HasSureStart cycle p.id lines repeat item →
      IsCovered cycle p (numbered class lines repeat deadline (starts_of cycle lines repeat)) item
  all_cover p class lines repeat deadline item one eight long start =
      let found = sure_starts_are_found cycle some p.id lines repeat item (run_length repeat item - 1) (run_some repeat item one) in
      further_starts_cover cycle p (numbered class lines repeat deadline (λ id i. start.0 ∷ []))
      (numbered class lines repeat deadline (starts_of cycle lines repeat)) item refl refl refl
      (λ x h. subst (Contains (starts_of cycle lines repeat p.id item)) (only_one start.0 x h) ((found start.0).1 start.1))
      (λ x h. (found x).0 h)
      (one_covers p class lines repeat deadline item one eight long start.0 start.1)

  left_out : (p : Page) (class : Class) (lines repeat deadline : ℕ) (item : Item) → IsLongEnough cycle lines deadline →
      HasHeader s p.id → class ≡ Clearing → IsBlank p item → starts_of cycle lines repeat p.id item ≡ [] →
      IsLeftOut cycle p (numbered class lines repeat deadline (starts_of cycle lines repeat)) item
  left_out p class lines repeat deadline item long header clearing blank none = record {
    clearing = clearing;
    blank = blank;
    no_line = none;
    in_time = λ tau. let a = again header.slot tau
        in (
          header.slot +ℤ a.by,
          a.from,
          omega (arith, ints, a.to, long, some),
          ap (λ x. heads_page p.id (packet_of x)) (a.same header.slot) ∙ header.is_header,
        );
  }

  rising_all : length cycle ≤ 65536 → (lines repeat : ℕ) (page : Id) (item : Item) → Rising (starts_of cycle lines repeat page item)
  rising_all few lines repeat page item i j lt in_range =
      let ts = sent_in cycle page lines item in
      rising_pairs None (starts_of cycle lines repeat page item) i j 0
      (starts_rise n (run_length repeat item - 1) ts
      (told_in_order cycle some page lines item few ts (sent_told cycle some page lines item))) lt in_range

  either : (p : Page) (class : Class) (lines repeat deadline : ℕ) (item : Item) → 1 ≤ repeat → repeat ≤ 8 →
      IsLongEnough cycle lines deadline → HasHeader s p.id →
      HasSureStart cycle p.id lines repeat item ⊎ ((class ≡ Clearing) × IsBlank p item) → (starts : List ℕ) →
      starts_of cycle lines repeat p.id item ≡ starts →
      let w = numbered class lines repeat deadline (starts_of cycle lines repeat) in IsCovered cycle p w item ⊎ IsLeftOut cycle p w item
  either p class lines repeat deadline item one eight long header (inl start) starts e =
      inl (all_cover p class lines repeat deadline item one eight long start)
  either p class lines repeat deadline item one eight long header (inr blank) [] e =
      inr (left_out p class lines repeat deadline item long header blank.0 blank.1 e)
  either p class lines repeat deadline item one eight long header (inr blank) (x ∷ xs) e =
      let named : Contains (starts_of cycle lines repeat p.id item) x = subst (λ l. Contains l x) (sym e) (0, omega arith, refl) in
      inl (all_cover p class lines repeat deadline item one eight long
      (x, (sure_starts_are_found cycle some p.id lines repeat item (run_length repeat item - 1) (run_some repeat item one) x).0 named))

pub sure_items_are_accepted : EachSlotTurns → StreamsMove → OwnersAreNear → SureItemsAreAccepted
sure_items_are_accepted turns move near cycle pages class lines repeat deadline some few l1 l32 one eight d1 dm long unchanged sent = record {
  w = numbered class lines repeat deadline (starts_of cycle lines repeat);
  is = record {
    some_lines = l1;
    few_lines = l32;
    some_repeats = one;
    few_repeats = eight;
    some_fields = d1;
    few_fields = dm;
    rising = rising_all turns move near cycle some few lines repeat;
  };
  same_class = refl;
  same_lines = refl;
  same_repeat = refl;
  same_deadline = refl;
  accepted = record {
    clean = unchanged.clean;
    steady = unchanged.steady;
    covered = λ i p at item need. either turns move near cycle some p class lines repeat deadline item one eight long
        ((unchanged.steady i p at).header) (sent i p at item need) (starts_of cycle lines repeat p.id item) refl;
  };
}
