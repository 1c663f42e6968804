-- The least deadline of one page, and why there is none, from the least limits of its items.
use Rattle.std.proofs.Common.{◌≡◌, ◌⊎◌, ◌↔◌, ℕ, zero, suc, ◌+◌, ◌-◌, ◌*◌, ◌<◌, ◌≤◌, ℤ, true, List, [], ◌∷◌, ◌++◌, length, slice_get, Option, Some}
use Rattle.std.proofs.Common.{None, unsigned_abs, map, if◌then◌else◌, refl, sym, ap, ◌∙◌, subst, inl, inr, arith}
use Rattle.std.specs.List.{Contains}
use Rattle.std.proofs.lemmas.Bool.{cases_lt, cases_Bool, cond_both, both_ways, cond-true, cond-false}
use Rattle.std.proofs.lemmas.List.{length-map, length-append}
use Rattle.std.proofs.lemmas.Option.{slice_get_within}
use Rattle.ttx_witness.proofs.lemmas.GrownLists.{before_here, last_here}
use Rattle.ttx_page.specs.Views.{page_of}
use Rattle.ttx_page.specs.declared.page.Page.{Page as PageValue}
use Rattle.ttx_witness.specs.declared.wait_times.wait.PageWait.{PageWait}
use Rattle.ttx_header.specs.Ids.{Id}
use Rattle.ttx_page.specs.Pages.{Page, IsBlank, is_blank, needed}
use Rattle.ttx_page.specs.declared.item.Item.{Item}
use Rattle.ttx_page.specs.declared.item.Item.TheVariants.{Head as TheHead, Links as TheLinks}
use Rattle.ttx_page.specs.declared.class.Class.{Class}
use Rattle.ttx_page.specs.Laws.{EachSlotTurns}
use Rattle.ttx_page.specs.Streams.{run_length, repeated, turned}
use Rattle.ttx_page.specs.Steady.{Steady}
use Rattle.ttx_witness.specs.runs.Transmissions.{Run}
use Rattle.ttx_witness.specs.runs.Confirming.{Rising}
use Rattle.ttx_witness.specs.runs.SureStarts.{Spread, sure_starts, sure_runs, spread_of, widened}
use Rattle.ttx_witness.specs.sent.ItemTransmissions.{sent_in}
use Rattle.ttx_witness.specs.Coverage.{Certificate, limit, IsSureStart, IsCovered}
use Rattle.ttx_witness.specs.laws.CycleLaws.{found_starts, SureStartsAreFound, LeastLimitIsFound}
use Rattle.ttx_witness.specs.faults.Faults.{IsPageFault, SteadyHasNoFault}
use Rattle.ttx_witness.specs.search.Finding.{is_due, starts_of, starts_for, spread_at, limit_of, least_limit, limit_for, IsEnough}
use Rattle.ttx_witness.specs.wait_times.PageWaits.{IsFor, IsLeast, ShowsItem, CanShow, CanAccept, Needs, HasNoSureStart, IsWait, IsPageTold, AreWaits}
use Rattle.ttx_witness.specs.wait_times.ItemLimits.{IsOwnDeadline, IsBelow, IsFirstLongest, IsLongest, IsWaitByLimits}
use Rattle.ttx_witness.specs.declared.faults.reason.Reason.{Reason}
use Rattle.ttx_witness.specs.declared.wait_times.wait.Losses.{Losses}
use Rattle.ttx_witness.specs.declared.wait_times.wait.Wait.{Wait}
use Rattle.ttx_witness.specs.declared.wait_times.wait.Wait.TheVariants.{Fields, Faulty, Unsure}
use Rattle.ttx_certificate.proofs.EntryOrder.{rising_pairs}
use Rattle.ttx_witness.proofs.lemmas.runs.FoundStarts.{starts_rise}
use Rattle.ttx_witness.proofs.lemmas.sent.CycleTransmissions.{sent_told, told_in_order}
use Rattle.ttx_witness.proofs.lemmas.search.HeaderLimits.{Next, next_covered, next_fits, named_head}
use Rattle.ttx_witness.proofs.lemmas.search.LeastDeadline.{item_needed, due_needed, due_not_blank, not_due_is}
use Rattle.ttx_witness.proofs.lemmas.sent.ItemPlaces.{item_small}
use Rattle.ttx_witness.proofs.lemmas.sent.RunLengths.{run_some}

pub none_rise : Rising []
none_rise i j lt in_range = absurd (omega arith)

-- if nothing is found there is no spread, and vice versa
no_spread : (rs : List Run) → sure_starts rs ≡ [] → spread_of None rs ≡ None
unfolding sure_runs spread_of
no_spread [] e = refl
no_spread (r ∷ rs) e = elim (cases_Bool r.sure) as (λ _. spread_of (if r.sure then Some (widened None r) else None) rs ≡ None) [
  | inl sure ↦ absurd (some_starts r (sure_runs rs) (ap numbers (sym (cond-true r.sure (r ∷ sure_runs rs) (sure_runs rs) sure)) ∙ e))
  | inr unsure ↦ ap (λ s. spread_of s rs) (cond-false r.sure (Some (widened None r)) None unsure)
      ∙ no_spread rs (ap numbers (sym (cond-false r.sure (r ∷ sure_runs rs) (sure_runs rs) unsure)) ∙ e)
]
  where
    numbers : List Run → List ℕ
    numbers rs = map (λ r. unsigned_abs r.start) rs

    some_starts : (r : Run) (rs : List Run) → map (λ r. unsigned_abs r.start) (r ∷ rs) ≡ [] → ⊥
    some_starts r rs e = cc

-- a spread remains one
spread_stays : (s : Spread) (rs : List Run) → spread_of (Some s) rs ≡ None → ⊥
unfolding spread_of
spread_stays s [] e = let h : Some s ≡ None = e in cc
spread_stays s (r ∷ rs) e = elim (cases_Bool r.sure) as (λ _. ⊥) [
  | inl sure ↦ spread_stays (widened (Some s) r) rs (ap (λ x. spread_of x rs) (sym (cond-true r.sure (Some (widened (Some s) r)) (Some s) sure)) ∙ e)
  | inr unsure ↦ spread_stays s rs (ap (λ x. spread_of x rs) (sym (cond-false r.sure (Some (widened (Some s) r)) (Some s) unsure)) ∙ e)
]

no_starts : (rs : List Run) → spread_of None rs ≡ None → sure_starts rs ≡ []
unfolding sure_runs spread_of
no_starts [] e = refl
no_starts (r ∷ rs) e = elim (cases_Bool r.sure) as (λ _. map (λ r. unsigned_abs r.start) (if r.sure then r ∷ sure_runs rs else sure_runs rs) ≡ []) [
  | inl sure ↦ absurd (spread_stays (widened None r) rs (ap (λ s. spread_of s rs) (sym (cond-true r.sure (Some (widened None r)) None sure)) ∙ e))
  | inr unsure ↦ ap (λ rs. map (λ r. unsigned_abs r.start) rs) (cond-false r.sure (r ∷ sure_runs rs) (sure_runs rs) unsure)
      ∙ no_starts rs (ap (λ s. spread_of s rs) (sym (cond-false r.sure (Some (widened None r)) None unsure)) ∙ e)
]

nothing_in : (xs : List ℕ) → ((x : ℕ) → Contains xs x → ⊥) → xs ≡ []
nothing_in [] h = refl
nothing_in (x ∷ xs) h = absurd (h x (0, (omega arith), refl))

none_in : (xs : List ℕ) (x : ℕ) → xs ≡ [] → Contains xs x → ⊥
none_in xs x e c = let h = subst (λ ys. Contains ys x) e c in let lt = h.1 in omega arith

no_limit : (n : ℕ) (sp : Option Spread) → limit_of n sp ≡ None → sp ≡ None
no_limit n None e = refl
no_limit n (Some s) e = cc

no_limit_some : (limit : ℕ) → Some limit ≡ None → ⊥
no_limit_some limit e = cc

pub longer : (d e lines : ℕ) → d ≤ e → d * lines ≤ e * lines
longer zero e lines le = omega arith
longer (suc d) zero lines le = absurd (omega arith)
longer (suc d) (suc e) lines le = let h = longer d e lines (omega arith) in omega arith

-- the starts found rise
pub found_rise : (cycle : List (List ℕ)) → 1 ≤ length cycle → length cycle ≤ 65536 → (id : Id) (lines repeat : ℕ) (item : Item) →
    Rising (starts_of cycle lines repeat id item)
found_rise cycle some most id lines repeat item i j lt in_range = rising_pairs None (starts_of cycle lines repeat id item) i j 0
    (starts_rise (length cycle) (run_length repeat item - 1) (sent_in cycle id lines item)
    (told_in_order cycle some id lines item most (sent_in cycle id lines item) (sent_told cycle some id lines item))) lt
    in_range

-- a certificate that accepts the page shows each of its items
pub accepted_shows : (cycle : List (List ℕ)) (p : Page) (class : Class) (repeat lines : ℕ) (pages : List Page) (e : ℕ) →
    CanAccept cycle pages p class repeat lines e → (item : Item) → needed p item ≡ true →
    CanShow cycle p class repeat lines item e
accepted_shows cycle p class repeat lines pages e c item seen = record { w = c.w; is = c.is; shows = c.accepts.shows item seen }

module _ (turn : EachSlotTurns) (found : SureStartsAreFound) (law : LeastLimitIsFound) (cycle : List (List ℕ)) (some : 1 ≤ length cycle)
    (most : length cycle ≤ 65536) (p : Page)
    (tested : (item : Item) → needed p item ≡ true → is_blank p item ≡ true ↔ IsBlank p item) where
  -- what a certificate shows, it shows within its limit
  covered_fits : (v : Certificate) → 1 ≤ v.repeat → (item : Item) → IsCovered cycle p v item →
      IsEnough (least_limit cycle v.lines v.repeat p.id item) (limit v)
  covered_fits v repeats item c = go (spread_at cycle v.lines v.repeat p.id item) refl
    where
      go : (sp : Option Spread) → spread_at cycle v.lines v.repeat p.id item ≡ sp → IsEnough (limit_of (length cycle) sp) (limit v)
      go None e = absurd ((law cycle some p v item (run_length v.repeat item - 1) (run_some v.repeat item repeats)).0 e c)
      go (Some s) e = ((law cycle some p v item (run_length v.repeat item - 1) (run_some v.repeat item repeats)).1 s e).0 c

  shown_next : (v : Certificate) (item : Item) → ShowsItem cycle p v item → (tau : ℤ) → Next cycle p (limit v) tau
  shown_next v item (inl c) = next_covered cycle p v item c
  shown_next v item (inr l) = l.in_time

  shown_covered : (v : Certificate) (item : Item) → is_due v.class p item ≡ true → ShowsItem cycle p v item → IsCovered cycle p v item
  shown_covered v item due (inl c) = c
  shown_covered v item due (inr l) = absurd
      (both_ways (is_blank p item) (due_not_blank v.class p item l.clearing due)
      ((tested item (due_needed v.class p item due)).1 l.blank))

  shown_fits : (v : Certificate) → 1 ≤ v.repeat → (item : Item) → ShowsItem cycle p v item →
      IsEnough (limit_for cycle v.class v.lines v.repeat p item) (limit v)
  shown_fits v repeats item shows = cond_both (is_due v.class p item) (least_limit cycle v.lines v.repeat p.id item)
      (least_limit cycle v.lines 1 p.id TheHead) (λ o. IsEnough o (limit v))
      (λ due. covered_fits v repeats item (shown_covered v item due shows))
      (λ not_due. (next_fits turn found law cycle some p v.lines v.deadline (spread_at cycle v.lines 1 p.id TheHead) refl).0
      (shown_next v item shows))

  module _ (class : Class) (repeat lines : ℕ) where
    pub can_fits : (item : Item) (e : ℕ) → CanShow cycle p class repeat lines item e →
        IsEnough (limit_for cycle class lines repeat p item) (e * lines)
    can_fits item e c =
        subst (λ x. IsEnough (limit_for cycle x lines repeat p item) (e * lines)) c.is.same_class
        (subst (λ x. IsEnough (limit_for cycle c.w.class lines x p item) (e * lines)) c.is.same_repeat
        (subst (λ x. IsEnough (limit_for cycle c.w.class x c.w.repeat p item) (e * x)) c.is.same_lines
        (subst (λ x. IsEnough (limit_for cycle c.w.class c.w.lines c.w.repeat p item) (x * c.w.lines)) c.is.same_deadline
        (shown_fits c.w c.is.is.some_repeats item c.shows))))

    -- with a limit that is enough, a certificate that names every start of a sure run shows an item
    pub named_shows : 1 ≤ repeat → (names : Id → Item → List ℕ) →
        ((item : Item) → names p.id item ≡ starts_for cycle class lines repeat p item) → (item : Item) → needed p item ≡ true →
        (d : ℕ) →
        IsEnough (limit_for cycle class lines repeat p item) (d * lines) →
        ShowsItem cycle p (record { lines = lines; repeat = repeat; deadline = d; class = class; starts = names }) item
    named_shows repeats names named item seen d fits =
        elim (cases_Bool (is_due class p item)) as
        (λ _. ShowsItem cycle p (record { lines = lines; repeat = repeat; deadline = d; class = class; starts = names }) item) [
          | inl due ↦ inl (due_shows due (spread_at cycle lines repeat p.id item) refl
              (subst (λ x. IsEnough x (d * lines))
              (cond-true (is_due class p item) (least_limit cycle lines repeat p.id item)
              (least_limit cycle lines 1 p.id TheHead) due) fits))
          | inr not_due ↦
              let left = not_due_is class p item seen not_due in
              inr (record {
                clearing = left.0;
                blank = (tested item seen).0 left.1;
                no_line = named item ∙ cond-false (is_due class p item) (starts_of cycle lines repeat p.id item) [] not_due;
                in_time = (next_fits turn found law cycle some p lines d (spread_at cycle lines 1 p.id TheHead) refl).1
                    (subst (λ x. IsEnough x (d * lines))
                    (cond-false (is_due class p item) (least_limit cycle lines repeat p.id item)
                    (least_limit cycle lines 1 p.id TheHead) not_due) fits);
              })
        ]
      where
        due_shows : is_due class p item ≡ true → (sp : Option Spread) → spread_at cycle lines repeat p.id item ≡ sp →
            IsEnough (limit_of (length cycle) sp) (d * lines) →
            IsCovered cycle p (record { lines = lines; repeat = repeat; deadline = d; class = class; starts = names }) item
        due_shows due None e f = absurd f
        due_shows due (Some s) e f = ((law cycle some p
            (record { lines = lines; repeat = repeat; deadline = d; class = class; starts = names }) item
            (run_length repeat item - 1) (run_some repeat item repeats)).1 s e).1
            (named item ∙ cond-true (is_due class p item) (starts_of cycle lines repeat p.id item) [] due) f

    module _ (some_lines : 1 ≤ lines) (few_lines : lines ≤ 32) (repeats : 1 ≤ repeat) (few_repeats : repeat ≤ 8) where
      -- the certificate that names every start of a sure run of the page
      abbrev full : ℕ → Certificate
      full d = record { lines = lines; repeat = repeat; deadline = d; class = class; starts = λ id item. starts_for cycle class lines repeat p item }

      full_rises : (item : Item) → Rising (starts_for cycle class lines repeat p item)
      full_rises item = cond_both (is_due class p item) (starts_of cycle lines repeat p.id item) [] Rising
          (λ due. found_rise cycle some most p.id lines repeat item) (λ not_due. none_rise)

      full_is : (d : ℕ) → 1 ≤ d → d ≤ 1000000 → IsFor class repeat lines d (full d)
      full_is d low high = record {
        is = record {
          some_lines = some_lines;
          few_lines = few_lines;
          some_repeats = repeats;
          few_repeats = few_repeats;
          some_fields = low;
          few_fields = high;
          rising = λ page item. full_rises item;
        };
        same_class = refl;
        same_repeat = refl;
        same_lines = refl;
        same_deadline = refl;
      }

      full_shows : (item : Item) → needed p item ≡ true → (d : ℕ) → IsEnough (limit_for cycle class lines repeat p item) (d * lines) →
          ShowsItem cycle p (full d) item
      full_shows = named_shows repeats (λ id item. starts_for cycle class lines repeat p item) (λ item. refl)

      -- an item's own least deadline is the least with which a certificate shows the item
      own_fits : (item : Item) (d e : ℕ) → IsOwnDeadline cycle p class repeat lines item d → d ≤ e →
          IsEnough (limit_for cycle class lines repeat p item) (e * lines)
      own_fits item d e own le = subst (λ o. IsEnough o (e * lines)) (sym own.is) (let a = own.least.2 in let b = longer d e lines le in omega arith)

      own_shows : (item : Item) → needed p item ≡ true → (d : ℕ) → IsOwnDeadline cycle p class repeat lines item d →
          CanShow cycle p class repeat lines item d
      own_shows item seen d own = record {
        w = full d;
        is = full_is d own.least.0 own.least.1;
        shows = full_shows item seen d (own_fits item d d own (omega arith));
      }

      own_least : (item : Item) (d : ℕ) → IsOwnDeadline cycle p class repeat lines item d → (e : ℕ) →
          CanShow cycle p class repeat lines item e → d ≤ e
      own_least item d own e c = own.least.3 e (subst (λ x. 1 ≤ x) c.is.same_deadline c.is.is.some_fields)
          (subst (λ o. IsEnough o (e * lines)) own.is (can_fits item e c))

      pub item_least : (item : Item) → needed p item ≡ true → (d : ℕ) → IsOwnDeadline cycle p class repeat lines item d →
          IsLeast (CanShow cycle p class repeat lines item) (Some d)
      item_least item seen d own = (own_shows item seen d own, own_least item d own)

      pub item_never : (item : Item) → limit_for cycle class lines repeat p item ≡ None → IsLeast (CanShow cycle p class repeat lines item) None
      item_never item e = λ d c. subst (λ o. IsEnough o (d * lines)) e (can_fits item d c)

      -- an item that is due and has no sure start is never shown
      pub no_start_never : (item : Item) → HasNoSureStart cycle p class repeat lines item → IsLeast (CanShow cycle p class repeat lines item) None
      no_start_never item n =
          let none = nothing_in (starts_of cycle lines repeat p.id item)
          (λ start c. n.none start ((found cycle some p.id lines repeat item (run_length repeat item - 1)
          (run_some repeat item repeats) start).0 c)) in
          item_never item (cond-true (is_due class p item) (least_limit cycle lines repeat p.id item)
          (least_limit cycle lines 1 p.id TheHead) n.due ∙ ap (limit_of (length cycle)) (no_spread _ none))

      module _ (pages : List Page) (steady : Steady (repeated cycle) pages p) where
        wait_fields : (d : ℕ) (item : Item) → IsLongest cycle p class repeat lines 26 d item → IsWait cycle pages p class repeat lines (Fields d item)
        wait_fields d item h = go h.first
          where
            below_shows : (other : Item) → needed p other ≡ true → IsBelow cycle p class repeat lines other (d + 1) → 1 ≤ d → d
                ≤ 1000000 → ShowsItem cycle p (full d) other
            below_shows other seen b low high = full_shows other seen d (own_fits other b.deadline d b.own (let lt = b.below in omega arith))

            smaller : (other : Item) → IsBelow cycle p class repeat lines other d → Needs cycle p class repeat lines d other → ⊥
            smaller other b n = let le = n.least b.deadline (own_shows other n.seen b.deadline b.own) in let lt = b.below in omega arith

            go : (d ≡ 0) ⊎ IsFirstLongest cycle p class repeat lines 26 d item → IsWait cycle pages p class repeat lines (Fields d item)
            go (inl e) = absurd (let links = h.all TheLinks refl (omega arith) in let a = links.own.least.0 in let b = links.below in omega arith)
            go (inr f) = record {
              least = (
                record {
                  w = full d;
                  is = full_is d f.own.least.0 f.own.least.1;
                  accepts = record {
                    steady = steady;
                    shows = λ other seen. below_shows other seen
                        (h.all other seen (item_small other (item_needed p other seen))) f.own.least.0 f.own.least.1;
                  };
                },
                (λ e c. own_least item d f.own e (accepted_shows cycle p class repeat lines pages e c item f.seen)),
              );
              reason = record {
                here = record { seen = f.seen; least = own_least item d f.own };
                none_before = λ other lt n.
                    smaller other (f.first other n.seen lt) n;
              };
            }

        -- an item that is due and has no limit has no sure start
        no_limit_none : (item : Item) → is_due class p item ≡ true → limit_for cycle class lines repeat p item ≡ None → (start : ℕ) →
            IsSureStart cycle p.id lines repeat item start → ⊥
        no_limit_none item due e start is =
            none_in (starts_of cycle lines repeat p.id item) start
            (no_starts _ (no_limit (length cycle) (spread_at cycle lines repeat p.id item)
            (sym (cond-true (is_due class p item) (least_limit cycle lines repeat p.id item)
            (least_limit cycle lines 1 p.id TheHead) due) ∙ e)))
            ((found cycle some p.id lines repeat item (run_length repeat item - 1) (run_some repeat item repeats) start).1 is)

        -- an item that is not due has a limit, since the page has a header
        head_limit : least_limit cycle lines 1 p.id TheHead ≡ None → ⊥
        head_limit e = none_in (found_starts cycle p.id lines TheHead 0) (turned (length cycle) steady.header.slot)
            (no_starts _ (no_limit (length cycle) (spread_at cycle lines 1 p.id TheHead) e))
            (named_head turn found law cycle some p lines 1 steady.header.slot steady.header.is_header)

        unsure_due : (item : Item) → limit_for cycle class lines repeat p item ≡ None → is_due class p item ≡ true
        unsure_due item e = elim (cases_Bool (is_due class p item)) as (λ _. is_due class p item ≡ true) [
          | inl due ↦ due
          | inr not_due ↦ absurd (head_limit
              (sym (cond-false (is_due class p item) (least_limit cycle lines repeat p.id item)
              (least_limit cycle lines 1 p.id TheHead) not_due) ∙ e))
        ]

        -- an item with a limit has a sure start
        sure_below : (other : Item) (bound : ℕ) → IsBelow cycle p class repeat lines other bound → HasNoSureStart cycle p class repeat lines other → ⊥
        sure_below other bound b n =
            let none = nothing_in (starts_of cycle lines repeat p.id other)
            (λ start c. n.none start ((found cycle some p.id lines repeat other (run_length repeat other - 1)
            (run_some repeat other repeats) start).0 c)) in
            let limit : limit_for cycle class lines repeat p other ≡ None =
            cond-true (is_due class p other) (least_limit cycle lines repeat p.id other)
            (least_limit cycle lines 1 p.id TheHead) n.due ∙ ap (limit_of (length cycle)) (no_spread _ none) in
            no_limit_some b.own.limit (sym b.own.is ∙ limit)

        none_accepts : (item : Item) → needed p item ≡ true → ((e : ℕ) → CanShow cycle p class repeat lines item e → ⊥) → (e : ℕ) →
            CanAccept cycle pages p class repeat lines e → ⊥
        none_accepts item seen none e c = none e (accepted_shows cycle p class repeat lines pages e c item seen)

        wait_unsure : (item : Item) (losses : Losses) → IsWaitByLimits cycle p class repeat lines (Unsure item losses) →
            IsWait cycle pages p class repeat lines (Unsure item losses)
        wait_unsure item losses h = record {
          least = none_accepts item h.0 (λ e c. subst (λ o. IsEnough o (e * lines)) h.1 (can_fits item e c));
          reason = (
            steady,
            record {
              here = record { due = unsure_due item h.1; none = no_limit_none item (unsure_due item h.1) h.1 };
              none_before = λ other lt n. sure_below other h.2.0 (h.2.1 other (due_needed class p other n.due) lt) n;
            },
            h.3,
          );
        }

        pub wait_limits : (wait : Wait) → IsWaitByLimits cycle p class repeat lines wait → IsWait cycle pages p class repeat lines wait
        wait_limits (Fields d item) h = wait_fields d item h
        wait_limits (Faulty reason) h = absurd h
        wait_limits (Unsure item losses) h = wait_unsure item losses h

-- a page that is not steady has no deadline
pub wait_faulty : SteadyHasNoFault → (cycle : List (List ℕ)) (pages : List Page) (p : Page) (class : Class) (repeat lines : ℕ)
    (reason : Reason) → IsPageFault cycle pages p (Some reason) →
    IsWait cycle pages p class repeat lines (Faulty reason)
wait_faulty law cycle pages p class repeat lines reason fault = record {
  least = λ e c. some_is_none reason ((law cycle pages p (Some reason) fault).1 c.accepts.steady);
  reason = fault;
}
  where
    some_is_none : (reason : Reason) → Some reason ≡ None → ⊥
    some_is_none reason e = cc

-- the waits for the first m pages
pub record AreTold (cycle : List (List ℕ)) (pages : List PageValue) (class : Class) (repeat lines m : ℕ) (told : List PageWait) : Type 0 where
  pub count : length told ≡ m
  pub each : (index : ℕ) (p : Page) → index < m → slice_get (map page_of pages) index ≡ Some p →
      IsPageTold cycle (map page_of pages) class repeat lines index p told

pub none_told : (cycle : List (List ℕ)) (pages : List PageValue) (class : Class) (repeat lines : ℕ) → AreTold cycle pages class repeat lines 0 []
none_told cycle pages class repeat lines = record { count = refl; each = λ index p lt. absurd (omega arith) }

pub one_told : (cycle : List (List ℕ)) (pages : List PageValue) (class : Class) (repeat lines m : ℕ) (told : List PageWait)
    (answer : PageWait) (p : Page) → slice_get (map page_of pages) m ≡ Some p →
    answer.page ≡ p.id → IsWait cycle (map page_of pages) p class repeat lines answer.wait →
    AreTold cycle pages class repeat lines m told → AreTold cycle pages class repeat lines (m + 1) (told ++ answer ∷ [])
one_told cycle pages class repeat lines m told answer p at page wait h = record {
  count = let l = length-append told (answer ∷ []) in let k = h.count in omega arith;
  each = λ index q lt there. elim (cases_lt index m) as (λ _. IsPageTold cycle (map page_of pages) class repeat lines index q (told ++ answer ∷ [])) [
    | inl low ↦ let t = h.each index q low there
        in record {
          answer = t.answer;
          at = before_here told (answer ∷ []) index (let k = h.count in omega arith) ∙ t.at;
          page = t.page;
          wait = t.wait;
        }
    | inr high ↦
        let same : index ≡ m = omega arith in
        let here : slice_get (map page_of pages) m ≡ Some q = subst (λ i. slice_get (map page_of pages) i ≡ Some q) same there in
        let one : p ≡ q = cc in
        record {
          answer = answer;
          at = ap (slice_get (told ++ answer ∷ [])) (let k = h.count in let e : index ≡ length told = omega arith in e) ∙ last_here told answer;
          page = page ∙ ap (λ x. x.id) one;
          wait = subst (λ x. IsWait cycle (map page_of pages) x class repeat lines answer.wait) one wait;
        }
  ];
}

pub all_told : (cycle : List (List ℕ)) (pages : List PageValue) (class : Class) (repeat lines m : ℕ) (told : List PageWait) → m
    ≡ length pages → AreTold cycle pages class repeat lines m told →
    AreWaits cycle (map page_of pages) class repeat lines told
all_told cycle pages class repeat lines m told e h = record {
  count = let l = length-map pages page_of in let k = h.count in omega arith;
  each = λ index p at. h.each index p (let w = slice_get_within (map page_of pages) index p at in let l = length-map pages page_of in omega arith) at;
}
