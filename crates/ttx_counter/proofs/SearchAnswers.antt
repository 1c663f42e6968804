-- The answers of the search for counter-runs, page by page.
use Rattle.std.proofs.Common.{◌≡◌, ◌⊎◌, ◌↔◌, ℕ, zero, suc, ◌+◌, ◌<◌, pos, Bool, true, false, ◌&&◌, List, [], ◌∷◌, length, map, slice_get, Option}
use Rattle.std.proofs.Common.{Some, None, Result, Ok, Err, IfOk, refl, sym, ap, ◌∙◌, subst, inl, inr, arith, leb-true}
use Rattle.std.specs.List.{Contains}
use Rattle.std.specs.Prelude.{is_some}
use Rattle.std.proofs.lemmas.Bool.{cases_lt, and_parts}
use Rattle.ttx_page.specs.Pages.{Page, IsPage, needed}
use Rattle.ttx_page.specs.declared.item.Item.{Item}
use Rattle.ttx_page.specs.declared.item.Item.TheVariants.{Head as TheHead, Row as TheRow, Links as TheLinks}
use Rattle.ttx_page.specs.Memories.{IsMemory}
use Rattle.ttx_page.specs.Steady.{Steady, HasHeader, HasNoHeader}
use Rattle.ttx_page.specs.Streams.{repeated}
use Rattle.ttx_receiver.specs.Starving.{wrong_memory}
use Rattle.ttx_cycle.specs.Files.{IsCycle}
use Rattle.ttx_witness.specs.sent.Collected.{IsItem, item_number}
use Rattle.ttx_witness.specs.Coverage.{Certificate, IsCertificate, limit, IsSureStart, IsCovered}
use Rattle.ttx_page.specs.Laws.{PagesKeepTheirRules}
use Rattle.ttx_page.specs.declared.page.Page.{Page as PageValue}
use Rattle.ttx_page.specs.declared.class.Class.TheVariants.{Any}
use Rattle.ttx_page.specs.Views.{page_of}
use Rattle.ttx_certify.specs.Laws.{ArePages}
use Rattle.ttx_witness.specs.laws.CycleLaws.{FurtherStartsCover}
use Rattle.ttx_witness.specs.search.Finding.{IsSentUnchanged, CanBeAccepted}
use Rattle.ttx_counter.specs.Laws.{RefutedIsNotAccepted}
use Rattle.ttx_witness.specs.faults.Faults.{IsPageFault, SteadyHasNoFault}
use Rattle.ttx_witness.specs.declared.faults.reason.Reason.{Reason}
use Rattle.ttx_witness.specs.declared.faults.reason.Reason.TheVariants.{BadSlot, NoHeader, OtherSubpage, Erased, HeadDiffers, RowDiffers, LinksDiffer}
use Rattle.ttx_witness.specs.declared.faults.reason.Reason.TheVariants.{NoWitness, WitnessBad, Late, Unsteady, LateBlank}
use Rattle.ttx_counter.specs.Counters.{CounterRun, IsCounterRun}
use Rattle.ttx_counter.specs.StarvingRuns.{starving_run}
use Rattle.ttx_counter.specs.Sources.{plain_counter, PlainRunsAreCounterRuns, AbsentPagesAreWrong, IsPlainlyRight}
use Rattle.ttx_counter.specs.Starving.{fullest, IsCoveredByOne}
use Rattle.ttx_certify.specs.Verdicts.{IsClean}
use Rattle.ttx_counter.specs.Completeness.{StarvingIsCounterRun, FullestNamesAll, StarvedIsNotCovered}
use Rattle.ttx_counter.specs.Refutations.{is_absent, NamesSureStarts, IsCounterTo, IsSentWell, TellsStart, TellsNeeded, TellsCovered, TellsPage}
use Rattle.ttx_counter.specs.Refutations.{TellsPages, TellsPlainly, TellsAllPlainly, TellsCounter, IsCounterOf, IsFirstUnsent, IsFirstWrong, TellsFirst}
use Rattle.ttx_counter.proofs.CheckIsExact.{same_page}
use Rattle.ttx_counter.proofs.PlainRuns.{numbers_of, plain_to}
use Rattle.ttx_counter.proofs.StarvedIsUnseen.{other_is}

differ : false ≡ true → ⊥
differ e = cc

differ_too : true ≡ false → ⊥
differ_too e = cc

pub ok_map : {A E : Type 0} (P Q : A → Type 0) (r : Result A E) → ((a : A) → P a → Q a) → IfOk r P → IfOk r Q
ok_map P Q (Ok a) f h = f a h
ok_map P Q (Err e) f h = h

-- what a viewer sees is an item of the page
needed_item : (p : Page) (item : Item) → needed p item ≡ true → IsItem item
needed_item p TheHead h = tt
needed_item p (TheRow r) h =
    let a = (and_parts _ _ (and_parts _ _ (and_parts _ _ h).0).0).0 in
    let b = (and_parts _ _ (and_parts _ _ (and_parts _ _ h).0).0).1 in
    (leb-true 1 r a, leb-true r 24 b)
needed_item p TheLinks h = tt

item_within : (item : Item) → IsItem item → item_number item < 26
item_within TheHead i = omega arith
item_within (TheRow r) i = let b = i.1 in omega arith
item_within TheLinks i = omega arith

-- an item is known by its number
one_item : (a b : Item) → IsItem a → IsItem b → item_number a ≡ item_number b → a ≡ b
one_item TheHead TheHead i j e = refl
one_item TheHead (TheRow r) i j e = let l = j.0 in absurd (omega arith)
one_item TheHead TheLinks i j e = absurd (omega arith)
one_item (TheRow r) TheHead i j e = let l = i.0 in absurd (omega arith)
one_item (TheRow r) (TheRow q) i j e = ap TheRow e
one_item (TheRow r) TheLinks i j e = let l = i.1 in absurd (omega arith)
one_item TheLinks TheHead i j e = absurd (omega arith)
one_item TheLinks (TheRow r) i j e = let l = j.1 in absurd (omega arith)
one_item TheLinks TheLinks i j e = refl

module _ (cycle : List (List ℕ)) (pages : List Page) (w : Certificate) where
  pub starved_to : StarvingIsCounterRun → (p : Page) (index : ℕ) → slice_get pages index ≡ Some p → IsCycle cycle → IsPage p →
      IsCertificate w → IsClean cycle → Steady (repeated cycle) pages p →
      (item : Item) (start : ℕ) → TellsNeeded cycle p w item (Some start) → (l r d : ℕ) → l ≡ w.lines → r ≡ w.repeat → d ≡ w.deadline →
      (run : CounterRun) → run ≡ starving_run cycle index p item start l r d → IsCounterTo cycle pages w run
  starved_to law p index here is_cycle page is clean steady item start starved l r d el er ed run made = record {
    is = subst (IsCounterRun cycle pages) (sym (made ∙ (λ i. starving_run cycle index p item start (el i) (er i) (ed i))))
        (law cycle pages p w index here is_cycle page is clean steady item starved.0 start starved.1);
    lines = ap (λ (x : CounterRun). x.lines) made ∙ el;
    repeat = ap (λ (x : CounterRun). x.repeat) made ∙ er;
    deadline = ap (λ (x : CounterRun). x.deadline) made ∙ ed;
  }

  -- it is of the page at the index, which no certificate with these numbers covers
  pub starved_of : StarvingIsCounterRun → (p : Page) (index : ℕ) → slice_get pages index ≡ Some p → IsCycle cycle → IsPage p →
      IsCertificate w → IsClean cycle → Steady (repeated cycle) pages p →
      (item : Item) (start : ℕ) → TellsNeeded cycle p w item (Some start) →
      (run : CounterRun) → run ≡ starving_run cycle index p item start w.lines w.repeat w.deadline → StarvedIsNotCovered →
      IsCounterOf cycle pages w index run × (IsCoveredByOne cycle p w → ⊥)
  starved_of law p index here is_cycle page is clean steady item start starved run made never = (
    (
      starved_to law p index here is_cycle page is clean steady item start starved w.lines w.repeat w.deadline refl refl refl run made,
      ap (λ (x : CounterRun). x.page) made,
    ),
    never cycle (let some = is_cycle.some in omega arith) p w item starved.0 start starved.1,
  )

  pub named_for : (found : Certificate) → NamesSureStarts cycle pages w found → (index : ℕ) (p : Page) → slice_get pages index ≡ Some p →
      (item : Item) → IsItem item → needed p item ≡ true → (starts : List ℕ) → starts ≡ found.starts p.id item →
      (start : ℕ) → Contains starts start ↔ IsSureStart cycle p.id w.lines w.repeat item start
  named_for found names index p here item is need starts e start =
      let n = names index p here item is start in (
        (λ c. (n.0 (subst (λ xs. Contains xs start) e c)).1),
        (λ s. subst (λ xs. Contains xs start) (sym e) (n.1 (need, s))),
      )

  pub needed_told : (p : Page) (item : Item) → needed p item ≡ true → (o : Option ℕ) → TellsStart cycle p w item o → TellsNeeded cycle p w item o
  needed_told p item need None t = λ _. t
  needed_told p item need (Some start) t = (need, t)

  module _ (p : Page) where
    -- the items whose numbers are below n are covered
    abbrev pub CoveredTo : ℕ → Type 0
    CoveredTo n = (item : Item) → IsItem item → item_number item < n → needed p item ≡ true → IsCovered cycle p (fullest cycle w) item

    pub covered_more : (n : ℕ) → CoveredTo n → (own : Item) → IsItem own → item_number own ≡ n → (o : Option ℕ) → o ≡ None →
        TellsNeeded cycle p w own o → CoveredTo (n + 1)
    covered_more n before own is place o none told item is_item lt need =
        elim (cases_lt (item_number item) n) as (λ _. IsCovered cycle p (fullest cycle w) item) [
          | inl less ↦ before item is_item less need
          | inr ge ↦
              let same : own ≡ item = one_item own item is is_item (omega arith) in
              let t = subst (TellsNeeded cycle p w own) none told in
              subst (λ x. needed p x ≡ true → IsCovered cycle p (fullest cycle w) x) same t need
        ]

    pub covered_all : CoveredTo 26 → (item : Item) → needed p item ≡ true → IsCovered cycle p (fullest cycle w) item
    covered_all before item need = let i = needed_item p item need in before item i (item_within item i) need

  absent_to : AbsentPagesAreWrong → PlainRunsAreCounterRuns → IsCycle cycle → IsCertificate w → (p : Page) (index : ℕ) →
      slice_get pages index ≡ Some p → HasNoHeader (repeated cycle) p →
      IsMemory (wrong_memory p TheLinks) → (run : CounterRun) → run
      ≡ plain_counter index false (wrong_memory p TheLinks) w.lines w.repeat w.deadline (limit w) →
      IsCounterTo cycle pages w run
  absent_to absent plain is_cycle is p index here none memory run made =
      let former = wrong_memory p TheLinks in
      plain_to cycle pages w index false former (limit w) run made
      (subst (IsCounterRun cycle pages) (sym made)
      (plain cycle pages p index false former w.lines w.repeat w.deadline (limit w) is_cycle here refl memory (numbers_of w is) (omega arith)
      (absent (repeated cycle) p former w.lines (limit w) none refl (other_is p.links.six) (pos 0))))

  -- a page without a header is not sent well
  pub absent_of : AbsentPagesAreWrong → PlainRunsAreCounterRuns → IsCycle cycle → IsCertificate w → (p : Page) (index : ℕ) →
      slice_get pages index ≡ Some p → HasNoHeader (repeated cycle) p →
      IsMemory (wrong_memory p TheLinks) → (run : CounterRun) → run
      ≡ plain_counter index false (wrong_memory p TheLinks) w.lines w.repeat w.deadline (limit w) →
      IsCounterOf cycle pages w index run × (IsSentWell cycle pages p w → ⊥)
  absent_of absent plain is_cycle is p index here none memory run made = (
    (absent_to absent plain is_cycle is p index here none memory run made, ap (λ (x : CounterRun). x.page) made),
    (λ well. let h : false ≡ true = sym (none well.header.slot) ∙ well.header.is_header in differ h),
  )

  module _ (p : Page) where
    pub absent_none : (fault : Option Reason) → IsPageFault cycle pages p fault → is_absent fault ≡ true → HasNoHeader (repeated cycle) p
    absent_none None f e = cc
    absent_none (Some (BadSlot slot)) f e = absurd f
    absent_none (Some (NoHeader page)) f e = f.1
    absent_none (Some (OtherSubpage page slot)) f e = cc
    absent_none (Some (Erased page slot)) f e = cc
    absent_none (Some (HeadDiffers page slot)) f e = cc
    absent_none (Some (RowDiffers page slot)) f e = cc
    absent_none (Some (LinksDiffer page slot)) f e = cc
    absent_none (Some (NoWitness page item)) f e = absurd f
    absent_none (Some (WitnessBad page item start)) f e = absurd f
    absent_none (Some (Late page item start)) f e = absurd f
    absent_none (Some Unsteady) f e = absurd f
    absent_none (Some (LateBlank page item header)) f e = absurd f

    pub header_of : (fault : Option Reason) → IsPageFault cycle pages p fault → is_absent fault ≡ false → HasHeader (repeated cycle) p.id
    header_of None f e = f.header
    header_of (Some (BadSlot slot)) f e = absurd f
    header_of (Some (NoHeader page)) f e = cc
    header_of (Some (OtherSubpage page slot)) f e = f.1
    header_of (Some (Erased page slot)) f e = f.1
    header_of (Some (HeadDiffers page slot)) f e = f.1
    header_of (Some (RowDiffers page slot)) f e = f.1
    header_of (Some (LinksDiffer page slot)) f e = f.1
    header_of (Some (NoWitness page item)) f e = absurd f
    header_of (Some (WitnessBad page item start)) f e = absurd f
    header_of (Some (Late page item start)) f e = absurd f
    header_of (Some Unsteady) f e = absurd f
    header_of (Some (LateBlank page item header)) f e = absurd f

  -- a page that is covered by all sure runs is covered by one certificate
  pub covered_by_one : FullestNamesAll → IsCycle cycle → IsCertificate w → (p : Page) →
      ((item : Item) → needed p item ≡ true → IsCovered cycle p (fullest cycle w) item) → IsCoveredByOne cycle p w
  covered_by_one names is_cycle is p covered = record {
    v = fullest cycle w;
    is = (names cycle is_cycle w is).0;
    same_class = refl;
    same_lines = refl;
    same_repeat = refl;
    same_deadline = refl;
    covered = covered;
  }

  module _ (law : SteadyHasNoFault) (p : Page) (fault : Option Reason) (is : IsPageFault cycle pages p fault) (there : is_absent fault ≡ false) where
    -- with a fault, or a slot that is not clean, coverage is not asked for
    pub well_unless : (clean : Bool) → (clean ≡ true) ↔ IsClean cycle → (clean ≡ false) ⊎ (is_some fault ≡ true) → IsSentWell cycle pages p w
    well_unless clean told why = record {
      header = header_of p fault is there;
      covered = λ cl steady. absurd (elim why as (λ _. ⊥) [
        | inl unclean ↦ let h : true ≡ false = sym (told.1 cl) ∙ unclean in cc
        | inr some ↦ let h : false ≡ true = sym (ap (λ (x : Option Reason). is_some x) ((law cycle pages p fault is).1 steady)) ∙ some in cc
      ]);
    }

    pub steady_if : is_some fault ≡ false → Steady (repeated cycle) pages p
    steady_if e = (law cycle pages p fault is).0 (no_fault fault e)
      where
        no_fault : (o : Option Reason) → is_some o ≡ false → o ≡ None
        no_fault None e = refl
        no_fault (Some r) e = cc

    pub page_told : FullestNamesAll → IsCycle cycle → IsCertificate w → {C : Type 0} → (run : C → CounterRun) → (o : Option C) →
        is_some fault ≡ false → IsClean cycle → (index : ℕ) → TellsCovered run cycle pages index p w o → TellsPage run cycle pages index p w o
    page_told names is_cycle is_w run None none clean index covered =
        record { header = header_of p fault is there; covered = λ _ _. covered_by_one names is_cycle is_w p covered }
    page_told names is_cycle is_w run (Some c) none clean index to = (to.0, (λ well. to.1 (well.covered clean (steady_if none))))

  -- the pages before the index
  abbrev pub SentTo : ℕ → Type 0
  SentTo index = (n : ℕ) (p : Page) → n < index → slice_get pages n ≡ Some p → IsSentWell cycle pages p w

  module _ {C : Type 0} (run : C → CounterRun) where
    module _ (index : ℕ) (before : SentTo index) (p : Page) (here : slice_get pages index ≡ Some p) where
      pub first_told : (o : Option C) → is_some o ≡ true → TellsPage run cycle pages index p w o → TellsPages run cycle pages w o
      first_told None e told = absurd (differ e)
      first_told (Some c) e told = (
        told.0.0,
        subst (IsFirstUnsent cycle pages w) (sym told.0.1) (record { page = p; here = here; unsent = told.1; none_before = before }),
      )

      pub sent_more : (o : Option C) → is_some o ≡ false → TellsPage run cycle pages index p w o → SentTo (index + 1)
      sent_more (Some c) e told = absurd (differ_too e)
      sent_more None e told = λ n q lt at. elim (cases_lt n index) as (λ _. IsSentWell cycle pages q w) [
        | inl less ↦ before n q less at
        | inr ge ↦
            let same : n ≡ index = omega arith in
            subst (λ x. IsSentWell cycle pages x w) (same_page pages index p q here (subst (λ x. slice_get pages x ≡ Some q) same at)) told
      ]

    pub counter_told : (o : Option C) → is_some o ≡ true → TellsPages run cycle pages w o → TellsCounter run cycle pages w o
    counter_told None e t = absurd (differ e)
    counter_told (Some c) e t = t.0

    pub both_told : (a : Option C) → is_some a ≡ false → TellsPages run cycle pages w a → (o : Option C) →
        TellsAllPlainly run cycle pages w o → TellsCounter run cycle pages w o
    both_told (Some c) e t o u = absurd (differ_too e)
    both_told None e t None u = record { sent = t; plain = u }
    both_told None e t (Some c) u = u.0

    -- before the index no plain run ends wrong
    pub wrong_told : (index : ℕ) (any_sub : Bool) → (any_sub ≡ true → IsPlainlyRight cycle pages index false w.lines (limit w)) →
        ((n : ℕ) (other : Bool) → n < index → IsPlainlyRight cycle pages n other w.lines (limit w)) →
        (o : Option C) → is_some o ≡ true → TellsPlainly run cycle pages index any_sub w o → TellsAllPlainly run cycle pages w o
    wrong_told index any_sub right before None e t = absurd (differ e)
    wrong_told index any_sub right before (Some c) e t = (
      t.0.0,
      subst (λ n. IsFirstWrong cycle pages w n (run c).any_sub) (sym t.0.1)
          (subst (IsFirstWrong cycle pages w index) (sym t.1) (record { wrong = t.2; right_by_id = right; none_before = before })),
    )

    pub right_told : (index : ℕ) (any_sub : Bool) (o : Option C) → is_some o ≡ false → TellsPlainly run cycle pages index any_sub w o →
        IsPlainlyRight cycle pages index any_sub w.lines (limit w)
    right_told index any_sub (Some c) e t = absurd (differ_too e)
    right_told index any_sub None e t = t

    pub first_of_pages : (o : Option C) → is_some o ≡ true → TellsPages run cycle pages w o → TellsFirst run cycle pages w o
    first_of_pages None e t = absurd (differ e)
    first_of_pages (Some c) e t = inl t.1

    pub first_of_plain : (a : Option C) → is_some a ≡ false → TellsPages run cycle pages w a → (o : Option C) →
        TellsAllPlainly run cycle pages w o → TellsFirst run cycle pages w o
    first_of_plain (Some c) e t o u = absurd (differ_too e)
    first_of_plain None e t None u = tt
    first_of_plain None e t (Some c) u = inr (t, u.1)

    -- if all is sent unchanged, a counter-run is found if and only if no certificate of class any with these numbers is accepted
    pub exact_told : FullestNamesAll → FurtherStartsCover → RefutedIsNotAccepted → IsCycle cycle → ArePages pages → IsCertificate w →
        w.class ≡ Any → (o : Option C) → TellsCounter run cycle pages w o →
        IsSentUnchanged cycle pages → (is_some o ≡ true) ↔ (CanBeAccepted cycle pages Any w.lines w.repeat w.deadline → ⊥)
    exact_told names further refuted is_cycle are is any (Some c) t unchanged = (
      (λ _ can. refuted cycle pages (run c) can.w is_cycle are can.is t.is
          (record {
            class = can.same_class;
            lines = can.same_lines ∙ sym t.lines;
            repeat = can.same_repeat ∙ sym t.repeat;
            deadline = can.same_deadline ∙ sym t.deadline;
          }) can.accepted),
      (λ _. refl),
    )
    exact_told names further refuted is_cycle are is any None t unchanged = (
      (λ e. cc),
      (λ none. absurd (none (record {
        w = fullest cycle w;
        is = (names cycle is_cycle w is).0;
        same_class = any;
        same_lines = refl;
        same_repeat = refl;
        same_deadline = refl;
        accepted = record {
          clean = unchanged.clean;
          steady = unchanged.steady;
          covered = λ n p here item need. inl (by_fullest p item need ((t.sent n p here).covered unchanged.clean (unchanged.steady n p here)));
        };
      }))),
    )
      where
        -- what some certificate covers, the fullest one covers
        by_fullest : (p : Page) (item : Item) → needed p item ≡ true → IsCoveredByOne cycle p w → IsCovered cycle p (fullest cycle w) item
        by_fullest p item need one =
            let f = names cycle is_cycle w is in
            let covered = one.covered item need in
            further cycle p one.v (fullest cycle w) item one.same_lines one.same_repeat one.same_deadline
            (λ start c. (f.1 p item start).1
            (subst (λ l. IsSureStart cycle p.id l w.repeat item start) one.same_lines
            (subst (λ r. IsSureStart cycle p.id one.v.lines r item start) one.same_repeat (covered.sure start c))))
            (λ start c. (f.1 p item start).0 c) covered

pub are_pages : PagesKeepTheirRules → (pages : List PageValue) → ArePages (map page_of pages)
are_pages rules [] n p e = cc
are_pages rules (x ∷ xs) zero p e = let same : page_of x ≡ p = cc in subst IsPage same (rules x)
are_pages rules (x ∷ xs) (suc n) p e = are_pages rules xs n p e
