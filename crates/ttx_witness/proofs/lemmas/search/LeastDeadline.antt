-- The certificate that names every start of a sure run, and its least deadline.
use Rattle.std.proofs.Common.{◌≡◌, ◌⊎◌, ◌↔◌, ℕ, zero, suc, ◌+◌, ◌-◌, ◌*◌, ◌<◌, ◌≤◌, ℤ, Bool, true, false, not, ◌&&◌, ◌==◌, if◌then◌else◌, List, []}
use Rattle.std.proofs.Common.{◌∷◌, ◌++◌, map, length, get_or, slice_get, slice_index_or, Option, Some, None, unwrap_or, refl, sym, ap, ◌∙◌, subst, inl, inr}
use Rattle.std.proofs.Common.{arith, eqb-true, eq-eqb}
use Rattle.std.specs.List.{All, AllByRecursion, AllPairs, Contains}
use Rattle.std.proofs.lemmas.Option.{slice_get_within, slice_get_cases}
use Rattle.std.proofs.lemmas.List.{length-append}
use Rattle.std.proofs.lemmas.Bool.{cases_lt, leb-true, cases_Bool, and_from, and_parts, both_ways, cond-true, cond-false}
use Rattle.std.specs.Prelude.{nat_le, is_some, MatchOption}
use Rattle.ttx_header.specs.Control.{c10}
use Rattle.ttx_packet.specs.Slots.{is_clean}
use Rattle.std.specs.List.Sorted.{IsPermutation, IsNonDecreasingBy}
use Rattle.std.proofs.lemmas.Bool.Decides.{nat_tests}
use Rattle.std.proofs.lemmas.Map.Keys.{IsDistinct-IsPermutation, IsDistinct-from_apart, apart_from_distinct}
use Rattle.ttx_certificate.specs.EntryViews.{place_in, entries_of}
use Rattle.std.proofs.lemmas.List.Sorted.{All-permutation, Contains-permutation}
use Rattle.ttx_header.specs.Ids.{Id, same_id}
use Rattle.ttx_page.specs.declared.page.Page.{Page as PageValue}
use Rattle.ttx_page.specs.Pages.{Page, IsPage, IsBlank, is_blank, needed}
use Rattle.ttx_page.specs.Laws.{PagesKeepTheirRules, PagesHaveSixLinks, BlankIsTested, EachSlotTurns}
use Rattle.ttx_page.specs.Views.{page_of}
use Rattle.ttx_page.specs.Streams.{run_length, repeated}
use Rattle.ttx_page.specs.Steady.{Steady}
use Rattle.ttx_witness.specs.faults.Reasons.{BadSlotAt}
use Rattle.ttx_witness.specs.faults.Faults.{IsPageFault, AreFaults, HaveFaults}
use Rattle.ttx_witness.specs.declared.faults.reason.Reason.{Reason}
use Rattle.ttx_witness.specs.declared.faults.reason.PageFault.{PageFault}
use Rattle.ttx_witness.proofs.lemmas.faults.NoFault.{steady_has_no_fault}
use Rattle.ttx_witness.proofs.lemmas.GrownLists.{before_here, last_here}
use Rattle.ttx_page.specs.declared.item.Item.{Item}
use Rattle.ttx_page.specs.declared.item.Item.TheVariants.{Head as TheHead, Row as TheRow, Links as TheLinks}
use Rattle.ttx_page.specs.declared.class.Class.{Class}
use Rattle.ttx_page.specs.declared.class.Class.TheVariants.{Any, Clearing}
use Rattle.ttx_witness.specs.sent.Collected.{IsItem, item_number}
use Rattle.ttx_certificate.specs.Entries.{are_numbers, is_above, rises, rises_above, entry_places, same_item, starts_in, certificate_fields_at}
use Rattle.ttx_certificate.specs.Entries.{certificate_at}
use Rattle.ttx_certificate.specs.declared.entries.Entry.{Entry}
use Rattle.ttx_witness.specs.runs.SureStarts.{Spread}
use Rattle.ttx_witness.specs.Coverage.{Certificate, limit, IsSureStart, IsCovered, IsLeftOut, Accepts}
use Rattle.ttx_witness.specs.laws.CycleLaws.{SureStartsAreFound, LeastLimitIsFound}
use Rattle.ttx_witness.specs.search.Finding.{is_due, starts_of, spread_at, starts_for, limit_for, IsEnough, limit_of, least_limit, IsDone}
use Rattle.ttx_witness.specs.search.Finding.{NamesStarts, HasEntry, same_place, AreNamed, IsSentUnchanged, IsLeastField, IsDeadline, CanBeAccepted}
use Rattle.ttx_witness.specs.search.Finding.{IsLeastDeadline, IsFoundFor}
use Rattle.ttx_witness.proofs.lemmas.sent.PageIndexes.{same_one, same_self}
use Rattle.ttx_witness.proofs.lemmas.sent.AllLists.{all_by_recursion, place_below}
use Rattle.ttx_witness.proofs.lemmas.search.DueItems.{AreApart, item_one, all_more}
use Rattle.ttx_witness.proofs.lemmas.search.HeaderLimits.{Next, next_covered, next_fits}
use Rattle.ttx_witness.proofs.lemmas.sent.RunLengths.{run_some}

-- an entry of the item that names these starts
abbrev NamesFor : Id → Item → List ℕ → Entry → Type 0
NamesFor id item x e = e.page ≡ id → item_number e.item ≡ item_number item → e.starts.items ≡ x

starts_at : (id : Id) (item : Item) (x : List ℕ) (es : List Entry) → AllByRecursion (NamesFor id item x) es → (x ≡ [])
    ⊎ HasEntry es id item → starts_in (entries_of es) id item ≡ x
starts_at id item x [] a (inl e) = sym e
starts_at id item x [] a (inr h) = absurd (let lt = h.among.1 in omega arith)
starts_at id item x (e ∷ es) a h = elim (cases_Bool (same_id e.page id && same_item e.item item)) as
    (λ _. (if same_id e.page id && same_item e.item item then e.starts.items else starts_in (entries_of es) id item) ≡ x) [
      | inl t ↦ cond-true (same_id e.page id && same_item e.item item) _ _ t
          ∙ a.0 (same_one e.page id ((and_parts _ _ t).0)) (eqb-true _ _ ((and_parts (same_id e.page id) _ t).1))
      | inr f ↦ cond-false (same_id e.page id && same_item e.item item) _ _ f ∙ starts_at id item x es a.1 (rest f h)
    ]
  where
    here : (f : Entry) → e ≡ f → f.page ≡ id → f.item ≡ item → (same_id e.page id && same_item e.item item) ≡ true
    here f same page number = and_from _ _ (subst (λ y. same_id y id ≡ true) (sym (ap (λ y. y.page) same ∙ page)) (same_self id))
        (eq-eqb _ _ (ap (λ y. item_number y.item) same ∙ ap item_number number))

    later_one : (f : Entry) (k : ℕ) → (same_id e.page id && same_item e.item item) ≡ false → k < length (e ∷ es) → get_or (e ∷ es) k f
        ≡ f → f.page ≡ id → f.item ≡ item → Contains es f
    later_one f zero other lt is page number = absurd (both_ways _ other (here f is page number))
    later_one f (suc k) other lt is page number = (k, (omega arith), is)

    rest : (same_id e.page id && same_item e.item item) ≡ false → (x ≡ []) ⊎ HasEntry (e ∷ es) id item → (x ≡ []) ⊎ HasEntry es id item
    rest other (inl q) = inl q
    rest other (inr h) = inr (record {
      entry = h.entry;
      among = later_one h.entry h.among.0 other h.among.1 h.among.2 h.of_page h.of_item;
      of_page = h.of_page;
      of_item = h.of_item;
    })

pub item_needed : (p : Page) (item : Item) → needed p item ≡ true → IsItem item
item_needed p TheHead n = tt
item_needed p (TheRow r) n =
    let range = (and_parts (nat_le 1 r && nat_le r 24) (not (c10 p.control))
    (and_parts (nat_le 1 r && nat_le r 24 && not (c10 p.control)) _ n).0).0 in
    (leb-true 1 r ((and_parts (nat_le 1 r) (nat_le r 24) range).0), leb-true r 24 ((and_parts (nat_le 1 r) (nat_le r 24) range).1))
item_needed p TheLinks n = tt

pub due_needed : (class : Class) (p : Page) (item : Item) → is_due class p item ≡ true → needed p item ≡ true
due_needed Any p item e = e
due_needed Clearing p item e = (and_parts (needed p item) (not (is_blank p item)) e).0

not_is : (b : Bool) → not b ≡ true → b ≡ false
not_is true e = cc
not_is false e = refl

pub due_not_blank : (class : Class) (p : Page) (item : Item) → class ≡ Clearing → is_due class p item ≡ true → is_blank p item ≡ false
due_not_blank class p item clearing due = not_is (is_blank p item)
    ((and_parts (needed p item) (not (is_blank p item)) (subst (λ c. is_due c p item ≡ true) clearing due)).1)

blank_if : (a b : Bool) → a ≡ true → (a && not b) ≡ false → b ≡ true
blank_if true true n e = refl
blank_if true false n e = cc
blank_if false b n e = cc

-- an item that a viewer sees is not due only if receivers clear and the item is blank
pub not_due_is : (class : Class) (p : Page) (item : Item) → needed p item ≡ true → is_due class p item ≡ false → (class ≡ Clearing)
    × (is_blank p item ≡ true)
not_due_is Any p item n e = absurd (both_ways (needed p item) e n)
not_due_is Clearing p item n e = (refl, blank_if (needed p item) (is_blank p item) n e)

-- the test for blank items is right for the pages of a list
abbrev pub AreTested : List Page → Type 0
AreTested pages = (n : ℕ) (p : Page) → slice_get pages n ≡ Some p → (item : Item) → needed p item ≡ true → is_blank p item ≡ true ↔ IsBlank p item

pub pages_tested : PagesKeepTheirRules → PagesHaveSixLinks → BlankIsTested → (pages : List PageValue) → AreTested (map page_of pages)
pages_tested keep six tested pages n p at item seen = go pages n at
  where
    go : (qs : List PageValue) (n : ℕ) → slice_get (map page_of qs) n ≡ Some p → is_blank p item ≡ true ↔ IsBlank p item
    go [] n e = let h : None ≡ Some p = e in cc
    go (q ∷ qs) zero e =
        let h : page_of q ≡ p = cc in
        tested p item (subst IsPage h (keep q)) (subst (λ x. length x.links.six ≡ 6) h (six q)) seen
    go (q ∷ qs) (suc n) e = go qs n e

module _ (cycle : List (List ℕ)) (some : 1 ≤ length cycle) (pages : List Page) (apart : AreApart pages) (class : Class)
    (lines repeat : ℕ) (repeats : 1 ≤ repeat) (es : List Entry) (least : Option ℕ)
    (named : AreNamed cycle pages class lines repeat (26 * length pages) es least) where
  done : (i : ℕ) (p : Page) (item : Item) → slice_get pages i ≡ Some p → IsItem item → needed p item ≡ true →
      IsDone pages (26 * length pages) i p item
  done i p item at is seen = record { at = at; is = is; seen = seen; before = place_below i item (length pages) (slice_get_within pages i p at) is }

  abbrev Told : Entry → Type 0
  Told = NamesStarts cycle pages class lines repeat (26 * length pages)

  by_told : (P : Entry → Type 0) → ((e : Entry) → Told e → P e) → AllByRecursion P es
  by_told P f = all_by_recursion P es (all_more Told P f es named.told)

  page_one : (i : ℕ) (p : Page) → slice_get pages i ≡ Some p → (e : Entry) → (t : Told e) → e.page ≡ p.id → t.p ≡ p
  page_one i p at e t page =
      let index : t.index ≡ i = apart t.index i t.p p t.done.at at (sym t.page ∙ page) in
      let there : slice_get pages i ≡ Some t.p = subst (λ n. slice_get pages n ≡ Some t.p) index t.done.at in
      cc

  seen_starts : (i : ℕ) (p : Page) (item : Item) → slice_get pages i ≡ Some p → IsItem item → needed p item ≡ true →
      starts_in (entries_of es) p.id item ≡ starts_for cycle class lines repeat p item
  seen_starts i p item at is seen = starts_at p.id item (starts_for cycle class lines repeat p item) es
      (by_told (NamesFor p.id item (starts_for cycle class lines repeat p item)) (λ e t page number.
      t.starts ∙ ap (λ x. starts_for cycle class lines repeat x e.item) (page_one i p at e t page)
      ∙ ap (starts_for cycle class lines repeat p) (item_one e.item item t.done.is is number)))
      (named.kept i p item (done i p item at is seen))

  unseen_starts : (i : ℕ) (p : Page) (item : Item) → slice_get pages i ≡ Some p → IsItem item → needed p item ≡ false →
      starts_in (entries_of es) p.id item ≡ []
  unseen_starts i p item at is unseen = starts_at p.id item [] es
      (by_told (NamesFor p.id item []) (λ e t page number. absurd (
      both_ways (needed p item) unseen
      (subst (λ x. needed p x ≡ true) (item_one e.item item t.done.is is number)
      (subst (λ x. needed x e.item ≡ true) (page_one i p at e t page) t.done.seen)))))
      (inl refl)

  pub due_starts : (i : ℕ) (p : Page) (item : Item) → slice_get pages i ≡ Some p → IsItem item → is_due class p item ≡ true →
      starts_in (entries_of es) p.id item ≡ starts_of cycle lines repeat p.id item
  due_starts i p item at is due = seen_starts i p item at is (due_needed class p item due)
      ∙ cond-true (is_due class p item) (starts_of cycle lines repeat p.id item) [] due

  pub other_starts : (i : ℕ) (p : Page) (item : Item) → slice_get pages i ≡ Some p → IsItem item → is_due class p item ≡ false →
      starts_in (entries_of es) p.id item ≡ []
  other_starts i p item at is not_due = elim (cases_Bool (needed p item)) as (λ _. starts_in (entries_of es) p.id item ≡ []) [
    | inl seen ↦ seen_starts i p item at is seen ∙ cond-false (is_due class p item) (starts_of cycle lines repeat p.id item) [] not_due
    | inr unseen ↦ unseen_starts i p item at is unseen
  ]

  pub no_page_starts : (id : Id) → ((n : ℕ) (p : Page) → slice_get pages n ≡ Some p → p.id ≡ id → ⊥) → (item : Item) →
      starts_in (entries_of es) id item ≡ []
  no_page_starts id none item = starts_at id item [] es
      (by_told (NamesFor id item []) (λ e t page number. absurd (none t.index t.p t.done.at (sym t.page ∙ page)))) (inl refl)

  module _ (d : ℕ) where
    abbrev pub w : Certificate
    w = certificate_at (certificate_fields_at lines repeat d (entries_of es) class)

    pub named_is : SureStartsAreFound → (n : ℕ) (p : Page) → slice_get pages n ≡ Some p → (item : Item) → IsItem item →
        (start : ℕ) → Contains (w.starts p.id item) start ↔ ((is_due class p item ≡ true) × IsSureStart cycle p.id lines repeat item start)
    named_is found n p at item is start = (to, from)
      where
        law : Contains (starts_of cycle lines repeat p.id item) start ↔ IsSureStart cycle p.id lines repeat item start
        law = found cycle some p.id lines repeat item (run_length repeat item - 1) (run_some repeat item repeats) start

        to : Contains (starts_in (entries_of es) p.id item) start → (is_due class p item ≡ true) × IsSureStart cycle p.id lines repeat item start
        to h = elim (cases_Bool (is_due class p item)) as (λ _. (is_due class p item ≡ true) × IsSureStart cycle p.id lines repeat item start) [
          | inl due ↦ (due, law.0 (subst (λ x. Contains x start) (due_starts n p item at is due) h))
          | inr none ↦ absurd (let g = subst (λ x. Contains x start) (other_starts n p item at is none) h in let lt = g.1 in omega arith)
        ]

        from : (is_due class p item ≡ true) × IsSureStart cycle p.id lines repeat item start → Contains (starts_in (entries_of es) p.id item) start
        from h = subst (λ x. Contains x start) (sym (due_starts n p item at is h.0)) (law.1 h.1)

    -- with a limit that is enough each item is covered
    pub due_covered : LeastLimitIsFound → IsEnough least (d * lines) → (n : ℕ) (p : Page) → slice_get pages n ≡ Some p → (item : Item) →
        IsItem item → is_due class p item ≡ true → IsCovered cycle p w item
    due_covered law fits n p at item is due =
        go (spread_at cycle lines repeat p.id item) refl
        (subst (λ x. IsEnough x (d * lines))
        (cond-true (is_due class p item) (least_limit cycle lines repeat p.id item)
        (least_limit cycle lines 1 p.id TheHead) due)
        (named.least_to (d * lines) fits n p item (done n p item at is (due_needed class p item due))))
      where
        go : (sp : Option Spread) → spread_at cycle lines repeat p.id item ≡ sp → IsEnough (limit_of (length cycle) sp) (d * lines) →
            IsCovered cycle p w item
        go None e f = absurd f
        go (Some s) e f = ((law cycle some p w item (run_length repeat item - 1) (run_some repeat item repeats)).1 s e).1
            (due_starts n p item at is due) f

    -- and the headers of a page with an item that is not due come in time
    pub left_in_time : EachSlotTurns → SureStartsAreFound → LeastLimitIsFound → IsEnough least (d * lines) → (n : ℕ) (p : Page) →
        slice_get pages n ≡ Some p → (item : Item) → IsItem item →
        needed p item ≡ true → is_due class p item ≡ false → (tau : ℤ) → Next cycle p (d * lines) tau
    left_in_time turn found law fits n p at item is seen not_due =
        (next_fits turn found law cycle some p lines d (spread_at cycle lines 1 p.id TheHead) refl).1
        (subst (λ x. IsEnough x (d * lines))
        (cond-false (is_due class p item) (least_limit cycle lines repeat p.id item)
        (least_limit cycle lines 1 p.id TheHead) not_due)
        (named.least_to (d * lines) fits n p item (done n p item at is seen)))

  -- a limit with which each due item is covered, and headers come in time for those that are not due, is enough
  module _ (turn : EachSlotTurns) (found : SureStartsAreFound) (law : LeastLimitIsFound) (v : Certificate)
      (same_lines : v.lines ≡ lines) (same_repeat : v.repeat ≡ repeat)
      (covered : (n : ℕ) (p : Page) → slice_get pages n ≡ Some p → (item : Item) → IsItem item → is_due class p item
      ≡ true → IsCovered cycle p v item)
      (left : (n : ℕ) (p : Page) → slice_get pages n ≡ Some p → (item : Item) → IsItem item → needed p item ≡ true → is_due class p item
      ≡ false → (tau : ℤ) → Next cycle p (limit v) tau) where
    repeats_some : 1 ≤ v.repeat
    repeats_some = subst (λ r. 1 ≤ r) (sym same_repeat) repeats

    due_fits : (n : ℕ) (p : Page) → slice_get pages n ≡ Some p → (item : Item) → IsItem item → is_due class p item ≡ true →
        (sp : Option Spread) → spread_at cycle v.lines v.repeat p.id item ≡ sp →
        IsEnough (limit_of (length cycle) sp) (limit v)
    due_fits n p at item is due None e = absurd
        ((law cycle some p v item (run_length v.repeat item - 1) (run_some v.repeat item repeats_some)).0 e
        (covered n p at item is due))
    due_fits n p at item is due (Some s) e =
        ((law cycle some p v item (run_length v.repeat item - 1) (run_some v.repeat item repeats_some)).1 s e).0
        (covered n p at item is due)

    seen_fits : (n : ℕ) (p : Page) → slice_get pages n ≡ Some p → (item : Item) → IsItem item → needed p item ≡ true →
        IsEnough (limit_for cycle class v.lines v.repeat p item) (limit v)
    seen_fits n p at item is seen =
        let due_limit = least_limit cycle v.lines v.repeat p.id item in
        let left_limit = least_limit cycle v.lines 1 p.id TheHead in
        elim (cases_Bool (is_due class p item)) as (λ _. IsEnough (limit_for cycle class v.lines v.repeat p item) (limit v)) [
          | inl due ↦ subst (λ x. IsEnough x (limit v)) (sym (cond-true (is_due class p item) due_limit left_limit due))
              (due_fits n p at item is due (spread_at cycle v.lines v.repeat p.id item) refl)
          | inr not_due ↦ subst (λ x. IsEnough x (limit v)) (sym (cond-false (is_due class p item) due_limit left_limit not_due))
              ((next_fits turn found law cycle some p v.lines v.deadline (spread_at cycle v.lines 1 p.id TheHead) refl).0
              (left n p at item is seen not_due))
        ]

    pub all_fit : IsEnough least (limit v)
    all_fit = named.least_from (limit v) (λ i p item d.
        subst (λ l. IsEnough (limit_for cycle class l repeat p item) (limit v)) same_lines
        (subst (λ r. IsEnough (limit_for cycle class v.lines r p item) (limit v)) same_repeat
        (seen_fits i p d.at item d.is d.seen)))

  module _ (blank : AreTested pages) (few : lines ≤ 32) (some_lines : 1 ≤ lines) (deadline : Option ℕ)
      (is : IsDeadline cycle pages lines least deadline)
      (turn : EachSlotTurns) (found : SureStartsAreFound) (law : LeastLimitIsFound) where
    -- a certificate that is accepted covers each due item, and has the headers in time for those that are not due
    accepted_covered : (v : Certificate) → v.class ≡ class → Accepts cycle pages v → (n : ℕ) (p : Page) → slice_get pages n ≡ Some p →
        (item : Item) → IsItem item → is_due class p item ≡ true → IsCovered cycle p v item
    accepted_covered v same a n p at item is_item due =
        elim (a.covered n p at item (due_needed class p item due)) as (λ _. IsCovered cycle p v item) [
          | inl c ↦ c
          | inr l ↦ absurd (both_ways (is_blank p item) (due_not_blank class p item (sym same ∙ l.clearing) due)
              ((blank n p at item (due_needed class p item due)).1 l.blank))
        ]

    accepted_left : (v : Certificate) → Accepts cycle pages v → (n : ℕ) (p : Page) → slice_get pages n ≡ Some p → (item : Item) →
        IsItem item → needed p item ≡ true → is_due class p item ≡ false →
        (tau : ℤ) → Next cycle p (limit v) tau
    accepted_left v a n p at item is_item seen not_due = elim (a.covered n p at item seen) as (λ _. (tau : ℤ) → Next cycle p (limit v) tau)
        [ inl c ↦ next_covered cycle p v item c | inr l ↦ l.in_time ]

    fits_accepted : (e : ℕ) → CanBeAccepted cycle pages class lines repeat e → IsEnough least (e * lines)
    fits_accepted e c = subst (λ x. IsEnough least (e * x)) c.same_lines (subst (λ x. IsEnough least (x * c.w.lines)) c.same_deadline
        (all_fit turn found law c.w c.same_lines c.same_repeat (accepted_covered c.w c.same_class c.accepted) (accepted_left c.w c.accepted)))

    unchanged : (v : Certificate) → Accepts cycle pages v → IsSentUnchanged cycle pages
    unchanged v a = record { clean = a.clean; steady = a.steady }

    accepts_found : (d : ℕ) → IsSentUnchanged cycle pages → IsEnough least (d * lines) → Accepts cycle pages (w d)
    accepts_found d u fits = record {
      clean = u.clean;
      steady = u.steady;
      covered = λ n p at item seen. elim (cases_Bool (is_due class p item)) as (λ _. IsCovered cycle p (w d) item ⊎ IsLeftOut cycle p (w d) item) [
        | inl due ↦ inl (due_covered d law fits n p at item (item_needed p item seen) due)
        | inr not_due ↦
            let left = not_due_is class p item seen not_due in
            inr (record {
              clearing = left.0;
              blank = (blank n p at item seen).0 left.1;
              no_line = other_starts n p item at (item_needed p item seen) not_due;
              in_time = left_in_time d turn found law fits n p at item (item_needed p item seen) seen not_due;
            })
      ];
    }

    least_is : (r : Option ℕ) → IsDeadline cycle pages lines least r → IsLeastDeadline cycle pages (w (unwrap_or r 1000000)) r
    least_is None h = (
      refl,
      λ d c. h d (subst (λ x. 1 ≤ x) c.same_deadline c.is.some_fields)
          (subst (λ x. x ≤ 1000000) c.same_deadline c.is.few_fields) (unchanged c.w c.accepted) (fits_accepted d c),
    )
    least_is (Some d) h = (refl, accepts_found d h.0 h.3, λ e c. h.4 e (subst (λ x. 1 ≤ x) c.same_deadline c.is.some_fields) (fits_accepted e c))

    pub is_found : IsFoundFor cycle pages repeat lines class (w (unwrap_or deadline 1000000)) deadline
    is_found = record {
      same_lines = refl;
      same_repeat = refl;
      same_class = refl;
      named = named_is (unwrap_or deadline 1000000) found;
      no_others = no_page_starts;
      least = least_is deadline is;
    }

pub deadline_sent : (cycle : List (List ℕ)) (pages : List Page) (lines slots : ℕ) (r : Option ℕ) → IsSentUnchanged cycle pages →
    IsLeastField slots lines r → IsDeadline cycle pages lines (Some slots) r
deadline_sent cycle pages lines slots None u h = λ d a b v f. h d a b f
deadline_sent cycle pages lines slots (Some d) u h = (u, h.0, h.1, h.2, h.3)

-- the numbers of what is found are in their ranges
pub numbers_found : (cycle : List (List ℕ)) (pages : List Page) (lines repeat : ℕ) (least deadline : Option ℕ) → 1 ≤ lines → lines
    ≤ 32 → 1 ≤ repeat → repeat ≤ 8 →
    IsDeadline cycle pages lines least deadline → are_numbers lines repeat (unwrap_or deadline 1000000) ≡ true
numbers_found cycle pages lines repeat least None a b c d h = grind (arith, nat_tests)
numbers_found cycle pages lines repeat least (Some n) a b c d h = let low = h.1 in let high = h.2 in grind (arith, nat_tests)

pub none_named : (cycle : List (List ℕ)) (pages : List Page) (class : Class) (lines repeat : ℕ) →
    AreNamed cycle pages class lines repeat 0 [] (Some 0)
none_named cycle pages class lines repeat = record {
  told = λ k d lt. absurd (omega arith);
  apart = λ x y d lt in_range. absurd (omega arith);
  kept = λ i p item d. absurd (let b = d.before in omega arith);
  least_to = λ limit f i p item d. absurd (let b = d.before in omega arith);
  least_from = λ limit f. omega arith;
}

abbrev AreAlone : List Entry → Type 0
AreAlone es = AllPairs (λ a b. same_place a b ≡ false) es

same_place_flips : (a b : Entry) → same_place a b ≡ same_place b a
same_place_flips a b = equal_flips (place_in a) (place_in b)
  where
    equal_flips : (m n : ℕ) → (m == n) ≡ (n == m)
    equal_flips m n = grind (arith, nat_tests)

abbrev Lower : Option ℕ → List Entry → Type 0
Lower None es = Unit {0}
Lower (Some low) es = All (λ e. low < place_in e) es

-- entries of distinct items stay so when they are reordered
pub pairs_sorted : (xs ys : List Entry) → IsPermutation xs ys → AreAlone xs → AreAlone ys
pairs_sorted xs ys perm alone =
    let d = IsDistinct-IsPermutation same_place same_place_flips xs ys perm (IsDistinct-from_apart same_place xs alone) in
    λ i j e lt in_range. apart_from_distinct same_place ys i j e d lt in_range

rises_apart : (low : Option ℕ) (es : List Entry) → Lower low es → IsNonDecreasingBy place_in es → AreAlone es →
    rises_above low (entry_places (entries_of es)) ≡ true
rises_apart low [] l up alone = refl
rises_apart low (e ∷ es) l up alone = and_from _ _ (first low l) (rises_apart (Some (place_in e)) es
    (λ k d lt. let le = up zero (suc k) d (omega arith) (omega arith) in let other = alone zero (suc k) d (omega arith) (omega arith)
    in above (place_in e) (place_in (get_or es k d)) le other)
    (λ i j d le in_range. up (suc i) (suc j) d (omega arith) (omega arith))
    (λ i j d lt in_range. alone (suc i) (suc j) d (omega arith) (omega arith)))
  where
    first : (low : Option ℕ) → Lower low (e ∷ es) → is_above low (place_in e) ≡ true
    first None l = refl
    first (Some low) l = let lt : low < place_in e = l zero e (omega arith) in grind (arith, nat_tests)

    above : (m n : ℕ) → m ≤ n → (m == n) ≡ false → m < n
    above m n le other = grind (arith, nat_tests)

-- sorted entries of distinct items rise strictly
pub places_rise : (es : List Entry) → IsNonDecreasingBy place_in es → AllPairs (λ a b. same_place a b ≡ false) es →
    rises (entry_places (entries_of es)) ≡ true
places_rise es up alone = rises_apart None es tt up alone

pub named_sorted : (cycle : List (List ℕ)) (pages : List Page) (class : Class) (lines repeat m : ℕ) (xs ys : List Entry)
    (least : Option ℕ) → IsPermutation xs ys →
    AreNamed cycle pages class lines repeat m xs least → AreNamed cycle pages class lines repeat m ys least
named_sorted cycle pages class lines repeat m xs ys least perm a = record {
  told = All-permutation (NamesStarts cycle pages class lines repeat m) xs ys perm a.told;
  apart = pairs_sorted xs ys perm a.apart;
  kept = λ i p item d. elim (a.kept i p item d) as (λ _. (starts_for cycle class lines repeat p item ≡ []) ⊎ HasEntry ys p.id item) [
    | inl e ↦ inl e
    | inr h ↦ inr (record { entry = h.entry; among = Contains-permutation xs ys h.entry perm h.among; of_page = h.of_page; of_item = h.of_item })
  ];
  least_to = a.least_to;
  least_from = a.least_from;
}

-- the faults of all pages
pub fault_not_unchanged : (cycle : List (List ℕ)) (pages : List Page) (faults : List PageFault) → AreFaults cycle pages faults →
    (n : ℕ) (fault : PageFault) → slice_get faults n ≡ Some fault → is_some fault.reason ≡ true → IsSentUnchanged cycle pages → ⊥
fault_not_unchanged cycle pages faults told n fault at some u = elim (slice_get_cases pages n).1 as (λ _. ⊥) [
  | inl w ↦ let none = (steady_has_no_fault cycle pages w.0 fault.reason (told.each n w.0 fault w.2 at)).1 (u.steady n w.0 w.2)
      in both_ways (is_some fault.reason) (ap is_some none) some
  | inr past ↦ let c = told.count in let p = past.0 in let w = slice_get_within faults n fault at in omega arith
]

pub none_is_steady : (cycle : List (List ℕ)) (pages : List Page) (faults : List PageFault) → AreFaults cycle pages faults →
    ((n : ℕ) (fault : PageFault) → slice_get faults n ≡ Some fault → fault.reason ≡ None) → (n : ℕ) (p : Page) → slice_get pages n ≡ Some p →
    Steady (repeated cycle) pages p
none_is_steady cycle pages faults told none n p at = elim (slice_get_cases faults n).1 as (λ _. Steady (repeated cycle) pages p) [
  | inl w ↦ (steady_has_no_fault cycle pages p w.0.reason (told.each n p w.0 at w.2)).0 (none n w.0 w.2)
  | inr past ↦ absurd (let c = told.count in let f = past.0 in let w = slice_get_within pages n p at in omega arith)
]

pub one_more_fault : (cycle : List (List ℕ)) (pages : List Page) (faults : List PageFault) (fault : PageFault) (p : Page) →
    slice_get pages (length faults) ≡ Some p → IsPageFault cycle pages p fault.reason → HaveFaults cycle pages faults →
    HaveFaults cycle pages (faults ++ fault ∷ [])
one_more_fault cycle pages faults fault p here is told n q it there at =
    elim (cases_lt n (length faults)) as (λ _. IsPageFault cycle pages q it.reason) [
      | inl low ↦ told n q it there (sym (before_here faults (fault ∷ []) n low) ∙ at)
      | inr high ↦
          let within : n < length faults + 1 = let w = slice_get_within (faults ++ fault ∷ []) n it at
          in let l = length-append faults (fault ∷ []) in omega arith in
          let last : n ≡ length faults = omega arith in
          let page : p ≡ q = let e = ap (slice_get pages) last in cc in
          let same : fault ≡ it = let e = ap (slice_get (faults ++ fault ∷ [])) last in let l = last_here faults fault in cc in
          subst (λ f. IsPageFault cycle pages q f.reason) same (subst (λ r. IsPageFault cycle pages r fault.reason) page is)
    ]

pub clean_all : (cycle : List (List ℕ)) (P : ℕ → Type 0) (o : Option ℕ) → MatchOption o ((j : ℕ) → BadSlotAt cycle j → ⊥) P → is_some o
    ≡ false → (n : ℕ) → n < length cycle → is_clean (slice_index_or cycle n []) ≡ true
clean_all cycle P None m e n lt = elim (cases_Bool (is_clean (slice_index_or cycle n []))) as (λ _. is_clean (slice_index_or cycle n []) ≡ true)
    [ inl c ↦ c | inr f ↦ absurd (m n (record { within = lt; bad = f })) ]
clean_all cycle P (Some j) m e n lt = cc

pub bad_not_unchanged : (cycle : List (List ℕ)) (pages : List Page) (A : Type 0) (R : ℕ → Type 0) (o : Option ℕ) →
    MatchOption o A (λ j. BadSlotAt cycle j × R j) → is_some o ≡ true → IsSentUnchanged cycle pages → ⊥
bad_not_unchanged cycle pages A R None m e u = cc
bad_not_unchanged cycle pages A R (Some j) m e u = both_ways _ m.0.bad (u.clean j m.0.within)

pub is_none_of : (fault : Option Reason) → is_some fault ≡ false → fault ≡ None
is_none_of None e = refl
is_none_of (Some reason) e = cc
