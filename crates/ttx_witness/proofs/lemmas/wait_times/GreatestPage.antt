-- The deadline for all pages is the greatest of those for single pages.
use Rattle.std.proofs.Common.{◌≡◌, ℕ, zero, suc, ◌*◌, ◌<◌, ◌≤◌, max, Bool, true, false, if◌then◌else◌, List, [], ◌∷◌, map, length, slice_get}
use Rattle.std.proofs.Common.{slice_index_or, Option, Some, None, refl, sym, ap, ◌∙◌, subst, inl, inr, arith}
use Rattle.std.proofs.lemmas.Bool.{cases_Bool, cond_both, cond-true, cond-false}
use Rattle.std.proofs.lemmas.Option.{slice_get_within, slice_get_cases}
use Rattle.ttx_header.specs.Ids.{Id, same_id}
use Rattle.ttx_packet.specs.Slots.{is_clean}
use Rattle.ttx_page.specs.Pages.{Page}
use Rattle.ttx_page.specs.Laws.{EachSlotTurns, PagesKeepTheirRules, PagesHaveSixLinks, BlankIsTested}
use Rattle.ttx_page.specs.Views.{page_of}
use Rattle.ttx_page.specs.declared.item.Item.{Item}
use Rattle.ttx_page.specs.declared.class.Class.{Class}
use Rattle.ttx_witness.specs.runs.Confirming.{Rising}
use Rattle.ttx_witness.specs.Coverage.{Certificate, IsCertificate, Accepts}
use Rattle.ttx_witness.specs.laws.CycleLaws.{SureStartsAreFound, LeastLimitIsFound}
use Rattle.ttx_witness.specs.search.Finding.{wider, is_due, starts_of, limit_for, IsEnough, CanBeAccepted, IsLeastDeadline}
use Rattle.ttx_witness.specs.wait_times.PageWaits.{CanAccept, IsLeast, AreWaits, fields_told}
use Rattle.ttx_witness.specs.laws.WaitLaws.{greatest, DeadlineIsGreatest}
use Rattle.ttx_witness.specs.declared.wait_times.wait.PageWait.{PageWait}
use Rattle.ttx_witness.proofs.lemmas.search.DueItems.{AreApart, pages_apart}
use Rattle.ttx_witness.proofs.lemmas.search.LeastDeadline.{AreTested, pages_tested}
use Rattle.ttx_witness.proofs.lemmas.sent.PageIndexes.{same_one, same_self}
use Rattle.ttx_witness.proofs.lemmas.wait_times.PageDeadline.{none_rise, found_rise, longer, can_fits, named_shows, accepted_shows}

-- whether the item of the page with this id is due
abbrev due_among : Class → List Page → Id → Item → Bool
due_among class [] id item = false
due_among class (p ∷ pages) id item = if same_id p.id id then is_due class p item else due_among class pages id item

due_here : (class : Class) (item : Item) (pages : List Page) (n : ℕ) (p : Page) → AreApart pages → slice_get pages n ≡ Some p →
    due_among class pages p.id item ≡ is_due class p item
due_here class item [] n p apart at = let h : None ≡ Some p = at in cc
due_here class item (q ∷ pages) zero p apart at =
    let h : q ≡ p = cc in
    cond-true (same_id q.id p.id) (is_due class q item) (due_among class pages p.id item)
    (subst (λ x. same_id x.id p.id ≡ true) (sym h) (same_self p.id)) ∙ ap (λ x. is_due class x item) h
due_here class item (q ∷ pages) (suc n) p apart at =
    elim (cases_Bool (same_id q.id p.id)) as (λ _. due_among class (q ∷ pages) p.id item ≡ is_due class p item) [
      | inl same ↦ absurd (let e = apart 0 (suc n) q p refl at (same_one q.id p.id same) in omega arith)
      | inr other ↦ cond-false (same_id q.id p.id) (is_due class q item) (due_among class pages p.id item) other
          ∙ due_here class item pages n p (λ i j a b x y e. let s = apart (suc i) (suc j) a b x y e in omega arith) at
    ]

-- each answer is at most e
record AllTo (told : List PageWait) (e index : ℕ) (answer : PageWait) : Type 0 where
  deadline : ℕ
  is : fields_told answer.wait ≡ Some deadline
  least : deadline ≤ e

record IsGreatest (told : List PageWait) (e : ℕ) : Type 0 where
  deadline : ℕ
  is : greatest told ≡ Some deadline
  some : 1 ≤ deadline
  least : deadline ≤ e

greatest_to : (told : List PageWait) (e : ℕ) → 1 ≤ e →
    ((index : ℕ) (answer : PageWait) → slice_get told index ≡ Some answer → AllTo told e index answer) → IsGreatest told e
greatest_to [] e some each = record { deadline = 1; is = refl; some = omega arith; least = some }
greatest_to (t ∷ told) e some each =
    let first = each 0 t refl in
    let rest = greatest_to told e some
    (λ index answer at. let a = each (suc index) answer at in record { deadline = a.deadline; is = a.is; least = a.least }) in
    let low = rest.some in let x = first.least in let y = rest.least in
    record {
      deadline = max first.deadline rest.deadline;
      is = ap (λ o. wider o (greatest told)) first.is ∙ ap (wider (Some first.deadline)) rest.is;
      some = omega arith;
      least = omega arith;
    }

greatest_each : (told : List PageWait) (d : ℕ) → greatest told ≡ Some d → (index : ℕ) (answer : PageWait) → slice_get told index
    ≡ Some answer → AllTo told d index answer
greatest_each [] d e index answer at = let h : None ≡ Some answer = at in cc
greatest_each (t ∷ told) d e index answer at = go (λ n f i there. greatest_each told n f i answer there) (fields_told t.wait)
    (greatest told) refl refl e index at
  where
    go : ((n : ℕ) → greatest told ≡ Some n → (i : ℕ) → slice_get told i ≡ Some answer → AllTo told n i answer) → (a b : Option ℕ) →
        fields_told t.wait ≡ a → greatest told ≡ b → wider a b ≡ Some d → (index : ℕ) → slice_get (t ∷ told) index ≡ Some answer →
        AllTo (t ∷ told) d index answer
    go rest None b x y h index at = let g : None ≡ Some d = h in cc
    go rest (Some m) None x y h index at = let g : None ≡ Some d = h in cc
    go rest (Some m) (Some n) x y h zero at =
        let same : t ≡ answer = cc in
        let g : max m n ≡ d = cc in
        record { deadline = m; is = ap (λ z. fields_told z.wait) (sym same) ∙ x; least = omega arith }
    go rest (Some m) (Some n) x y h (suc index) at =
        let g : max m n ≡ d = cc in
        let a = rest n y index at in
        record { deadline = a.deadline; is = a.is; least = let l = a.least in omega arith }

module _ (turn : EachSlotTurns) (found : SureStartsAreFound) (law : LeastLimitIsFound) (cycle : List (List ℕ)) (some : 1 ≤ length cycle)
    (most : length cycle ≤ 65536) (pages : List Page)
    (apart : AreApart pages) (tested : AreTested pages) (class : Class) (repeat lines : ℕ) (repeats : 1 ≤ repeat)
    (few_repeats : repeat ≤ 8) (some_lines : 1 ≤ lines) (few_lines : lines ≤ 32)
    (clean : (n : ℕ) → n < length cycle → is_clean (slice_index_or cycle n []) ≡ true) where
  -- the certificate that names every start of a sure run of every page
  abbrev names : Id → Item → List ℕ
  names id item = if due_among class pages id item then starts_of cycle lines repeat id item else []

  abbrev joint : ℕ → Certificate
  joint d = record { lines = lines; repeat = repeat; deadline = d; class = class; starts = names }

  names_rise : (id : Id) (item : Item) → Rising (names id item)
  names_rise id item = cond_both (due_among class pages id item) (starts_of cycle lines repeat id item) [] Rising
      (λ due. found_rise cycle some most id lines repeat item) (λ not_due. none_rise)

  fits_more : (o : Option ℕ) (a b : ℕ) → a ≤ b → IsEnough o a → IsEnough o b
  fits_more None a b le f = f
  fits_more (Some n) a b le f = omega arith

  record Some_ (d : ℕ) (n : ℕ) (p : Page) : Type 0 where
    e : ℕ
    can : CanAccept cycle pages p class repeat lines e
    least : e ≤ d

  joint_accepts : (d : ℕ) → 1 ≤ d → d ≤ 1000000 → ((n : ℕ) (p : Page) → slice_get pages n ≡ Some p → Some_ d n p) →
      CanBeAccepted cycle pages class lines repeat d
  joint_accepts d low high each = record {
    w = joint d;
    is = record {
      some_lines = some_lines;
      few_lines = few_lines;
      some_repeats = repeats;
      few_repeats = few_repeats;
      some_fields = low;
      few_fields = high;
      rising = names_rise;
    };
    same_class = refl;
    same_lines = refl;
    same_repeat = refl;
    same_deadline = refl;
    accepted = record {
      clean = clean;
      steady = λ n p at. (each n p at).can.accepts.steady;
      covered = λ n p at item seen.
          let one = each n p at in
          named_shows turn found law cycle some most p (tested n p at) class repeat lines repeats names
          (λ x. ap (λ b. if b then starts_of cycle lines repeat p.id x else []) (due_here class x pages n p apart at)) item seen d
          (fits_more (limit_for cycle class lines repeat p item) (one.e * lines) (d * lines) (longer one.e d lines one.least)
          (can_fits turn found law cycle some most p (tested n p at) class repeat lines item one.e
          (accepted_shows cycle p class repeat lines pages one.e one.can item seen)));
    };
  }

  module _ (told : List PageWait) (waits : AreWaits cycle pages class repeat lines told) (w : Certificate) (is : IsCertificate w)
      (same_class : w.class ≡ class) (same_repeat : w.repeat ≡ repeat) (same_lines : w.lines ≡ lines) where
    -- the page of an answer
    answered : (index : ℕ) (answer : PageWait) → slice_get told index ≡ Some answer → (p : Page) × (slice_get pages index ≡ Some p)
        × IsLeast (CanAccept cycle pages p class repeat lines) (fields_told answer.wait)
    answered index answer at = elim (slice_get_cases pages index).1 as
        (λ _. (p : Page) × (slice_get pages index ≡ Some p)
        × IsLeast (CanAccept cycle pages p class repeat lines) (fields_told answer.wait)) [
          | inl there ↦
              let t = waits.each index there.0 there.2 in
              let t_at = t.at in
              let same : t.answer ≡ answer = cc in
              (there.0, there.2, subst (λ a. IsLeast (CanAccept cycle pages there.0 class repeat lines) (fields_told a.wait)) same t.wait.least)
          | inr past ↦ absurd (let lt = slice_get_within told index answer at in let c = waits.count in let h = past.0 in omega arith)
        ]

    accepted_each : (d : ℕ) → w.deadline ≡ d → Accepts cycle pages w → (n : ℕ) (p : Page) → slice_get pages n ≡ Some p →
        CanAccept cycle pages p class repeat lines d
    accepted_each d same a n p at = record {
      w = w;
      is = record { is = is; same_class = same_class; same_repeat = same_repeat; same_lines = same_lines; same_deadline = same };
      accepts = record { steady = a.steady n p at; shows = a.covered n p at };
    }

    least_to : (p : Page) (o : Option ℕ) (d index : ℕ) (answer : PageWait) → fields_told answer.wait ≡ o →
        IsLeast (CanAccept cycle pages p class repeat lines) o → CanAccept cycle pages p class repeat lines d →
        AllTo told d index answer
    least_to p None d index answer e h c = absurd (h d c)
    least_to p (Some m) d index answer e h c = record { deadline = m; is = e; least = h.1 d c }

    -- the least deadline for all pages is at least the greatest, and at most
    each_to : (d : ℕ) → ((n : ℕ) (p : Page) → slice_get pages n ≡ Some p → CanAccept cycle pages p class repeat lines d) →
        (index : ℕ) (answer : PageWait) → slice_get told index ≡ Some answer → AllTo told d index answer
    each_to d can index answer at = let a = answered index answer at
        in least_to a.0 (fields_told answer.wait) d index answer refl a.2 (can index a.0 a.1)

    page_some : (d : ℕ) → greatest told ≡ Some d → (n : ℕ) (p : Page) → slice_get pages n ≡ Some p → Some_ d n p
    page_some d e n p at =
        let t = waits.each n p at in
        let a = greatest_each told d e n t.answer t.at in
        let l : IsLeast (CanAccept cycle pages p class repeat lines) (Some a.deadline) =
        subst (IsLeast (CanAccept cycle pages p class repeat lines)) a.is t.wait.least in
        record { e = a.deadline; can = l.0; least = a.least }

    greatest_range : (d : ℕ) → greatest told ≡ Some d → (1 ≤ d) × (d ≤ 1000000)
    greatest_range d e =
        let g = greatest_to told 1000000 (omega arith) (λ index answer at.
        let a = greatest_each told d e index answer at in
        let b = answered index answer at in
        let l : IsLeast (CanAccept cycle pages b.0 class repeat lines) (Some a.deadline) =
        subst (IsLeast (CanAccept cycle pages b.0 class repeat lines)) a.is b.2 in
        record { deadline = a.deadline; is = a.is; least = subst (λ x. x ≤ 1000000) l.0.is.same_deadline l.0.is.is.few_fields }) in
        let g_is = g.is in
        let same : g.deadline ≡ d = cc in
        let low = g.some in let high = g.least in (omega arith, omega arith)

    can_greatest : (d : ℕ) → greatest told ≡ Some d → CanBeAccepted cycle pages class lines repeat d
    can_greatest d e = let r = greatest_range d e in joint_accepts d r.0 r.1 (page_some d e)

    to_class : (d : ℕ) → CanBeAccepted cycle pages class lines repeat d → CanBeAccepted cycle pages w.class w.lines w.repeat d
    to_class d c = subst (λ x. CanBeAccepted cycle pages x w.lines w.repeat d) (sym same_class)
        (subst (λ x. CanBeAccepted cycle pages class x w.repeat d) (sym same_lines)
        (subst (λ x. CanBeAccepted cycle pages class lines x d) (sym same_repeat) c))

    pub is_greatest : (deadline : Option ℕ) → IsLeastDeadline cycle pages w deadline → deadline ≡ greatest told
    is_greatest None h = go (greatest told) refl
      where
        go : (g : Option ℕ) → greatest told ≡ g → None ≡ greatest told
        go None e = sym e
        go (Some d) e = absurd (h.1 d (to_class d (can_greatest d e)))
    is_greatest (Some d) h =
        let g = greatest_to told d (subst (λ x. 1 ≤ x) h.0 is.some_fields) (each_to d (accepted_each d h.0 h.1)) in
        let le = h.2 g.deadline (to_class g.deadline (can_greatest g.deadline g.is)) in
        let l = g.least in
        let same : g.deadline ≡ d = omega arith in
        ap Some (sym same) ∙ sym g.is

pub deadline_is_greatest : EachSlotTurns → SureStartsAreFound → LeastLimitIsFound → PagesKeepTheirRules → PagesHaveSixLinks →
    BlankIsTested → DeadlineIsGreatest
deadline_is_greatest turn found law keep six blank cycle some most pages distinct class repeat lines repeats few_repeats some_lines
    few_lines told waits w deadline is f clean =
    is_greatest turn found law cycle some most (map page_of pages) (pages_apart pages distinct)
    (pages_tested keep six blank pages) class repeat lines repeats few_repeats some_lines few_lines clean
    told waits w is f.same_class f.same_repeat f.same_lines deadline f.least
