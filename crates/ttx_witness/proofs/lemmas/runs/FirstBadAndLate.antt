-- The start that a pass reports as bad, and the one that it reports as late, are the first ones.
use Rattle.std.proofs.Common.{◌≡◌, ◌⊎◌, ℕ, suc, ◌+◌, ◌<◌, ◌≤◌, ℤ, pos, ◌+ℤ◌, ◌<ℤ◌, true, false, int_lt, nat_lt, List, [], ◌∷◌, ◌++◌, length}
use Rattle.std.proofs.Common.{slice_index_or, Option, Some, None, refl, sym, ap, ◌∙◌, subst, inl, inr, arith}
use Rattle.std.specs.List.{AllByRecursion}
use Rattle.std.proofs.lemmas.Int.{ints}
use Rattle.std.proofs.lemmas.Bool.{cases_lt, cond_both}
use Rattle.std.proofs.lemmas.Bool.Decides.{nat_tests}
use Rattle.ttx_witness.specs.runs.Transmissions.{Transmission, Run, runs, moved_run}
use Rattle.ttx_witness.specs.runs.Confirming.{Progress, Rising, late_after, confirmed_runs, after_runs, not_begun}
use Rattle.ttx_witness.specs.runs.Repeating.{Repeats, AreSent, RunEndsBelow, IsRunOf, IsBad, IsLate, IsFirst, next_start}
use Rattle.ttx_witness.proofs.lemmas.runs.MovedStreams.{run_later}
use Rattle.ttx_witness.proofs.lemmas.runs.ConfirmedStarts.{named_at, Matches, next_is, marked_next, marked_chosen, chosen_match, match_bound}
use Rattle.ttx_witness.proofs.lemmas.runs.ConfirmedStarts.{confirmed_yes, first_end_kept, late_is_first, first_late}
use Rattle.ttx_witness.proofs.lemmas.runs.PassDecides as D

module _ (Owned Sure : ℤ → ℤ → Type 0) (n k limit : ℕ) (law : Repeats n Owned Sure) (starts : List ℕ) where
  abbrev Late : ℕ → Type 0
  Late = IsLate Owned n (suc k) limit starts

  abbrev Is : Run → Type 0
  Is = IsRunOf Owned Sure (suc k)

  -- the runs from the i-th start on, and from the first start one period later
  Chain : ℕ → Run → List Run → Type 0
  Chain i r [] = i ≡ length starts
  Chain i r (q ∷ qs) = (i < length starts) × Is r × (r.start ≡ named_at starts i) × Is q × (q.start ≡ next_start n starts i) × Chain (i + 1) q qs

  next_before : (i : ℕ) → i + 1 < length starts → next_start n starts i ≡ named_at starts (i + 1)
  next_before i lt = cond_both (nat_lt (i + 1) (length starts)) _ _ (λ x. x ≡ named_at starts (i + 1)) (λ _. refl)
      (λ e. absurd (grind (arith, nat_tests)))

  next_last : (i : ℕ) → length starts ≤ i + 1 → next_start n starts i ≡ named_at starts 0 +ℤ pos n
  next_last i le = cond_both (nat_lt (i + 1) (length starts)) _ _ (λ x. x ≡ named_at starts 0 +ℤ pos n)
      (λ e. absurd (grind (arith, nat_tests))) (λ _. refl)

  chain_of : (i : ℕ) (r : Run) (rs : List Run) (z : Run) → i < length starts → Is r → r.start ≡ named_at starts i →
      Matches starts (i + 1) rs → (i + 1) + length rs ≡ length starts →
      AllByRecursion Is rs → Is z → z.start ≡ named_at starts 0 +ℤ pos n → Chain i r (rs ++ z ∷ [])
  unfolding Chain
  chain_of i r [] z lt a at m len each b e = (lt, a, at, b, e ∙ sym (next_last i (omega arith)), omega arith)
  chain_of i r (q ∷ rs) z lt a at m len each b e =
      let x = next_is starts (i + 1) q m.0 in (
        lt,
        a,
        at,
        each.0,
        sym x.start ∙ sym (next_before i x.within),
        chain_of (i + 1) q rs z x.within each.0 (sym x.start) m.1 (omega arith) each.1 b e,
      )

  -- one pair of runs
  is_late : (i : ℕ) (r q : Run) → i < length starts → Is r → r.start ≡ named_at starts i → Is q → q.start ≡ next_start n starts i →
      int_lt (r.owner +ℤ pos limit) q.end ≡ true → Late i
  is_late i r q lt a at b next e = record {
    within = lt;
    owner = r.owner;
    owned = subst (Owned r.owner) at a.owned;
    late = λ h. let g = (b.ends ((r.owner +ℤ pos limit) +ℤ pos 1)).1
        (subst (λ x. RunEndsBelow Owned (suc k) x ((r.owner +ℤ pos limit) +ℤ pos 1)) (sym next) h) in omega (arith, ints);
  }

  not_late : (i : ℕ) (r q : Run) → Is r → r.start ≡ named_at starts i → Is q → q.start ≡ next_start n starts i →
      int_lt (r.owner +ℤ pos limit) q.end ≡ false → Late i → ⊥
  not_late i r q a at b next e l =
      let same : r.owner ≡ l.owner = law.one_owner r.owner l.owner r.start a.owned (subst (Owned l.owner) (sym at) l.owned) in
      l.late (subst (λ x. RunEndsBelow Owned (suc k) x ((l.owner +ℤ pos limit) +ℤ pos 1)) next
      ((b.ends ((l.owner +ℤ pos limit) +ℤ pos 1)).0 (omega (arith, ints))))

  -- the first late start among those from the i-th on, if one is late
  FirstLateFrom : ℕ → Option ℕ → Type 0
  FirstLateFrom i None = (j : ℕ) → i ≤ j → Late j → ⊥
  FirstLateFrom i (Some s) = (j : ℕ) × (i ≤ j) × (s ≡ slice_index_or starts j 0) × Late j × ((m : ℕ) → i ≤ m → m < j → Late m → ⊥)

  first_late_from : (i : ℕ) (r : Run) (qs : List Run) → Chain i r qs → FirstLateFrom i (first_late limit starts i r qs)
  unfolding Chain FirstLateFrom first_late
  first_late_from i r [] c = λ j le l. let w = l.within in omega arith
  first_late_from i r (q ∷ qs) c = cond_both (int_lt (r.owner +ℤ pos limit) q.end) (Some (slice_index_or starts i 0))
      (first_late limit starts (i + 1) q qs) (FirstLateFrom i)
      (λ e. (i, omega arith, refl, is_late i r q c.0 c.1 c.2 c.3 c.4 e, (λ m le lt l. absurd (omega arith))))
      (λ e. on (first_late limit starts (i + 1) q qs) (first_late_from (i + 1) q qs c.5) (not_late i r q c.1 c.2 c.3 c.4 e))
    where
      here_or : (j : ℕ) → i ≤ j → (i ≡ j) ⊎ (i + 1 ≤ j)
      here_or j le = elim (cases_lt i j) as (λ _. (i ≡ j) ⊎ (i + 1 ≤ j)) [ inl lt ↦ inr (omega arith) | inr ge ↦ inl (omega arith) ]

      on : (o : Option ℕ) → FirstLateFrom (i + 1) o → (Late i → ⊥) → FirstLateFrom i o
      on None f not = λ j le l. elim (here_or j le) as (λ _. ⊥) [ inl e ↦ not (subst Late (sym e) l) | inr more ↦ f j more l ]
      on (Some s) f not = (
        f.0,
        (let x = f.1 in omega arith),
        f.2,
        f.3,
        (λ m le lt l. elim (here_or m le) as (λ _. ⊥) [ inl e ↦ not (subst Late (sym e) l) | inr more ↦ f.4 m more lt l ]),
      )

  first_is : (o : Option ℕ) → FirstLateFrom 0 o → IsFirst Late starts o
  unfolding FirstLateFrom
  first_is None f = λ i l. f i (omega arith) l
  first_is (Some s) f = (f.0, f.2, f.3, (λ j lt l. f.4 j (omega arith) lt l))

  module _ (rising : Rising starts) (ts : List Transmission) (told : AreSent Owned Sure (pos 0) (pos n) ts) where
    abbrev final : Progress
    final = after_runs limit starts not_begun (runs n k ts)

    abbrev Bad : ℕ → Type 0
    Bad = IsBad Owned Sure n (suc k) starts

    -- the cursor stops at the first bad start
    pub stops_at_first : final.next < length starts → Bad final.next × ((j : ℕ) → j < final.next → Bad j → ⊥)
    stops_at_first lt = (
      record {
        within = lt;
        bad = λ b. D.stops Owned Sure n k law starts rising limit ts told final.next refl lt
            (let l = b.0 in omega (arith, ints)) b.1;
      },
      (λ j less b. let g = D.before_stop Owned Sure n k law starts rising limit ts told j less in
          b.bad ((let h : named_at starts j <ℤ pos n = g.0 in let m : slice_index_or starts j 0 < n = omega (arith, ints) in m), g.1)),
    )

    -- or at the end, if none is bad
    pub none_bad : final.next ≡ length starts → (j : ℕ) → Bad j → ⊥
    none_bad all j b =
        let g = D.complete Owned Sure n k law starts rising limit ts told all j b.within in
        b.bad ((let h : named_at starts j <ℤ pos n = g.0 in let m : slice_index_or starts j 0 < n = omega (arith, ints) in m), g.1)

    pub not_past : final.next ≤ length starts
    not_past =
        let e = marked_next limit starts not_begun (runs n k ts) in
        let b = match_bound starts 0 (confirmed_runs starts 0 (runs n k ts)) (chosen_match starts 0 (runs n k ts)) (omega arith) in omega arith

    -- if none is bad, the start that is late at the end is the first late one
    pub late_first : final.next ≡ length starts → 0 < length starts → IsFirst Late starts (late_after limit starts final (final.first_end +ℤ pos n))
    unfolding after_runs
    late_first all one = go (confirmed_runs starts 0 (runs n k ts)) (chosen_match starts 0 (runs n k ts))
        (sym all ∙ marked_next limit starts not_begun (runs n k ts))
        (D.all_chosen Is starts 0 (runs n k ts) (D.are Owned Sure n k law starts rising limit ts told))
        (marked_chosen limit starts not_begun (runs n k ts))
      where
        go : (rs : List Run) → Matches starts 0 rs → length starts ≡ 0 + length rs → AllByRecursion Is rs → final
            ≡ after_runs limit starts not_begun rs →
            IsFirst Late starts (late_after limit starts final (final.first_end +ℤ pos n))
        go [] m e a f = absurd (omega arith)
        go (g ∷ rs) m e a f =
            let z = moved_run (pos n) g in
            let c = confirmed_yes limit starts not_begun g m.0 in
            let m1 : Progress = record { next = 0 + 1; previous = g.owner; first_end = g.end; late = None } in
            let c' : final ≡ after_runs limit starts m1 rs = f ∙ ap (λ x. after_runs limit starts x rs) c in
            let fe : (after_runs limit starts m1 rs).first_end ≡ g.end = first_end_kept limit starts m1 rs (omega arith) m.1 in
            let r = late_is_first limit starts m1 g rs z 0 refl refl refl m.1 in
            let x = next_is starts 0 g m.0 in
            let ch = chain_of 0 g rs z x.within a.0 (sym x.start) m.1 (omega arith) a.1 (run_later Owned Sure n (suc k) law g a.0)
            (ap (λ y. y +ℤ pos n) (sym x.start)) in
            let e1 : late_after limit starts final (final.first_end +ℤ pos n)
            ≡ late_after limit starts (after_runs limit starts m1 rs) (g.end +ℤ pos n) =
            ap (λ y. late_after limit starts y (y.first_end +ℤ pos n)) c'
            ∙ ap (λ y. late_after limit starts (after_runs limit starts m1 rs) (y +ℤ pos n)) fe in
            subst (IsFirst Late starts) (sym (e1 ∙ r)) (first_is (first_late limit starts 0 g (rs ++ z ∷ [])) (first_late_from 0 g (rs ++ z ∷ []) ch))
