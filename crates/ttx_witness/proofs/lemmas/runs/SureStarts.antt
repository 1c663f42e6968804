-- The starts that a search finds, and the least limit with which they cover an item.
use Rattle.std.proofs.Common.{◌≡◌, ◌⊎◌, ◌↔◌, ℕ, zero, suc, ◌+◌, ◌<◌, ◌≤◌, max, ℤ, pos, ◌+ℤ◌, ◌-ℤ◌, ◌<ℤ◌, ◌≤ℤ◌, true, List, [], ◌∷◌, ◌++◌, map, length}
use Rattle.std.proofs.Common.{slice_index_or, Option, Some, None, unsigned_abs, refl, sym, ap, ◌∙◌, subst, inl, inr, arith}
use Rattle.std.specs.List.{Contains, AllByRecursion}
use Rattle.std.proofs.lemmas.List.{length-map}
use Rattle.std.proofs.lemmas.List.Elements.{Contains-get_or, at_from_Contains}
use Rattle.std.proofs.lemmas.Int.{ints}
use Rattle.std.proofs.lemmas.Bool.{cases_lt, cases_Bool, cond_both, both_ways}
use Rattle.ttx_witness.specs.runs.Transmissions.{Transmission, Run, runs, moved_run}
use Rattle.ttx_witness.specs.runs.Confirming.{Rising}
use Rattle.ttx_witness.specs.runs.Repeating.{Repeats, AreSent, BeginsSureRun, IsRunOf, IsNamed, Covers}
use Rattle.ttx_witness.specs.runs.SureStarts.{Spread, sure_runs, sure_starts, spread_after, spread_of, above_zero, width}
use Rattle.ttx_witness.specs.laws.RunLaws.{IsLeastLimit}
use Rattle.ttx_witness.proofs.lemmas.WholeNumbers.{abs_is}
use Rattle.ttx_witness.proofs.lemmas.runs.ConfirmedStarts.{named_at, Matches, is_next_of, RisesFrom, NoneFor}
use Rattle.ttx_witness.proofs.lemmas.runs.Coverage.{named_up, named_down, named_is, named_in, more_cover}
use Rattle.ttx_witness.proofs.lemmas.runs.LeastLimits.{widest, in_step_widest}
use Rattle.ttx_witness.proofs.lemmas.runs.PassDecides as D

abbrev AllSure : List Run → Type 0
AllSure qs = AllByRecursion (λ r. r.sure ≡ true) qs

all_sure : (rs : List Run) → AllSure (sure_runs rs)
unfolding sure_runs
all_sure [] = tt
all_sure (r ∷ rs) = cond_both r.sure (r ∷ sure_runs rs) (sure_runs rs) AllSure (λ e. (e, all_sure rs)) (λ e. all_sure rs)

all_of : (P : Run → Type 0) (rs : List Run) → AllByRecursion P rs → AllByRecursion P (sure_runs rs)
unfolding sure_runs
all_of P [] a = tt
all_of P (r ∷ rs) a = cond_both r.sure (r ∷ sure_runs rs) (sure_runs rs) (AllByRecursion P) (λ e. (a.0, all_of P rs a.1)) (λ e. all_of P rs a.1)

rises_more : (a b : ℤ) (rs : List Run) → a ≤ℤ b → RisesFrom b rs → RisesFrom a rs
rises_more a b [] le u = tt
rises_more a b (r ∷ rs) le u = ((let k = u.0 in omega (arith, ints)), u.1)

rises_sure : (low : ℤ) (rs : List Run) → RisesFrom low rs → RisesFrom low (sure_runs rs)
unfolding sure_runs
rises_sure low [] u = tt
rises_sure low (r ∷ rs) u = cond_both r.sure (r ∷ sure_runs rs) (sure_runs rs) (RisesFrom low) (λ e. (u.0, rises_sure (r.start +ℤ pos 1) rs u.1))
    (λ e. rises_more low (r.start +ℤ pos 1) (sure_runs rs) (let k = u.0 in omega (arith, ints)) (rises_sure (r.start +ℤ pos 1) rs u.1))

abbrev starts_of : List Run → List ℕ
starts_of qs = map (λ r. unsigned_abs r.start) qs

-- starts rise as their runs do
above_all : (low : ℤ) (qs : List Run) → pos 0 ≤ℤ low → RisesFrom low qs → (j : ℕ) → j < length (starts_of qs) → low ≤ℤ named_at (starts_of qs) j
above_all low [] z u j lt = absurd (omega arith)
above_all low (r ∷ qs) z u zero lt = let k = u.0 in let e = abs_is r.start (omega (arith, ints)) in omega (arith, ints)
above_all low (r ∷ qs) z u (suc j) lt =
    let i = above_all (r.start +ℤ pos 1) qs (let k = u.0 in omega (arith, ints)) u.1 j (omega arith) in let k = u.0 in omega (arith, ints)

rising_starts : (low : ℤ) (qs : List Run) → pos 0 ≤ℤ low → RisesFrom low qs → Rising (starts_of qs)
rising_starts low [] z u i j lt l = absurd (omega arith)
rising_starts low (r ∷ qs) z u zero zero lt l = absurd (omega arith)
rising_starts low (r ∷ qs) z u (suc i) zero lt l = absurd (omega arith)
rising_starts low (r ∷ qs) z u zero (suc j) lt l =
    let i = above_all (r.start +ℤ pos 1) qs (let k = u.0 in omega (arith, ints)) u.1 j (omega arith) in
    let k = u.0 in
    let e = abs_is r.start (omega (arith, ints)) in omega (arith, ints)
rising_starts low (r ∷ qs) z u (suc i) (suc j) lt l =
    rising_starts (r.start +ℤ pos 1) qs (let k = u.0 in omega (arith, ints)) u.1 i j (omega arith) (omega arith)

-- each run is the next one for its own starts
matches_own : (starts : List ℕ) (next : ℕ) (low : ℤ) (qs : List Run) → pos 0 ≤ℤ low → RisesFrom low qs → AllSure qs → next + length qs
    ≡ length starts →
    ((j : ℕ) → j < length qs → slice_index_or starts (next + j) 0 ≡ slice_index_or (starts_of qs) j 0) → Matches starts next qs
matches_own starts next low [] z u s len same = tt
matches_own starts next low (r ∷ qs) z u s len same =
    let e : slice_index_or starts (next + 0) 0 ≡ unsigned_abs r.start = same 0 (omega arith) in
    let e' : slice_index_or starts next 0 ≡ unsigned_abs r.start =
    ap (λ x. slice_index_or starts x 0) (let h : next ≡ next + 0 = omega arith in h) ∙ e in (
      is_next_of starts next r (omega arith) (ap pos e' ∙ abs_is r.start (let k = u.0 in omega (arith, ints))) s.0,
      matches_own starts (next + 1) (r.start +ℤ pos 1) qs (let k = u.0 in omega (arith, ints)) u.1 s.1 (omega arith)
          (λ j lt. ap (λ x. slice_index_or starts x 0) (let h : (next + 1) + j ≡ next + suc j = omega arith in h) ∙ same (suc j) (omega arith)),
    )

-- a slot that is not the start of a sure run of the list
found_or : (x : ℕ) (low : ℤ) (rs : List Run) → pos 0 ≤ℤ low → RisesFrom low rs →
    ((i : ℕ) × (i < length (sure_starts rs)) × (slice_index_or (sure_starts rs) i 0 ≡ x)) ⊎ NoneFor (pos x) rs
unfolding sure_runs
found_or x low [] z u = inr tt
found_or x low (r ∷ rs) z u =
    let rest = found_or x (r.start +ℤ pos 1) rs (let k = u.0 in omega (arith, ints)) u.1 in
    let e = abs_is r.start (let k = u.0 in omega (arith, ints)) in
    cond_both r.sure (r ∷ sure_runs rs) (sure_runs rs)
    (λ qs. ((i : ℕ) × (i < length (starts_of qs)) × (slice_index_or (starts_of qs) i 0 ≡ x)) ⊎ NoneFor (pos x) (r ∷ rs))
    (λ sure. elim (cases_lt (unsigned_abs r.start) x) as
    (λ _. ((i : ℕ) × (i < length (starts_of (r ∷ sure_runs rs))) × (slice_index_or (starts_of (r ∷ sure_runs rs)) i 0 ≡ x))
    ⊎ NoneFor (pos x) (r ∷ rs)) [
      | inl lt ↦ elim rest as (λ _. ((i : ℕ) × (i < length (starts_of (r ∷ sure_runs rs)))
          × (slice_index_or (starts_of (r ∷ sure_runs rs)) i 0 ≡ x)) ⊎ NoneFor (pos x) (r ∷ rs)) [
            | inl f ↦ inl (suc f.0, (let k = f.1 in omega arith), f.2)
            | inr n ↦ inr ((λ q g. omega (arith, ints)), n)
          ]
      | inr ge ↦ elim (cases_lt x (unsigned_abs r.start)) as
          (λ _. ((i : ℕ) × (i < length (starts_of (r ∷ sure_runs rs))) × (slice_index_or (starts_of (r ∷ sure_runs rs)) i 0 ≡ x))
          ⊎ NoneFor (pos x) (r ∷ rs)) [
            | inl gt ↦ elim rest as (λ _. ((i : ℕ) × (i < length (starts_of (r ∷ sure_runs rs)))
                × (slice_index_or (starts_of (r ∷ sure_runs rs)) i 0 ≡ x)) ⊎ NoneFor (pos x) (r ∷ rs)) [
                  | inl f ↦ inl (suc f.0, (let k = f.1 in omega arith), f.2)
                  | inr n ↦ inr ((λ q g. omega (arith, ints)), n)
                ]
            | inr le ↦ inl (0, omega arith, omega arith)
          ]
    ])
    (λ unsure. elim rest as (λ _. ((i : ℕ) × (i < length (sure_starts rs)) × (slice_index_or (sure_starts rs) i 0 ≡ x)) ⊎ NoneFor (pos x) (r ∷ rs)) [
      | inl f ↦ inl f
      | inr n ↦ inr ((λ q g. both_ways _ unsure g), n)
    ])

-- the spread of the sure runs
spread_sure : (s : Option Spread) (rs : List Run) → spread_of s rs ≡ spread_of s (sure_runs rs)
unfolding spread_of sure_runs
spread_sure s [] = refl
spread_sure s (r ∷ rs) = elim (cases_Bool r.sure) as (λ _. spread_of s (r ∷ rs) ≡ spread_of s (sure_runs (r ∷ rs))) [
  | inl e ↦ spread_sure (spread_after s r) rs ∙ cond_both r.sure (r ∷ sure_runs rs) (sure_runs rs)
      (λ qs. spread_of (spread_after s r) (sure_runs rs) ≡ spread_of s qs) (λ _. refl) (λ f. absurd (both_ways _ f e))
  | inr e ↦ ap (λ x. spread_of x rs) (cond_both r.sure _ s (λ x. x ≡ s) (λ f. absurd (both_ways _ e f)) (λ _. refl)) ∙ spread_sure s rs
      ∙ cond_both r.sure (r ∷ sure_runs rs) (sure_runs rs) (λ qs. spread_of s (sure_runs rs) ≡ spread_of s qs)
      (λ f. absurd (both_ways _ e f)) (λ _. refl)
]

-- the greatest distance, after the run that follows the last one is included
pub record IsClosed (first_end end : ℤ) (width : ℕ) (s : Option Spread) : Type 0 where
  pub spread : Spread
  pub is : s ≡ Some spread
  pub first_is : spread.first_end ≡ first_end
  pub width_is : max spread.widest (above_zero (end -ℤ spread.previous)) ≡ width

closes : (s : Spread) (r : Run) (qs : List Run) (z : Run) → AllSure qs → s.previous ≡ r.owner →
    IsClosed s.first_end z.end (max s.widest (widest r (qs ++ z ∷ []))) (spread_of (Some s) qs)
unfolding spread_of widest
closes s r [] z a e = record {
  spread = s;
  is = refl;
  first_is = refl;
  width_is = ap (λ o. max s.widest (above_zero (z.end -ℤ o))) e ∙ omega arith;
}
closes s r (q ∷ qs) z a e =
    let s' : Spread = record { first_end = s.first_end; previous = q.owner; widest = max s.widest (above_zero (q.end -ℤ s.previous)) } in
    let after : spread_after (Some s) q ≡ Some s' =
    cond_both q.sure (Some s') (Some s) (λ x. x ≡ Some s') (λ _. refl) (λ f. absurd (both_ways _ f a.0)) in
    let i = closes s' q qs z a.1 refl in
    record {
      spread = i.spread;
      is = ap (λ x. spread_of x qs) after ∙ i.is;
      first_is = i.first_is;
      width_is = i.width_is ∙ ap (λ o. max (max s.widest (above_zero (q.end -ℤ o))) (widest q (qs ++ z ∷ []))) e ∙ omega arith;
    }

pub found_closed : (g : Run) (qs : List Run) (z : Run) → AllSure (g ∷ qs) → IsClosed g.end z.end (widest g (qs ++ z ∷ [])) (spread_of None (g ∷ qs))
unfolding spread_of
found_closed g qs z a =
    let s : Spread = record { first_end = g.end; previous = g.owner; widest = 0 } in
    let after : spread_after None g ≡ Some s = cond_both g.sure (Some s) None (λ x. x ≡ Some s) (λ _. refl) (λ f. absurd (both_ways _ f a.0)) in
    let i = closes s g qs z a.1 refl in
    record { spread = i.spread; is = ap (λ x. spread_of x qs) after ∙ i.is; first_is = i.first_is; width_is = i.width_is ∙ omega arith }

module _ (Owned Sure : ℤ → ℤ → Type 0) (n k : ℕ) (law : Repeats n Owned Sure) (ts : List Transmission)
    (told : AreSent Owned Sure (pos 0) (pos n) ts) where
  abbrev rs : List Run
  rs = runs n k ts

  abbrev qs : List Run
  qs = sure_runs rs

  abbrev starts : List ℕ
  starts = sure_starts rs

  none_rise : Rising []
  none_rise i j lt l = absurd (omega arith)

  risen : RisesFrom (pos 0) rs
  risen = D.rise Owned Sure n k law [] none_rise 0 ts told

  rising : Rising starts
  rising = rising_starts (pos 0) qs (omega (arith, ints)) (rises_sure (pos 0) rs risen)

  count : length qs ≡ length starts
  count = sym (length-map qs (λ r. unsigned_abs r.start))

  matches : Matches starts 0 qs
  matches = matches_own starts 0 (pos 0) qs (omega (arith, ints)) (rises_sure (pos 0) rs risen) (all_sure rs) (let c = count in omega arith)
      (λ j lt. ap (λ x. slice_index_or starts x 0) (let h : 0 + j ≡ j = omega arith in h))

  are : AllByRecursion (IsRunOf Owned Sure (suc k)) qs
  are = all_of (IsRunOf Owned Sure (suc k)) rs (D.are Owned Sure n k law [] none_rise 0 ts told)

  below : AllByRecursion (λ r. r.start <ℤ pos n) qs
  below = all_of (λ r. r.start <ℤ pos n) rs (D.runs_below Owned Sure n k law [] none_rise 0 ts told)

  each : (i : ℕ) → i < length starts → (named_at starts i <ℤ pos n) × BeginsSureRun Owned Sure (suc k) (named_at starts i)
  each i lt = D.good_at Owned Sure n k law starts 0 qs matches are below i (omega arith) (let c = count in omega arith)

  each_below : (i : ℕ) → i < length starts → slice_index_or starts i 0 < n
  each_below i lt = let h : named_at starts i <ℤ pos n = (each i lt).0 in let g : slice_index_or starts i 0 < n = omega (arith, ints) in g

  -- the starts found are those of all sure runs of the period
  pub found_starts : (start : ℕ) → Contains starts start ↔ ((start < n) × BeginsSureRun Owned Sure (suc k) (pos start))
  found_starts start = (
    (λ h. let a = at_from_Contains starts start h in
        let e : slice_index_or starts a.0 0 ≡ start = a.2 0 in
        (subst (λ x. x < n) e (each_below a.0 a.1), subst (λ x. BeginsSureRun Owned Sure (suc k) (pos x)) e (each a.0 a.1).1)),
    (λ b. elim (found_or start (pos 0) rs (omega (arith, ints)) risen) as (λ _. Contains starts start) [
      | inl f ↦ subst (Contains starts) f.2 (Contains-get_or starts f.0 0 f.1)
      | inr none ↦ absurd (D.not_missing Owned Sure n k law [] none_rise 0 ts told (pos start) (omega (arith, ints))
          (let lt = b.0 in omega (arith, ints)) b.1 none)
    ]),
  )

  -- without a sure run nothing covers the item
  pub found_none : spread_of None rs ≡ None → (limit : ℕ) (others : List ℕ) → Covers Owned Sure n (suc k) limit others → ⊥
  found_none e limit others c =
      let start = c.named.0 in
      let a = at_from_Contains starts start ((found_starts start).1 (c.sure start c.named.1)) in
      some qs refl (let l = a.1 in let m = count in omega arith)
    where
      some : (xs : List Run) → qs ≡ xs → 0 < length xs → ⊥
      some [] q lt = omega arith
      some (g ∷ xs) q lt =
          let z = found_closed g xs g (subst AllSure q (all_sure rs)) in
          let h : Some z.spread ≡ None = sym z.is ∙ ap (spread_of None) (sym q) ∙ sym (spread_sure None rs) ∙ e in cc

  -- naming all sure starts keeps covered what is covered
  pub found_more : (limit : ℕ) (others : List ℕ) → Covers Owned Sure n (suc k) limit others → Covers Owned Sure n (suc k) limit starts
  found_more limit others c = more_cover Owned Sure n (suc k) limit others starts (λ s h. (found_starts s).1 (c.sure s h))
      (λ s h. (found_starts s).0 h) c

  -- the least limit is the spread's width
  pub found_some : (s : Spread) → spread_of None rs ≡ Some s → (limit : ℕ) → (width n s ≤ limit) ↔ Covers Owned Sure n (suc k) limit starts
  unfolding spread_of
  found_some s e limit = cases qs refl
    where
      some_same : {A : Type 0} {x y : A} → Some x ≡ Some y → x ≡ y
      some_same h = cc

      cases : (xs : List Run) → qs ≡ xs → (width n s ≤ limit) ↔ Covers Owned Sure n (suc k) limit starts
      cases [] q = let h : None ≡ Some s = ap (spread_of None) (sym q) ∙ sym (spread_sure None rs) ∙ e in absurd (none_some h)
        where
          none_some : None ≡ Some s → ⊥
          none_some h = cc
      cases (g ∷ xs) q =
          let z = found_closed g xs (moved_run (pos n) g) (subst AllSure q (all_sure rs)) in
          let h : z.spread ≡ s = some_same (sym z.is ∙ ap (spread_of None) (sym q) ∙ sym (spread_sure None rs) ∙ e) in
          let w : width n s ≡ widest g (xs ++ moved_run (pos n) g ∷ []) =
          ap (width n) (sym h) ∙ ap (λ f. max z.spread.widest (above_zero ((f +ℤ pos n) -ℤ z.spread.previous))) z.first_is ∙ z.width_is in
          let l = in_step_widest limit g (xs ++ moved_run (pos n) g ∷ []) in
          let f = D.follow_in_time Owned Sure n k law starts rising limit ts told (IsNamed n starts) (named_up n starts)
          (named_down n starts) (named_is n starts each_below) (named_in n starts)
          g xs (subst (Matches starts 0) q matches) (let c : length starts ≡ length (g ∷ xs) = sym count ∙ ap length q in omega arith)
          (subst (AllByRecursion (IsRunOf Owned Sure (suc k))) q are) (subst (AllByRecursion (λ r. r.start <ℤ pos n)) q below)
          in
          let first : Contains starts (slice_index_or starts 0 0) = Contains-get_or starts 0 0 (let c = sym count ∙ ap length q in omega arith) in (
            (λ le. record {
              named = (slice_index_or starts 0 0, first);
              sure = λ start h. (found_starts start).0 h;
              in_time = f.0 (l.1 (subst (λ x. x ≤ limit) w le));
            }),
            (λ c. subst (λ x. x ≤ limit) (sym w) (l.0 (f.1 c.in_time))),
          )

  pub least_limit : IsLeastLimit (λ limit others. Covers Owned Sure n (suc k) limit others) n starts (spread_of None rs)
  least_limit = on (spread_of None rs) refl
    where
      on : (o : Option Spread) → spread_of None rs ≡ o → IsLeastLimit (λ limit others. Covers Owned Sure n (suc k) limit others) n starts o
      on None e = found_none e
      on (Some s) e = (found_some s e, (λ limit others c. (found_some s e limit).1 (found_more limit others c)))
