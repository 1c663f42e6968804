-- Every tuning slot is served if and only if neighbouring named runs follow one another in time.
use Rattle.std.proofs.Common.{◌≡◌, ◌↔◌, ℕ, zero, suc, ℤ, pos, ◌+ℤ◌, ◌-ℤ◌, ◌<ℤ◌, ◌≤ℤ◌, nat_abs, List, [], ◌∷◌, ◌++◌, length, refl, sym, ap, subst, inl}
use Rattle.std.proofs.Common.{inr, arith}
use Rattle.std.specs.List.{AllByRecursion}
use Rattle.std.proofs.lemmas.Int.{ints}
use Rattle.ttx_page.proofs.SlotDistances.{cases_ltz}
use Rattle.ttx_witness.specs.runs.Transmissions.{Run, start_of, moved_run}
use Rattle.ttx_witness.specs.runs.Repeating.{Lists, Successive, Repeats, IsSentAt, RunEndsBelow, IsNamedRun, IsInTime, FollowInTime}
use Rattle.ttx_witness.proofs.lemmas.runs.Gaps as G
use Rattle.ttx_witness.proofs.AllBetween.{lists_join}
use Rattle.ttx_witness.proofs.lemmas.runs.MovedStreams.{minus, run_later, run_earlier}
use Rattle.ttx_witness.proofs.lemmas.runs.EveryPeriod.{everywhere}

module _ (Owned Sure : ℤ → ℤ → Type 0) (n k limit : ℕ) (law : Repeats n Owned Sure)
    (Named : ℤ → Type 0) (up : (i : ℤ) → Named i → Named (i +ℤ pos n)) (down : (i : ℤ) → Named i → Named (i -ℤ pos n)) where
  abbrev pub IsOne : Run → Type 0
  IsOne = IsNamedRun Owned Sure Named k

  abbrev pub InTime : ℤ → Type 0
  InTime = IsInTime Owned Named k limit

  pub is_at : (r : Run) → IsOne r → Named r.start
  is_at r a = a.named

  abbrev back : ℤ
  back = minus Owned Sure n k law

  named_on : (r : Run) → IsOne r → IsOne (moved_run (pos n) r)
  named_on r a = record { named = up r.start a.named; run = run_later Owned Sure n k law r a.run }

  named_back : (r : Run) → IsOne r → IsOne (moved_run back r)
  named_back r a = record {
    named = let e : r.start -ℤ pos n ≡ r.start +ℤ back = omega (arith, ints) in subst Named e (down r.start a.named);
    run = run_earlier Owned Sure n k law r a.run;
  }

  -- the next named run after slot i
  record HasNext (i : ℤ) : Type 0 where
    run : Run
    here : run.start ≡ i
    is : IsOne run
    next : Run
    next_is : IsOne next
    later : i <ℤ next.start
    in_time : next.end ≤ℤ (run.owner +ℤ pos limit)

  next_in : (low high : ℤ) (r : Run) (rest : List Run) (last : Run) → Lists start_of Named IsOne low high (r ∷ rest ++ last ∷ []) →
      FollowInTime limit r (rest ++ last ∷ []) →
      (i : ℤ) → Named i → low ≤ℤ i → i <ℤ last.start → HasNext i
  next_in low high r [] last l st i p a b = elim (cases_ltz i r.start) as (λ _. HasNext i) [
    | inl lt ↦ absurd (l.3 i a lt p)
    | inr ge ↦ elim (cases_ltz r.start i) as (λ _. HasNext i) [
      | inl gt ↦ absurd (l.4.3 i (omega (arith, ints)) b p)
      | inr le ↦ record { run = r; here = omega (arith, ints); is = l.0; next = last; next_is = l.4.0; later = b; in_time = st.0 }
    ]
  ]
  next_in low high r (q ∷ rest) last l st i p a b = elim (cases_ltz i r.start) as (λ _. HasNext i) [
    | inl lt ↦ absurd (l.3 i a lt p)
    | inr ge ↦ elim (cases_ltz r.start i) as (λ _. HasNext i) [
      | inl gt ↦ next_in (r.start +ℤ pos 1) high q rest last l.4 st.1 i p (omega (arith, ints)) b
      | inr le ↦ record {
        run = r;
        here = omega (arith, ints);
        is = l.0;
        next = q;
        next_is = l.4.0;
        later = let g = l.4.1
            in omega (arith, ints);
        in_time = st.0;
      }
    ]
  ]

  -- a later run ends later
  ends_rise : (P : ℤ → Type 0) (i j e : ℤ) (xs ys : List ℤ) → length xs ≡ length ys → i ≤ℤ j → Successive P (i ∷ xs) → Successive P (j ∷ ys) →
      AllByRecursion (λ x. x <ℤ e) (j ∷ ys) → AllByRecursion (λ x. x <ℤ e) (i ∷ xs)
  ends_rise P i j e [] ys len le a b c = let k = c.0 in (omega (arith, ints), tt)
  ends_rise P i j e (x ∷ xs) [] len le a b c = absurd (omega arith)
  ends_rise P i j e (x ∷ xs) (y ∷ ys) len le a b c =
      let order : x ≤ℤ y = elim (cases_ltz y x) as
      (λ _. x ≤ℤ y) [ inl lt ↦ absurd (a.2 y (let k = b.1 in omega (arith, ints)) lt (holds y ys b.3)) | inr ge ↦ ge ] in
      ((let k = c.0 in omega (arith, ints)), ends_rise P x y e xs ys (omega arith) order a.3 b.3 c.1)
    where
      holds : (x : ℤ) (xs : List ℤ) → Successive P (x ∷ xs) → P x
      holds x [] a = a
      holds x (y ∷ xs) a = a.0

  next_on : (i : ℤ) → HasNext i → HasNext (i +ℤ pos n)
  next_on i h = record {
    run = moved_run (pos n) h.run;
    here = ap (λ x. x +ℤ pos n) h.here;
    is = named_on h.run h.is;
    next = moved_run (pos n) h.next;
    next_is = named_on h.next h.next_is;
    later = let e = h.later in omega (arith, ints);
    in_time = let e = h.in_time in omega (arith, ints);
  }

  next_back : (i : ℤ) → HasNext i → HasNext (i -ℤ pos n)
  next_back i h = record {
    run = moved_run back h.run;
    here = let e = h.here in omega (arith, ints);
    is = named_back h.run h.is;
    next = moved_run back h.next;
    next_is = named_back h.next h.next_is;
    later = let e = h.later in omega (arith, ints);
    in_time = let e = h.in_time in omega (arith, ints);
  }

  abbrev Start : ℤ → Type 0
  Start i = (r : Run) × (r.start ≡ i) × IsOne r

  abbrev start_owner : (i : ℤ) → Start i → ℤ
  start_owner i a = a.0.owner

  abbrev start_end : (i : ℤ) → Start i → ℤ
  start_end i a = a.0.end

  near : (i : ℤ) (a : Start i) → i ≤ℤ (start_owner i a +ℤ pos n)
  near i a = let k : a.0.start ≤ℤ (a.0.owner +ℤ pos n) = law.near a.0.owner a.0.start a.2.run.owned in subst (λ z. z ≤ℤ (a.0.owner +ℤ pos n)) a.1 k

  -- some start is before any given slot
  early : (tau : ℤ) (fuel : ℕ) (r : Run) → IsOne r → r.owner <ℤ (tau +ℤ pos fuel) → (i : ℤ) × (a : Start i) × (start_owner i a <ℤ tau)
  early tau zero r a lt = let k : r.owner <ℤ tau = omega (arith, ints) in (r.start, (r, refl, a), k)
  early tau (suc fuel) r a lt = early tau fuel (moved_run back r) (named_back r a) (omega (arith, ints))

  -- the named runs of one period, and the first of the next
  module _ (first : Run) (rest : List Run) (high : ℤ)
      (lists : Lists start_of Named IsOne (pos 0) high (first ∷ rest ++ moved_run (pos n) first ∷ [])) where
    all_next : FollowInTime limit first (rest ++ moved_run (pos n) first ∷ []) → (i : ℤ) → Named i → HasNext i
    all_next st = everywhere n law.some (λ i. Named i → HasNext i)
        (λ i a b p. next_in (pos 0) high first rest (moved_run (pos n) first) lists st i p a (let l = lists.1 in omega (arith, ints)))
        (λ i h p. next_on i (h (let e : (i +ℤ pos n) -ℤ pos n ≡ i = omega (arith, ints) in subst Named e (down (i +ℤ pos n) p))))
        (λ i h p. next_back i (h (let e : (i -ℤ pos n) +ℤ pos n ≡ i = omega (arith, ints) in subst Named e (up (i -ℤ pos n) p))))

    -- if each follows in time, every tuning slot is served
    pub served : FollowInTime limit first (rest ++ moved_run (pos n) first ∷ []) → (tau : ℤ) → InTime tau
    served st tau =
        let begin = early tau (suc (nat_abs (first.owner -ℤ tau))) first lists.0 (omega (arith, ints)) in
        let it = G.in_time_from Start start_owner start_end n limit near
        (λ i a. let h = all_next st i (subst Named a.1 a.2.named) in
        let e : a.0.owner ≡ h.run.owner = law.one_owner a.0.owner h.run.owner i
        (subst (Owned a.0.owner) a.1 a.2.run.owned) (subst (Owned h.run.owner) h.here h.is.run.owned) in
        let k : h.next.end ≤ℤ (a.0.owner +ℤ pos limit) = subst (λ z. h.next.end ≤ℤ (z +ℤ pos limit)) (sym e) h.in_time in
        record { next = h.next.start; start = (h.next, refl, h.next_is); later = h.later; in_time = k })
        tau begin.0 begin.1 begin.2 in
        record {
          start = it.at;
          owner = it.start.0.owner;
          named = subst Named it.start.1 it.start.2.named;
          owned = subst (Owned it.start.0.owner) it.start.1 it.start.2.run.owned;
          not_before = it.not_before;
          ends = subst (λ z. RunEndsBelow Owned k z (tau +ℤ pos limit)) it.start.1 ((it.start.2.run.ends (tau +ℤ pos limit)).0 it.ends);
        }

  -- if one does not, the slot after its owner is not served
  pub unserved : (r next : Run) → IsOne r → IsOne next → r.start <ℤ next.start → ((x : ℤ) → r.start <ℤ x → x <ℤ next.start → Named x → ⊥) →
      (r.owner +ℤ pos limit) <ℤ next.end → InTime (r.owner +ℤ pos 1) → ⊥
  unserved r next a b lt none late t =
      let after : r.start <ℤ t.start = elim (cases_ltz r.start t.start) as (λ _. r.start <ℤ t.start) [
        | inl up ↦ up
        | inr dn ↦ let k = law.order t.owner r.owner t.start r.start dn t.owned a.run.owned in let g = t.not_before in absurd (omega (arith, ints))
      ] in
      let from : next.start ≤ℤ t.start = elim (cases_ltz t.start next.start) as (λ _. next.start ≤ℤ t.start) [
        | inl dn ↦ absurd (none t.start after dn t.named)
        | inr up ↦ up
      ] in
      let k = (b.run.ends ((r.owner +ℤ pos 1) +ℤ pos limit)).1
      (earlier_ends next.start t.start ((r.owner +ℤ pos 1) +ℤ pos limit) from
      ((b.run.ends (next.end +ℤ pos 1)).0 (omega (arith, ints))) t.ends) in
      omega (arith, ints)
    where
      earlier_ends : (i j e : ℤ) {f : ℤ} → i ≤ℤ j → RunEndsBelow Owned k i f → RunEndsBelow Owned k j e → RunEndsBelow Owned k i e
      earlier_ends i j e le x y = record {
        rest = x.rest;
        run = x.run;
        ends = let c = x.run.count in let d = y.run.count in ends_rise (IsSentAt Owned) i j e x.rest y.rest (omega arith) le
            x.run.successive y.run.successive y.ends;
      }

  in_step_of : ((tau : ℤ) → InTime tau) → (low high : ℤ) (r : Run) (rest : List Run) → Lists start_of Named IsOne low high (r ∷ rest) →
      FollowInTime limit r rest
  in_step_of all low high r [] l = tt
  in_step_of all low high r (q ∷ rest) l = (
    elim (cases_ltz (r.owner +ℤ pos limit) q.end) as (λ _. q.end ≤ℤ (r.owner +ℤ pos limit)) [
      | inl late ↦ absurd (unserved r q l.0 l.4.0 (let g = l.4.1 in omega (arith, ints))
          (λ x a b p. l.4.3 x (omega (arith, ints)) b p) late (all (r.owner +ℤ pos 1)))
      | inr ge ↦ ge
    ],
    in_step_of all (r.start +ℤ pos 1) high q rest l.4,
  )

  -- the named runs of a period, and the first of the next, with none between two of them
  chain : (first : Run) (rest : List Run) → Lists start_of Named IsOne (pos 0) (pos n) (first ∷ rest) →
      Lists start_of Named IsOne (pos 0) ((first.start +ℤ pos n) +ℤ pos 1) (first ∷ rest ++ moved_run (pos n) first ∷ [])
  chain first rest l =
      let a = l.1 in let b = l.2 in
      lists_join start_of Named IsOne is_at (pos 0) (pos n) ((first.start +ℤ pos n) +ℤ pos 1) (first ∷ rest)
      (moved_run (pos n) first ∷ []) (omega (arith, ints)) (omega (arith, ints)) l (
        named_on first l.0,
        omega (arith, ints),
        omega (arith, ints),
        (λ x low high p. l.3 (x -ℤ pos n) (omega (arith, ints)) (omega (arith, ints)) (down x p)),
        (λ x low high p. absurd (omega (arith, ints))),
      )

  -- the law of neighbours
  pub neighbours : (first : Run) (rest : List Run) → Lists start_of Named IsOne (pos 0) (pos n) (first ∷ rest) →
      FollowInTime limit first (rest ++ moved_run (pos n) first ∷ []) ↔ ((tau : ℤ) → InTime tau)
  neighbours first rest l =
      let c = chain first rest l in
      let high = (first.start +ℤ pos n) +ℤ pos 1 in
      ((λ st. served first rest high c st), (λ all. in_step_of all (pos 0) high first (rest ++ moved_run (pos n) first ∷ []) c))
