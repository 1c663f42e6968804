-- Something is late if and only if nothing serves some tuning slot.
use Rattle.std.proofs.Common.{◌≡◌, ℕ, ◌+◌, ◌-◌, ◌*◌, ◌/◌, ◌%◌, ◌<◌, ◌≤◌, ℤ, pos, negsuc, ◌+ℤ◌, ◌<ℤ◌, ◌≤ℤ◌, true, nat_lt, List, [], ◌∷◌, length}
use Rattle.std.proofs.Common.{slice_index_or, Option, Some, None, ap, subst, inl, inr, arith}
use Rattle.std.specs.List.{AllByRecursion, Contains}
use Rattle.std.proofs.Math.Nat.{mul-le-mul_left, mod-eq_of_lt}
use Rattle.std.proofs.lemmas.Int.{ints}
use Rattle.std.proofs.lemmas.Bool.{cases_lt, cond_both}
use Rattle.std.proofs.lemmas.Bool.Decides.{nat_tests}
use Rattle.std.proofs.lemmas.List.Elements.{Contains-get_or, at_from_Contains}
use Rattle.ttx_page.proofs.SlotDistances.{cases_ltz}
use Rattle.ttx_page.specs.Pages.{Page, needed}
use Rattle.ttx_page.specs.declared.item.Item.{Item}
use Rattle.ttx_page.specs.declared.item.Item.TheVariants.{Head as TheHead}
use Rattle.ttx_page.specs.Laws.{OwnersAreUnique, OwnersDontFall, RunsRise, CyclesRepeat, StreamsMove}
use Rattle.ttx_page.specs.Streams.{repeated, turned, run_length, IsOwned, IsRun, EndsBelow}
use Rattle.ttx_witness.specs.runs.Confirming.{Rising, late_after}
use Rattle.ttx_witness.specs.Coverage.{Certificate, limit, IsSureStart}
use Rattle.ttx_witness.specs.laws.CycleLaws.{progress_of}
use Rattle.ttx_witness.specs.laws.JudgingLaws.{ItemsAreJudged, HeadersAreJudged, IsLateAnswer, IsHeaderAnswer, late_header}
use Rattle.ttx_witness.specs.laws.LateLaws.{IsServed, LateIsUnserved, HasHeaderInTime, LateBlankIsUnserved}
use Rattle.ttx_witness.specs.faults.Reasons.{LateAt, LateBlankAt}
use Rattle.ttx_witness.specs.runs.Repeating.{next_start}
use Rattle.ttx_witness.specs.sent.ItemTransmissions.{sent_in}
use Rattle.ttx_witness.proofs.lemmas.sent.RunLengths.{some_run}

pub record StartLaws : Type 0 where
  pub judged : ItemsAreJudged
  pub one_owner : OwnersAreUnique
  pub owners : OwnersDontFall
  pub rise : RunsRise
  pub period : CyclesRepeat
  pub move : StreamsMove

-- the next named start

module _ (n : ℕ) (starts : List ℕ) (rising : Rising starts) (within : (i : ℕ) → i < length starts → slice_index_or starts i 0 < n) where
  abbrev at : ℕ → ℕ
  at i = slice_index_or starts i 0

  -- greater starts have greater indexes
  place_after : (i j : ℕ) → i < length starts → at i < at j → i < j
  place_after i j lt more = elim (cases_lt i j) as (λ _. i < j) [
    | inl less ↦ less
    | inr ge ↦ elim (cases_lt j i) as (λ _. i < j) [
      | inl up ↦ let r = rising j i up lt in absurd (omega arith)
      | inr le ↦ let e : i ≡ j = omega arith in let same : at i ≡ at j = ap at e in absurd (omega arith)
    ]
  ]

  not_falling : (i j : ℕ) → i ≤ j → j < length starts → at i ≤ at j
  not_falling i j le lt = elim (cases_lt i j) as (λ _. at i ≤ at j) [
    | inl less ↦ let r = rising i j less lt in omega arith
    | inr ge ↦ let e : i ≡ j = omega arith in let same : at i ≡ at j = ap at e in omega arith
  ]

  -- no named slot is between a named start and the next one
  next_is_least : (i m : ℕ) → i < length starts → at i < m → Contains starts (m % n) → next_start n starts i ≤ℤ pos m
  next_is_least i m lt more named =
      let a = at_from_Contains starts (m % n) named in
      let here : at a.0 ≡ m % n = a.2 0 in
      let some : 0 < n = let b = within i lt in omega arith in
      elim (cases_lt m n) as (λ _. next_start n starts i ≤ℤ pos m) [
        | inl inside ↦
            let same : m % n ≡ m = rem_small m n inside in
            let later : i < a.0 = place_after i a.0 lt (omega arith) in
            let next = not_falling (i + 1) a.0 (omega arith) a.1 in
            cond_both (nat_lt (i + 1) (length starts)) _ _ (λ x. x ≤ℤ pos m) (λ t. omega (arith, ints))
            (λ f. let l : length starts ≤ i + 1 = grind (arith, nat_tests) in absurd (let b = a.1 in omega arith))
        | inr past ↦
            cond_both (nat_lt (i + 1) (length starts)) _ _ (λ x. x ≤ℤ pos m)
            (λ t. let l : i + 1 < length starts = grind (arith, nat_tests) in let b = within (i + 1) l in omega (arith, ints))
            (λ f. let first = not_falling 0 a.0 (omega arith) a.1 in let round = rem_round m n some past in omega (arith, ints))
      ]
    where
      rem_small : (m n : ℕ) → m < n → m % n ≡ m
      rem_small m n lt = mod-eq_of_lt lt

      rem_round : (m n : ℕ) → 0 < n → n ≤ m → m % n + n ≤ m
      rem_round m n some ge =
          let one : 1 ≤ m / n = elim (cases_lt 0 (m / n)) as (λ _. 1 ≤ m / n) [
            | inl more ↦ omega arith
            | inr none ↦ let z : m / n ≡ 0 = omega arith in let e : n * (m / n) ≡ n * 0 = ap (λ q. n * q) z in absurd (omega arith)
          ] in
          let whole : n * 1 ≤ n * (m / n) = mul-le-mul_left n one in
          omega arith

-- named starts

-- what is below an end is below a later one
all_below : (end later : ℤ) → end ≤ℤ later → (xs : List ℤ) → AllByRecursion (λ x. x <ℤ end) xs → AllByRecursion (λ x. x <ℤ later) xs
all_below end later le [] all = tt
all_below end later le (x ∷ xs) all = (let lt = all.0 in omega (arith, ints), all_below end later le xs all.1)

module _ (laws : StartLaws) (cycle : List (List ℕ)) (some : 1 ≤ length cycle) (p : Page) (w : Certificate) (item : Item)
    (repeats : 1 ≤ w.repeat) (rising : Rising (w.starts p.id item))
    (need : needed p item ≡ true) (named : (start : ℕ) × Contains (w.starts p.id item) start)
    (sure : (start : ℕ) → Contains (w.starts p.id item) start → IsSureStart cycle p.id w.lines w.repeat item start) where
  abbrev starts : List ℕ
  starts = w.starts p.id item

  abbrev n : ℕ
  n = length cycle

  inside : (i : ℕ) → i < length starts → slice_index_or starts i 0 < n
  inside i lt = (sure (slice_index_or starts i 0) (Contains-get_or starts i 0 lt)).0

  -- the run from a named start, and from its repetitions
  abbrev HasRun : ℤ → Type 0
  HasRun i = (rest : List ℤ) × IsRun (repeated cycle) p.id w.repeat item i rest

  run_at : (i : ℕ) → i < length starts → HasRun (pos (slice_index_or starts i 0))
  run_at i lt = let r = (sure (slice_index_or starts i 0) (Contains-get_or starts i 0 lt)).1 in (r.rest, r.run)

  run_again : (i : ℕ) → i < length starts → HasRun (pos (slice_index_or starts i 0) +ℤ pos n)
  run_again i lt =
      let moved = (laws.move (repeated cycle) (pos n) (laws.period cycle some)).run p.id w.lines w.repeat item
      (pos (slice_index_or starts i 0)) (sure (slice_index_or starts i 0) (Contains-get_or starts i 0 lt)).1 in
      (moved.rest, moved.run)

  next_run : (i : ℕ) → i < length starts → HasRun (next_start n starts i)
  next_run i lt = cond_both (nat_lt (i + 1) (length starts)) _ _ HasRun (λ t. run_at (i + 1) (grind (arith, nat_tests)))
      (λ f. run_again 0 (omega arith))

  -- a run that starts no earlier than another ends no earlier
  ends_by : (i j end : ℤ) → i ≤ℤ j → HasRun i → EndsBelow (repeated cycle) p.id w.repeat item j (end +ℤ pos 1) →
      EndsBelow (repeated cycle) p.id w.repeat item i (end +ℤ pos 1)
  ends_by i j end le run later = elim (cases_ltz i j) as (λ _. EndsBelow (repeated cycle) p.id w.repeat item i (end +ℤ pos 1)) [
    | inl lt ↦ record {
      rest = run.0;
      run = run.1;
      ends = all_below end (end +ℤ pos 1) (omega (arith, ints)) (i ∷ run.0)
          (laws.rise (repeated cycle) p.id w.repeat item i j run.0 later.rest lt run.1 later.run end later.ends);
    }
    | inr ge ↦ let e : j ≡ i = omega (arith, ints) in subst (λ x. EndsBelow (repeated cycle) p.id w.repeat item x (end +ℤ pos 1)) e later
  ]

  -- the slot after the owner of a late start is not served
  unserved : (start : ℕ) → LateAt cycle p w item start → (tau : ℤ) × (IsServed cycle p w item tau → ⊥)
  unserved start l = (
    l.owner +ℤ pos 1,
    λ s.
        let first : pos start <ℤ s.0 = elim (cases_ltz (pos start) s.0) as (λ _. pos start <ℤ s.0) [
          | inl lt ↦ lt
          | inr ge ↦ absurd (elim (cases_ltz s.0 (pos start)) as (λ _. ⊥) [
            | inl before ↦ let o = laws.owners (repeated cycle) p.id item item s.1 l.owner s.0 (pos start) before s.3 l.owned in let b =
                s.4 in omega (arith, ints)
            | inr after ↦
                let e : s.0 ≡ pos start = omega (arith, ints) in
                let o = laws.one_owner (repeated cycle) p.id item s.1 l.owner (pos start)
                (subst (λ x. IsOwned (repeated cycle) p.id item s.1 x) e s.3) l.owned in
                let b = s.4 in
                omega (arith, ints)
          ])
        ] in
        let next = from_next l.index l.within (subst (λ x. pos x <ℤ s.0) l.is first) s.2 in
        let ends : EndsBelow (repeated cycle) p.id w.repeat item s.0 ((l.owner +ℤ pos (limit w)) +ℤ pos 1) =
        let e : (l.owner +ℤ pos 1) +ℤ pos (limit w) ≡ (l.owner +ℤ pos (limit w)) +ℤ pos 1 = omega (arith, ints)
        in subst (λ x. EndsBelow (repeated cycle) p.id w.repeat item s.0 x) e s.5 in
        l.late (ends_by (next_start n starts l.index) s.0 (l.owner +ℤ pos (limit w)) next (next_run l.index l.within) ends),
  )
    where
      from_next : (i : ℕ) → i < length starts → {x : ℤ} → pos (slice_index_or starts i 0) <ℤ x → Contains starts (turned n x) →
          next_start n starts i ≤ℤ x
      from_next i lt {x = pos m} more c = next_is_least n starts rising inside i m lt (omega (arith, ints)) c
      from_next i lt {x = negsuc m} more c = absurd (omega (arith, ints))

  -- if each start is sure, a tuning slot that is not served yields a late start
  late : (tau : ℤ) → (IsServed cycle p w item tau → ⊥) → (start : ℕ) × LateAt cycle p w item start
  late tau none =
      let one = some_run w.repeat item repeats in
      let judged = laws.judged cycle some p w item (run_length w.repeat item - 1) (omega arith) rising need in
      let progress = progress_of cycle p w item (run_length w.repeat item - 1) in
      let all : progress.next ≡ length starts = elim (cases_lt progress.next (length starts)) as (λ _. progress.next ≡ length starts) [
        | inl lt ↦ let b = (judged.1 lt).0 in absurd (b.bad (sure _ b.named))
        | inr ge ↦ let le = judged.0 in omega arith
      ] in
      let any : 0 < length starts = let k = named.1.1 in omega arith in
      told (late_after (limit w) starts progress (progress.first_end +ℤ pos (length cycle))) (judged.3 all any)
    where
      told : (o : Option ℕ) → IsLateAnswer cycle p w item o → (start : ℕ) × LateAt cycle p w item start
      told None a = absurd (none (a.0.in_time tau))
      told (Some start) a = (start, a.0)

pub late_is_unserved : StartLaws → LateIsUnserved
late_is_unserved laws cycle some p w item repeats rising need named sure = (
  (λ l. unserved laws cycle some p w item repeats rising need named sure l.0 l.1),
  (λ t. late laws cycle some p w item repeats rising need named sure t.0 t.1),
)

-- headers

pub late_blank_is_unserved : HeadersAreJudged → LateBlankIsUnserved
late_blank_is_unserved judged cycle some p w item header need clearing blank none = (
  (λ l. (
    pos l.0 +ℤ pos 1,
    λ i.
        let low = i.1 in
        let high = i.2 in
        let not_here = l.1.late i.0 (omega (arith, ints)) (omega (arith, ints)) in
        let here = i.3 in
        cc,
  )),
  (λ t. told t.0 t.1 (late_header (limit w) (length cycle) (sent_in cycle p.id w.lines TheHead)) (judged cycle some p w header)),
)
  where
    told : (tau : ℤ) → (HasHeaderInTime cycle p w tau → ⊥) → (o : Option ℕ) → IsHeaderAnswer cycle p w o → (h : ℕ) × LateBlankAt cycle p w item h
    told tau without None a = absurd (without (a.0 tau))
    told tau without (Some h) a = (h, (a item need clearing blank none).0)
