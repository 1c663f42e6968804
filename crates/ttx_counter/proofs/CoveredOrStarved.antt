-- If all sure runs of an item are named, they cover it, or from some tuning slot on none of them comes in time.
use Rattle.std.proofs.Common.{◌≡◌, ◌⊎◌, ℕ, suc, ◌+◌, ◌-◌, ◌<◌, ◌≤◌, ℤ, pos, ◌+ℤ◌, ◌-ℤ◌, ◌<ℤ◌, ◌≤ℤ◌, List, [], ◌∷◌, length, get_or, Option, Some, None}
use Rattle.std.proofs.Common.{refl, ap, subst, inl, inr, arith}
use Rattle.std.specs.Prelude.{nat_lt}
use Rattle.std.specs.List.{Contains, AllByRecursion}
use Rattle.std.proofs.lemmas.Int.{ints}
use Rattle.std.proofs.lemmas.Bool.{cases_lt, cond_both}
use Rattle.std.proofs.lemmas.Bool.Decides.{nat_tests}
use Rattle.std.proofs.lemmas.List.Elements.{Contains-get_or}
use Rattle.ttx_page.proofs.SlotDistances.{cases_ltz}
use Rattle.ttx_page.specs.Pages.{Page}
use Rattle.ttx_page.specs.declared.item.Item.{Item}
use Rattle.ttx_page.specs.declared.item.Item.TheVariants.{Head as TheHead, Row as TheRow, Links as TheLinks}
use Rattle.ttx_page.specs.Streams.{Stream, repeated, turned, run_length, IsOwned, IsSure, IsRun, HasSureRun, EndsBelow, IsSent}
use Rattle.ttx_page.specs.Laws.{EachSlotTurns, StreamsMove, CyclesRepeat, OwnersAreUnique, OwnersDontFall, RunsRise}
use Rattle.ttx_witness.specs.runs.Confirming.{Rising, late_after}
use Rattle.ttx_witness.specs.declared.runs.confirmation.Progress.{Progress}
use Rattle.ttx_witness.specs.runs.Repeating.{BeginsSureRun, RunEndsBelow, IsLate, IsFirst, next_start}
use Rattle.ttx_witness.specs.Coverage.{Certificate, limit, IsSureStart, IsCovered}
use Rattle.ttx_witness.specs.laws.CycleLaws.{CoverageIsDecided, FirstsAreFound, progress_of}
use Rattle.ttx_counter.specs.Starving.{NamesAll, Starves}
use Rattle.ttx_counter.specs.Completeness.{CoveredOrStarved}
use Rattle.ttx_counter.proofs.NextNamedStarts.{next_at_most}

-- the laws that are cited
pub record DecidingLaws : Type 0 where
  pub turn : EachSlotTurns
  pub move : StreamsMove
  pub again : CyclesRepeat
  pub one_owner : OwnersAreUnique
  pub owners_rise : OwnersDontFall
  pub runs_rise : RunsRise
  pub decided : CoverageIsDecided
  pub firsts : FirstsAreFound

pub run_some : (repeat : ℕ) (item : Item) → 1 ≤ repeat → run_length repeat item ≡ suc (run_length repeat item - 1)
run_some repeat TheHead some = omega arith
run_some repeat (TheRow r) some = omega arith
run_some repeat TheLinks some = refl

all_weaker : (a b : ℤ) → a ≤ℤ b → (xs : List ℤ) → AllByRecursion (λ j. j <ℤ a) xs → AllByRecursion (λ j. j <ℤ b) xs
all_weaker a b le [] h = tt
all_weaker a b le (x ∷ xs) h = ((let k = h.0 in omega (arith, ints)), all_weaker a b le xs h.1)

cases_option : {A : Type 0} (P : Type 0) (o : Option A) → (o ≡ None → P) → ((a : A) → o ≡ Some a → P) → P
cases_option P None f g = f refl
cases_option P (Some a) f g = g a refl

module _ (laws : DecidingLaws) (cycle : List (List ℕ)) (some : 0 < length cycle) (p : Page) (w : Certificate) (item : Item) (repeats : 1 ≤ w.repeat)
    (rising : Rising (w.starts p.id item)) (names : NamesAll cycle p w item) where
  abbrev s : Stream
  s = repeated cycle

  abbrev n : ℕ
  n = length cycle

  abbrev starts : List ℕ
  starts = w.starts p.id item

  abbrev k : ℕ
  k = run_length w.repeat item - 1

  len : run_length w.repeat item ≡ suc k
  len = run_some w.repeat item repeats

  -- each sure run begins at a named start
  named_at : (first : ℤ) → HasSureRun s p.id w.lines w.repeat item first → Contains starts (turned n first)
  named_at first run =
      let t = laws.turn n first some in
      let moves = laws.move s t.by (λ j. ap (λ x. get_or cycle x []) (t.same j)) in
      let back = laws.move s (pos 0 -ℤ t.by) moves.back in
      let e : first +ℤ (pos 0 -ℤ t.by) ≡ pos (turned n first) = omega (arith, ints, t.place) in
      (names (turned n first)).1 (t.inside, subst (HasSureRun s p.id w.lines w.repeat item) e (back.run p.id w.lines w.repeat item first run))

  sure_of : (tau end : ℤ) → (x : IsSent s p.id w.lines w.repeat item tau end) → HasSureRun s p.id w.lines w.repeat item x.first
  sure_of tau end x = record { rest = x.rest; run = x.run; all_sure = x.all_sure }

  pub start_at : (j : ℕ) → j < length starts → IsSureStart cycle p.id w.lines w.repeat item (get_or starts j 0)
  start_at j lt = (names (get_or starts j 0)).0 (Contains-get_or starts j 0 lt)

  -- a sure run begins at the start that follows a named one
  run_at_next : (i : ℕ) → i < length starts → HasSureRun s p.id w.lines w.repeat item (next_start n starts i)
  run_at_next i inside =
      cond_both (nat_lt (i + 1) (length starts)) (pos (get_or starts (i + 1) 0)) (pos (get_or starts 0 0) +ℤ pos n)
      (HasSureRun s p.id w.lines w.repeat item)
      (λ e. (start_at (i + 1) (grind (arith, nat_tests))).1)
      (λ e. (laws.move s (pos n) (laws.again cycle some)).run p.id w.lines w.repeat item (pos (get_or starts 0 0)) (start_at 0 (omega arith)).1)

  -- if the next run comes too late after a named start, none comes in time from the slot after its owner on
  pub late_none : (i : ℕ) → (late : IsLate (IsOwned s p.id item) n (suc k) (limit w) starts i) →
      IsSent s p.id w.lines w.repeat item (late.owner +ℤ pos 1) ((late.owner +ℤ pos 1) +ℤ pos (limit w)) → ⊥
  late_none i late = none
    where
      end : ℤ
      end = (late.owner +ℤ pos (limit w)) +ℤ pos 1

      after : (x : IsSent s p.id w.lines w.repeat item (late.owner +ℤ pos 1) ((late.owner +ℤ pos 1) +ℤ pos (limit w))) →
          pos (get_or starts i 0) <ℤ x.first
      after x = elim (cases_ltz (pos (get_or starts i 0)) x.first) as (λ _. pos (get_or starts i 0) <ℤ x.first) [
        | inl lt ↦ lt
        | inr ge ↦ elim (cases_ltz x.first (pos (get_or starts i 0))) as (λ _. pos (get_or starts i 0) <ℤ x.first) [
          | inl lt ↦
              let q : x.owner ≤ℤ late.owner = laws.owners_rise s p.id item item x.owner late.owner x.first (pos (get_or starts i 0)) lt
              x.owned late.owned in
              let b = x.not_before in absurd (omega (arith, ints))
          | inr le ↦
              let e : x.first ≡ pos (get_or starts i 0) = omega (arith, ints) in
              let q : x.owner ≡ late.owner = laws.one_owner s p.id item x.owner late.owner (pos (get_or starts i 0))
              (subst (IsOwned s p.id item x.owner) e x.owned) late.owned in
              let b = x.not_before in absurd (omega (arith, ints))
        ]
      ]

      none : IsSent s p.id w.lines w.repeat item (late.owner +ℤ pos 1) ((late.owner +ℤ pos 1) +ℤ pos (limit w)) → ⊥
      none x =
          let next = next_start n starts i in
          let le : next ≤ℤ x.first = next_at_most n starts rising i late.within (λ j lt. (start_at j lt).0) x.first (after x)
          (named_at x.first (sure_of _ _ x)) in
          let e : (late.owner +ℤ pos 1) +ℤ pos (limit w) ≡ end = omega (arith, ints) in
          let ends = subst (λ z. AllByRecursion (λ j. j <ℤ z) (x.first ∷ x.rest)) e x.ends in
          late.late (subst (λ z. RunEndsBelow (IsOwned s p.id item) z next end) len
          (elim (cases_ltz next x.first) as (λ _. EndsBelow s p.id w.repeat item next end) [
            | inl lt ↦
                let run = run_at_next i late.within in
                record {
                  rest = run.rest;
                  run = run.run;
                  ends = all_weaker (late.owner +ℤ pos (limit w)) end (omega (arith, ints)) (next ∷ run.rest)
                      (laws.runs_rise s p.id w.repeat item next x.first run.rest x.rest lt run.run x.run (late.owner +ℤ pos (limit w)) ends);
                }
            | inr ge ↦
                let same : x.first ≡ next = omega (arith, ints) in
                record {
                  rest = x.rest;
                  run = subst (λ z. IsRun s p.id w.repeat item z x.rest) same x.run;
                  ends = subst (λ z. AllByRecursion (λ j. j <ℤ end) (z ∷ x.rest)) same ends;
                }
          ]))

  -- without a sure run there is none from slot 0 on
  pub start_none : length starts ≡ 0 → IsSent s p.id w.lines w.repeat item (pos 0) (pos 0 +ℤ pos (limit w)) → ⊥
  start_none empty x = let c = named_at x.first (sure_of _ _ x) in let lt = c.1 in omega arith

  abbrev m : Progress
  m = progress_of cycle p w item k

  pub next_low : m.next ≤ length starts
  next_low = (laws.firsts cycle some p w item k len rising).0

  pub all_confirmed : 0 < length starts → m.next ≡ length starts
  all_confirmed one =
      let f = laws.firsts cycle some p w item k len rising in
      elim (cases_lt m.next (length starts)) as (λ _. m.next ≡ length starts) [
        | inl less ↦
            let bad = (f.1 less).0 in
            let here = start_at m.next less in
            absurd (bad.bad (here.0, subst (λ z. BeginsSureRun (IsOwned s p.id item) (IsSure s w.lines p.id.mag item) z (pos (get_or starts m.next 0))) len here.1))
        | inr ge ↦ omega (arith, f.0)
      ]

  abbrev pub late_one : Option ℕ
  late_one = late_after (limit w) starts m (m.first_end +ℤ pos n)

  pub covered_if : 0 < length starts → late_one ≡ None → IsCovered cycle p w item
  covered_if one e = (laws.decided cycle some p w item k len rising).0 (record { some_named = one; all_confirmed = all_confirmed one; none_late = e })

  pub late_if : 0 < length starts → (a : ℕ) → late_one ≡ Some a → (i : ℕ) × (a ≡ get_or starts i 0)
      × IsLate (IsOwned s p.id item) n (suc k) (limit w) starts i
  late_if one a e =
      let f = laws.firsts cycle some p w item k len rising in
      let late = subst (IsFirst (IsLate (IsOwned s p.id item) n (suc k) (limit w) starts) starts) e (f.2 (all_confirmed one) one) in
      (late.0, late.1, late.2)

  decide : IsCovered cycle p w item ⊎ Starves s p.id w.lines w.repeat item (limit w)
  decide = elim (cases_lt 0 (length starts)) as (λ _. IsCovered cycle p w item ⊎ Starves s p.id w.lines w.repeat item (limit w)) [
    | inr none ↦ inr (record { tau = pos 0; none = start_none (omega arith) })
    | inl one ↦ cases_option (IsCovered cycle p w item ⊎ Starves s p.id w.lines w.repeat item (limit w)) late_one
        (λ e. inl (covered_if one e))
        (λ a e. let late = late_if one a e in inr (record { tau = late.2.owner +ℤ pos 1; none = late_none late.0 late.2 }))
  ]

pub covered_or_starved : DecidingLaws → CoveredOrStarved
covered_or_starved laws cycle some p w item repeats rising names = decide laws cycle some p w item repeats rising names
