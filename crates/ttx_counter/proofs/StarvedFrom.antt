-- From which slot on a receiver is starved of an item, as one pass over a period finds it.
use Rattle.std.proofs.Common.{◌≡◌, ◌↔◌, ℕ, zero, suc, ◌-◌, ◌<◌, ◌≤◌, ℤ, pos, ◌+ℤ◌, ◌<ℤ◌, ◌≤ℤ◌, Bool, true, false, ◌==◌, List, [], ◌∷◌, length, Some}
use Rattle.std.proofs.Common.{None, refl, sym, ap, ◌∙◌, subst, inl, inr, arith, eqb-true}
use Rattle.std.specs.List.{Contains, AllByRecursion}
use Rattle.std.proofs.lemmas.Int.{ints}
use Rattle.std.proofs.lemmas.List.Elements.{All-from_recursion}
use Rattle.ttx_page.proofs.SlotDistances.{cases_ltz}
use Rattle.ttx_page.specs.Pages.{Page}
use Rattle.ttx_page.specs.declared.item.Item.{Item}
use Rattle.ttx_page.specs.Streams.{repeated, turned, run_length, IsOwned}
use Rattle.ttx_cycle.specs.Files.{IsCycle}
use Rattle.ttx_witness.specs.runs.Confirming.{Rising, late_after, after_runs, not_begun}
use Rattle.ttx_witness.specs.declared.runs.confirmation.Progress.{Progress}
use Rattle.ttx_witness.specs.runs.Transmissions.{runs, slot_of}
use Rattle.ttx_witness.specs.declared.runs.transmissions.Transmission.{Transmission}
use Rattle.ttx_witness.specs.runs.Repeating.{Lists}
use Rattle.ttx_witness.specs.Coverage.{Certificate, IsCertificate, limit, IsSureStart, IsCovered}
use Rattle.ttx_witness.specs.laws.CycleLaws.{FurtherStartsCover, progress_of}
use Rattle.ttx_witness.specs.sent.ItemTransmissions.{sent_in}
use Rattle.ttx_witness.specs.laws.JudgingLaws.{TransmissionsAreListed}
use Rattle.ttx_witness.specs.runs.Tracks.{IsWithin}
use Rattle.ttx_counter.specs.Starving.{fullest, with_sure_starts}
use Rattle.ttx_counter.specs.Completeness.{StarvesFrom, StartsAreJudged, AreJudged, FullestNamesAll, late_start}
use Rattle.ttx_counter.specs.Refutations.{IsAfterOwner}
use Rattle.ttx_counter.proofs.CoveredOrStarved.{DecidingLaws, late_none, start_none, start_at, next_low, covered_if, late_if}
use Rattle.ttx_counter.proofs.StarvedCounterRuns.{starves_turned}

pub starts_are_judged : DecidingLaws → StartsAreJudged
starts_are_judged laws cycle some p w item repeats rising names = record {
  next = next_low laws cycle some p w item repeats rising names;
  none = λ e. record { inside = some; none = start_none laws cycle some p w item repeats rising names e };
  covered = covered_if laws cycle some p w item repeats rising names;
  sent = λ one at e.
      let l = late_if laws cycle some p w item repeats rising names one at e in
      let h = start_at laws cycle some p w item repeats rising names l.0 l.2.within in (
        subst (λ x. x < length cycle) (sym l.1) h.0,
        (l.2.owner, subst (λ x. IsOwned (repeated cycle) p.id item l.2.owner (pos x)) (sym l.1) l.2.owned),
      );
  late = λ one at e owner owned.
      let l = late_if laws cycle some p w item repeats rising names one at e in
      let same : l.2.owner ≡ owner = laws.one_owner (repeated cycle) p.id item l.2.owner owner (pos at)
      (subst (λ x. IsOwned (repeated cycle) p.id item l.2.owner (pos x)) (sym l.1) l.2.owned) owned in
      subst (λ x. StarvesFrom cycle p w item (turned (length cycle) (x +ℤ pos 1))) same
      (starves_turned laws.turn laws.move cycle some p w item (l.2.owner +ℤ pos 1) (late_none laws cycle some p w item repeats rising names l.0 l.2));
}

-- each element of a list, and the list of all
lists_tell : (P : ℤ → Type 0) (Is : Transmission → Type 0) (low high : ℤ) (ts : List Transmission) → Lists slot_of P Is low high ts →
    (t : Transmission) → Contains ts t → Is t
lists_tell P Is low high [] l t c = absurd (let lt = c.1 in omega arith)
lists_tell P Is low high (u ∷ ts) l t (zero, lt, e) = subst Is e l.0
lists_tell P Is low high (u ∷ ts) l t (suc i, lt, e) = lists_tell P Is (u.slot +ℤ pos 1) high ts l.4 t (i, (omega arith), e)

lists_have : (P : ℤ → Type 0) (Is : Transmission → Type 0) (low high : ℤ) (ts : List Transmission) → Lists slot_of P Is low high ts →
    (x : ℤ) → low ≤ℤ x → x <ℤ high → P x →
    (t : Transmission) × Contains ts t × (t.slot ≡ x)
lists_have P Is low high [] l x a b h = absurd (l x a b h)
lists_have P Is low high (u ∷ ts) l x a b h = elim (cases_ltz x u.slot) as (λ _. (t : Transmission) × Contains (u ∷ ts) t × (t.slot ≡ x)) [
  | inl before ↦ absurd (l.3 x a before h)
  | inr from ↦ elim (cases_ltz u.slot x) as (λ _. (t : Transmission) × Contains (u ∷ ts) t × (t.slot ≡ x)) [
    | inl after ↦
        let r = lists_have P Is (u.slot +ℤ pos 1) high ts l.4 x (omega (arith, ints)) b h in
        (r.0, (suc r.1.0, (let lt = r.1.1 in omega arith), r.1.2), r.2)
    | inr to ↦ (u, (0, (omega arith), refl), (omega (arith, ints)))
  ]
]

pub some_of : (b : Bool) (n : ℕ) → b ≡ (n == 0) → b ≡ false → 0 < n
some_of b zero e f = let h : true ≡ false = sym e ∙ f in cc
some_of b (suc n) e f = omega arith

pub none_of : (xs : List ℕ) (b : Bool) → b ≡ (length xs == 0) → b ≡ true → xs ≡ []
none_of [] b e f = refl
none_of (x ∷ xs) b e f = let n = eqb-true (length (x ∷ xs)) 0 (sym e ∙ f) in absurd (omega arith)

pub within_all : (ts : List Transmission) → AllByRecursion (IsWithin 65536) ts → (t : Transmission) → Contains ts t → t.owner ≤ℤ pos 65536
within_all ts h t c = subst (λ (x : Transmission). x.owner ≤ℤ pos 65536) c.2 (All-from_recursion (IsWithin 65536) ts h c.0 t c.1).owner_high

pub record StartLaws : Type 0 where
  pub judged : StartsAreJudged
  pub names : FullestNamesAll
  pub further : FurtherStartsCover
  pub listed : TransmissionsAreListed

module _ (laws : StartLaws) (cycle : List (List ℕ)) (is_cycle : IsCycle cycle) (p : Page) (w : Certificate) (is : IsCertificate w)
    (item : Item) (starts : List ℕ) (rising : Rising starts)
    (named : (start : ℕ) → Contains starts start ↔ IsSureStart cycle p.id w.lines w.repeat item start) where
  abbrev v : Certificate
  v = with_sure_starts w starts

  judged : AreJudged cycle p v item
  judged = laws.judged cycle is_cycle.some p v item is.some_repeats rising named

  starves : (start : ℕ) → StarvesFrom cycle p v item start → StarvesFrom cycle p w item start
  starves start s = record { inside = s.inside; none = s.none }

  pub none_starves : starts ≡ [] → StarvesFrom cycle p w item 0
  none_starves e = starves 0 (judged.none (ap length e))

  module _ (one : 0 < length starts) (bound period repeat : ℕ) (sent : List Transmission) (m : Progress) (eb : bound ≡ limit w)
      (ep : period ≡ length cycle) (er : repeat ≡ run_length w.repeat item)
      (es : sent ≡ sent_in cycle p.id w.lines item) (em : m ≡ after_runs bound starts not_begun (runs period (repeat - 1) sent)) where
    same : m ≡ progress_of cycle p v item (run_length w.repeat item - 1)
    same = em ∙ (λ i. after_runs (eb i) starts not_begun (runs (ep i) (er i - 1) (es i)))

    pub next_within : m.next ≤ length starts
    next_within = subst (λ (x : Progress). x.next ≤ length starts) (sym same) judged.next

    late_same : late_after bound starts m (m.first_end +ℤ pos period) ≡ late_start cycle p v item
    late_same = λ i. late_after (eb i) starts (same i) ((same i).first_end +ℤ pos (ep i))

    pub none_late : late_after bound starts m (m.first_end +ℤ pos period) ≡ None → IsCovered cycle p (fullest cycle w) item
    none_late e =
        let f = laws.names cycle is_cycle w is in
        laws.further cycle p v (fullest cycle w) item refl refl refl (λ start c. (f.1 p item start).1 ((named start).0 c))
        (λ start c. (f.1 p item start).0 c) (judged.covered one (sym late_same ∙ e))

    pub one_late : (at start : ℕ) → late_after bound starts m (m.first_end +ℤ pos period) ≡ Some at →
        IsAfterOwner sent period at start → StarvesFrom cycle p w item start
    one_late at start e after =
        let e' = sym late_same ∙ e in
        let listed = (laws.listed cycle is_cycle.some is_cycle.most p.id w.lines item).0 in
        let here = judged.sent one at e' in
        elim after as (λ _. StarvesFrom cycle p w item start) [
          | inl t ↦
              let told = lists_tell _ _ (pos 0) (pos (length cycle)) (sent_in cycle p.id w.lines item) listed t.0
              (subst (λ xs. Contains xs t.0) es t.1) in
              let q = judged.late one at e' t.0.owner (subst (IsOwned (repeated cycle) p.id item t.0.owner) t.2 told.owned) in
              starves start (subst (StarvesFrom cycle p v item) (sym (t.3 ∙ ap (λ n. turned n (t.0.owner +ℤ pos 1)) ep)) q)
          | inr none ↦
              let t = lists_have _ _ (pos 0) (pos (length cycle)) (sent_in cycle p.id w.lines item) listed (pos at)
              (omega (arith, ints)) (let lt = here.0 in omega (arith, ints)) (record { owner = here.1.0; owned = here.1.1 })
              in
              absurd (none t.0 (subst (λ xs. Contains xs t.0) (sym es) t.1) t.2)
        ]
