-- How an item is judged by one pass over its transmissions, in terms of the reasons.
use Rattle.std.proofs.Common.{◌≡◌, ℕ, suc, ◌<◌, ◌≤◌, ℤ, pos, ◌+ℤ◌, true, List, length, slice_index_or, Option, Some, None, refl, sym, ap, subst, inl}
use Rattle.std.proofs.Common.{inr, arith}
use Rattle.std.proofs.lemmas.Int.{ints}
use Rattle.std.proofs.lemmas.Bool.{cases_lt}
use Rattle.std.proofs.lemmas.List.Elements.{Contains-get_or, at_from_Contains}
use Rattle.ttx_page.specs.Pages.{Page, needed}
use Rattle.ttx_page.specs.declared.item.Item.{Item}
use Rattle.ttx_page.specs.Streams.{repeated, run_length, IsOwned, IsSure}
use Rattle.ttx_witness.specs.runs.Confirming.{Progress, Rising, late_after}
use Rattle.ttx_witness.specs.runs.Repeating as R
use Rattle.ttx_witness.specs.sent.ItemTransmissions.{sent_in}
use Rattle.ttx_witness.specs.Coverage.{Certificate, limit}
use Rattle.ttx_witness.specs.laws.CycleLaws.{progress_of}
use Rattle.ttx_witness.specs.faults.Reasons.{WitnessBadAt, LateAt}
use Rattle.ttx_witness.specs.laws.JudgingLaws.{TransmissionsAreListed, IsFirstOf, IsLateAnswer, ItemsAreJudged}
use Rattle.ttx_witness.proofs.lemmas.laws.CycleLaws as C
use Rattle.ttx_witness.proofs.lemmas.runs.FirstBadAndLate as L
use Rattle.ttx_witness.proofs.lemmas.sent.CycleTransmissions.{law, sent_told, told_within, sure_run_to, sure_run_from, ends_to, ends_from}

pub transmissions_are_listed : TransmissionsAreListed
transmissions_are_listed cycle some few page lines item =
    let told = sent_told cycle some page lines item in
    (told, told_within cycle some page lines item few (pos 0) (omega (arith, ints)) (sent_in cycle page lines item) told)

module _ (cycle : List (List ℕ)) (some : 1 ≤ length cycle) (p : Page) (w : Certificate) (item : Item) (k : ℕ) (len : run_length w.repeat item ≡ suc k)
    (rising : Rising (w.starts p.id item)) (need : needed p item ≡ true) where
  abbrev starts : List ℕ
  starts = w.starts p.id item

  abbrev at : ℕ → ℕ
  at i = slice_index_or starts i 0

  abbrev Owned : ℤ → ℤ → Type 0
  Owned = IsOwned (repeated cycle) p.id item

  abbrev Sure : ℤ → ℤ → Type 0
  Sure = IsSure (repeated cycle) w.lines p.id.mag item

  abbrev m : Progress
  m = progress_of cycle p w item k

  abbrev Bad : ℕ → Type 0
  Bad = R.IsBad Owned Sure (length cycle) (suc k) starts

  abbrev Late : ℕ → Type 0
  Late = R.IsLate Owned (length cycle) (suc k) (limit w) starts

  -- a smaller named start has a smaller index
  below : (i j : ℕ) → i < length starts → at i < at j → i < j
  below i j within lt = elim (cases_lt i j) as (λ _. i < j) [
    | inl less ↦ less
    | inr ge ↦ elim (cases_lt j i) as (λ _. i < j) [
      | inl more ↦ let r = rising j i more within in absurd (omega arith)
      | inr le ↦ let e : i ≡ j = omega arith in let same : at i ≡ at j = ap at e in absurd (omega arith)
    ]
  ]

  bad_to : (i : ℕ) → Bad i → WitnessBadAt cycle p w item (at i)
  bad_to i b = record {
    needed = need;
    named = Contains-get_or starts i 0 b.within;
    bad = λ s. b.bad (s.0, sure_run_to (repeated cycle) p.id w.lines w.repeat item (suc k) len (pos (at i)) s.1);
  }

  -- a bad start is one of the named starts
  bad_from : (start : ℕ) → WitnessBadAt cycle p w item start → (i : ℕ) × (i < length starts) × (at i ≡ start) × Bad i
  bad_from start b =
      let a = at_from_Contains starts start b.named in
      let e : at a.0 ≡ start = a.2 0 in (
        a.0,
        a.1,
        e,
        record {
          within = a.1;
          bad = λ s. b.bad (
            subst (λ x. x < length cycle) e s.0,
            sure_run_from (repeated cycle) p.id w.lines w.repeat item (suc k) len (pos start)
                (subst (λ x. R.BeginsSureRun Owned Sure (suc k) (pos x)) e s.1),
          );
        },
      )

  late_to : (i : ℕ) → Late i → LateAt cycle p w item (at i)
  late_to i l = record {
    needed = need;
    index = i;
    within = l.within;
    is = refl;
    owner = l.owner;
    owned = l.owned;
    late = λ e. l.late (ends_to (repeated cycle) p.id w.lines w.repeat item (suc k) len _ _ e);
  }

  late_from : (start : ℕ) → (l : LateAt cycle p w item start) → Late l.index
  late_from start l = record {
    within = l.within;
    owner = l.owner;
    owned = subst (λ x. Owned l.owner (pos x)) l.is l.owned;
    late = λ e. l.late (ends_from (repeated cycle) p.id w.lines w.repeat item (suc k) len _ _ e);
  }

  judged_bad : m.next < length starts → IsFirstOf (WitnessBadAt cycle p w item) (at m.next)
  judged_bad lt =
      let f = (C.firsts_are_found cycle some p w item k len rising).1 lt in (
        bad_to m.next f.0,
        (λ start less b.
            let a = bad_from start b in
            f.1 a.0 (below a.0 m.next a.1 (let e = a.2 in omega arith)) a.3),
      )

  judged_none : m.next ≡ length starts → (start : ℕ) → WitnessBadAt cycle p w item start → ⊥
  judged_none all start b =
      let a = bad_from start b in
      L.none_bad Owned Sure (length cycle) k (limit w) (law cycle some p.id w.lines item) starts rising
      (sent_in cycle p.id w.lines item) (sent_told cycle some p.id w.lines item) all a.0 a.3

  judged_late : m.next ≡ length starts → 0 < length starts →
      IsLateAnswer cycle p w item (late_after (limit w) starts m (m.first_end +ℤ pos (length cycle)))
  judged_late all any = go (late_after (limit w) starts m (m.first_end +ℤ pos (length cycle))) refl
      ((C.firsts_are_found cycle some p w item k len rising).2 all any)
    where
      go : (o : Option ℕ) → late_after (limit w) starts m (m.first_end +ℤ pos (length cycle)) ≡ o → R.IsFirst Late starts o →
          IsLateAnswer cycle p w item o
      go None e f = (
        (C.coverage_is_decided cycle some p w item k len rising).0 (record { some_named = any; all_confirmed = all; none_late = e }),
        (λ start l. f l.index (late_from start l)),
      )
      go (Some start) e f = (
        subst (LateAt cycle p w item) (sym f.1) (late_to f.0 f.2),
        (λ other less l. f.3 l.index (below l.index f.0 l.within (let a = l.is in let b = f.1 in omega arith)) (late_from other l)),
      )

pub items_are_judged : ItemsAreJudged
items_are_judged cycle some p w item k len rising need = (
  (C.firsts_are_found cycle some p w item k len rising).0,
  judged_bad cycle some p w item k len rising need,
  judged_none cycle some p w item k len rising need,
  judged_late cycle some p w item k len rising need,
)
