-- A cycle is accepted if no page has a fault, and not accepted if a page has one.
use Rattle.std.proofs.Common.{◌≡◌, ◌⊎◌, ℕ, suc, ◌-◌, ◌≤◌, pos, ◌+ℤ◌, ◌<ℤ◌, ◌≤ℤ◌, true, List, [], length, slice_get, Some, None, ap}
use Rattle.std.proofs.Common.{subst, inl, inr, arith}
use Rattle.std.specs.List.{Contains}
use Rattle.std.proofs.lemmas.Int.{ints}
use Rattle.std.proofs.lemmas.Bool.{true_from_ne_false}
use Rattle.ttx_page.specs.Pages.{Page, needed}
use Rattle.ttx_page.specs.declared.item.Item.{Item}
use Rattle.ttx_page.specs.Streams.{repeated, run_length}
use Rattle.ttx_page.specs.Steady.{Steady}
use Rattle.ttx_witness.specs.Coverage.{Certificate, IsCertificate, limit, IsCovered, IsLeftOut, Accepts}
use Rattle.ttx_witness.specs.laws.CycleLaws.{CoverageIsDecided}
use Rattle.ttx_witness.specs.faults.Faults.{IsFault, IsWitnessFault, SteadyHasNoFault}
use Rattle.ttx_witness.specs.laws.JudgingLaws.{ItemsAreJudged, IsLateAnswer}
use Rattle.ttx_witness.specs.faults.Reasons.{BadSlotAt, HasNoWitness, WitnessBadAt, LateAt, LateBlankAt}
use Rattle.ttx_witness.specs.declared.faults.reason.Reason.{Reason}
use Rattle.ttx_witness.specs.declared.faults.reason.Reason.TheVariants.{BadSlot, NoHeader, OtherSubpage, Erased, HeadDiffers, RowDiffers, LinksDiffer}
use Rattle.ttx_witness.specs.declared.faults.reason.Reason.TheVariants.{NoWitness, WitnessBad, Late, Unsteady, LateBlank}
use Rattle.ttx_certify.specs.Verdicts.{IsClean, IsFirstFault, IsRefusal}
use Rattle.ttx_certify.proofs.OneItem.{some_run}

-- what decides coverage
pub record CoverLaws : Type 0 where
  pub steady : SteadyHasNoFault
  pub decided : CoverageIsDecided
  pub judged : ItemsAreJudged

module _ (laws : CoverLaws) (cycle : List (List ℕ)) (some : 1 ≤ length cycle) (p : Page) (w : Certificate) (is : IsCertificate w)
    (item : Item) (need : needed p item ≡ true) where
  abbrev pub Right : Type 0
  Right = IsCovered cycle p w item ⊎ IsLeftOut cycle p w item

  not_named : (start : ℕ) → w.starts p.id item ≡ [] → Contains (w.starts p.id item) start → ⊥
  not_named start e c = let lt = c.1 in let z : length (w.starts p.id item) ≡ 0 = ap length e in omega arith

  pub no_witness_not : HasNoWitness p w item → Right → ⊥
  no_witness_not h (inl c) = not_named c.named.0 h.none c.named.1
  no_witness_not h (inr l) = h.sent l.clearing l.blank

  pub bad_not : (start : ℕ) → WitnessBadAt cycle p w item start → Right → ⊥
  bad_not start b (inl c) = b.bad (c.sure start b.named)
  bad_not start b (inr l) = not_named start l.no_line b.named

  pub late_not : (start : ℕ) → LateAt cycle p w item start → Right → ⊥
  late_not start l (inl c) =
      let one = some_run w.repeat item is.some_repeats in
      let k = run_length w.repeat item - 1 in
      let len : run_length w.repeat item ≡ suc k = omega arith in
      let passes = (laws.decided cycle some p w item k len (is.rising p.id item)).1 c in
      let told = (laws.judged cycle some p w item k len (is.rising p.id item) need).3 passes.all_confirmed passes.some_named in
      (subst (IsLateAnswer cycle p w item) passes.none_late told).1 start l
  late_not start l (inr o) = let lt = l.within in let z : length (w.starts p.id item) ≡ 0 = ap length o.no_line in omega arith

  pub late_blank_not : (header : ℕ) → LateBlankAt cycle p w item header → Right → ⊥
  late_blank_not header l (inl c) = not_named c.named.0 l.none c.named.1
  late_blank_not header l (inr o) =
      let i = o.in_time (pos header +ℤ pos 1) in
      let low : (pos header +ℤ pos 1) ≤ℤ i.0 = i.1 in
      let high : i.0 <ℤ ((pos header +ℤ pos 1) +ℤ pos (limit w)) = i.2 in
      let none = l.late i.0 (omega (arith, ints)) (omega (arith, ints)) in
      let here = i.3 in
      cc

module _ (laws : CoverLaws) (cycle : List (List ℕ)) (some : 1 ≤ length cycle) (pages : List Page) (p : Page) (w : Certificate)
    (is : IsCertificate w) where
  abbrev Rights : Type 0
  Rights = (item : Item) → needed p item ≡ true → IsCovered cycle p w item ⊎ IsLeftOut cycle p w item

  witness_not : (reason : Reason) → IsWitnessFault cycle p w (Some reason) → Rights → ⊥
  witness_not (NoWitness page item) f r = let n = f.1.here.needed in no_witness_not laws cycle some p w is item n f.1.here (r item n)
  witness_not (WitnessBad page item start) f r = let n = f.2.here.needed in bad_not laws cycle some p w is item n start f.2.here (r item n)
  witness_not (Late page item start) f r = let n = f.3.here.needed in late_not laws cycle some p w is item n start f.3.here (r item n)
  witness_not (LateBlank page item header) f r = let n = f.4.here.needed in late_blank_not laws cycle some p w is item n header f.4.here (r item n)
  witness_not (BadSlot slot) f r = f
  witness_not (NoHeader page) f r = f
  witness_not (OtherSubpage page slot) f r = f
  witness_not (Erased page slot) f r = f
  witness_not (HeadDiffers page slot) f r = f
  witness_not (RowDiffers page slot) f r = f
  witness_not (LinksDiffer page slot) f r = f
  witness_not Unsteady f r = f

  pub fault_not : (reason : Reason) → IsFault cycle pages p w (Some reason) → Steady (repeated cycle) pages p → Rights → ⊥
  fault_not reason (inl f) steady r = let e : Some reason ≡ None = (laws.steady cycle pages p (Some reason) f).1 steady in cc
  fault_not reason (inr f) steady r = witness_not reason f.1 r

pub refused_not : CoverLaws → (cycle : List (List ℕ)) → 1 ≤ length cycle → (pages : List Page) (w : Certificate) → IsCertificate w →
    (reason : Reason) →
    IsFirstFault cycle pages w reason → Accepts cycle pages w → ⊥
refused_not laws cycle some pages w is reason f a =
    fault_not laws cycle some pages f.page w is reason f.fault (a.steady f.index f.page f.here)
    (λ item need. a.covered f.index f.page f.here item need)

pub bad_slot_not : (cycle : List (List ℕ)) (pages : List Page) (w : Certificate) (slot : ℕ) → BadSlotAt cycle slot → Accepts cycle pages w → ⊥
bad_slot_not cycle pages w slot b a = let c = a.clean slot b.within in let n = b.bad in cc

-- no page fault is a bad slot
pub refusal : (cycle : List (List ℕ)) (pages : List Page) (w : Certificate) (reason : Reason) → IsClean cycle →
    IsFirstFault cycle pages w reason → IsRefusal cycle pages w reason
refusal cycle pages w (BadSlot slot) clean f = absurd (none f.fault)
  where
    none : IsFault cycle pages f.page w (Some (BadSlot slot)) → ⊥
    none (inl x) = x
    none (inr x) = x.1
refusal cycle pages w (NoHeader page) clean f = (clean, f)
refusal cycle pages w (OtherSubpage page slot) clean f = (clean, f)
refusal cycle pages w (Erased page slot) clean f = (clean, f)
refusal cycle pages w (HeadDiffers page slot) clean f = (clean, f)
refusal cycle pages w (RowDiffers page slot) clean f = (clean, f)
refusal cycle pages w (LinksDiffer page slot) clean f = (clean, f)
refusal cycle pages w (NoWitness page item) clean f = (clean, f)
refusal cycle pages w (WitnessBad page item start) clean f = (clean, f)
refusal cycle pages w (Late page item start) clean f = (clean, f)
refusal cycle pages w Unsteady clean f = (clean, f)
refusal cycle pages w (LateBlank page item header) clean f = (clean, f)

pub clean_if : (cycle : List (List ℕ)) → ((j : ℕ) → BadSlotAt cycle j → ⊥) → IsClean cycle
clean_if cycle none n lt = true_from_ne_false _ (λ bad. none n (record { within = lt; bad = bad }))

pub accepted : (cycle : List (List ℕ)) (pages : List Page) (w : Certificate) → IsClean cycle →
    ((n : ℕ) (p : Page) → slice_get pages n ≡ Some p → IsFault cycle pages p w None) → Accepts cycle pages w
accepted cycle pages w clean none = record { clean = clean; steady = λ n p here. (none n p here).0; covered = λ n p here. (none n p here).1 }
