-- For each cycle, pages and certificate some verdict is right.
use Rattle.std.proofs.Common.{◌≡◌, ◌⊎◌, ℕ, zero, suc, ◌+◌, ◌-◌, ◌<◌, ◌≤◌, pos, ◌+ℤ◌, true, false, Bool, List, [], ◌∷◌, length, slice_get}
use Rattle.std.proofs.Common.{slice_index_or, Option, Some, None, refl, ap, subst, inl, inr, arith}
use Rattle.std.proofs.lemmas.Bool.{cases_lt}
use Rattle.ttx_packet.specs.Slots.{is_clean}
use Rattle.ttx_page.specs.Pages.{Page, needed}
use Rattle.ttx_page.specs.declared.class.Class.TheVariants.{Clearing}
use Rattle.ttx_page.specs.declared.item.Item.{Item}
use Rattle.ttx_page.specs.declared.item.Item.TheVariants.{Head as TheHead}
use Rattle.ttx_page.specs.Steady.{HasHeader}
use Rattle.ttx_page.specs.Streams.{repeated, run_length}
use Rattle.ttx_cycle.specs.Files.{IsCycle}
use Rattle.ttx_witness.specs.runs.Confirming.{late_after}
use Rattle.ttx_witness.specs.Coverage.{Certificate, IsCertificate, limit}
use Rattle.ttx_witness.specs.laws.CycleLaws.{progress_of}
use Rattle.ttx_certify.specs.walks.PageFacts.{FirstBelow}
use Rattle.ttx_witness.specs.faults.Faults.{IsFault, IsPageFault, IsWitnessFault}
use Rattle.ttx_witness.specs.laws.JudgingLaws.{HeadersAreJudged, late_header}
use Rattle.ttx_witness.specs.faults.Reasons.{BadSlotAt}
use Rattle.ttx_witness.specs.sent.ItemTransmissions.{sent_in}
use Rattle.ttx_witness.specs.declared.faults.reason.Reason.{Reason}
use Rattle.ttx_witness.specs.declared.faults.reason.Reason.TheVariants.{BadSlot, NoWitness, WitnessBad}
use Rattle.ttx_certify.specs.ItemReasons.{IsItemReason, IsReasonBelow, told_first}
use Rattle.ttx_certify.specs.Verdicts.{IsClean, IsFirstFault, IsVerdict}
use Rattle.ttx_certify.specs.VerdictLaws.{SomeVerdictIsRight}
use Rattle.ttx_certify.specs.declared.verdict.Verdict.{Verdict}
use Rattle.ttx_certify.specs.declared.verdict.Verdict.TheVariants.{Yes, No}
use Rattle.ttx_certify.proofs.Accepting.{CoverLaws, refused_not, bad_slot_not, refusal, clean_if, accepted}
use Rattle.ttx_certify.proofs.Decisions.{item_with, both, same_bool, same_class, blank, least_below}
use Rattle.ttx_certify.proofs.OneItem.{late_reason, blank_reason, judged_so, unnamed_first, blank_first, unseen_fine}
use Rattle.ttx_certify.proofs.ItemByItem.{reason_more, no_reason, witness_fault}
use Rattle.ttx_certify.proofs.PageByPage.{fault_from, one_more, none_at_all, here_is}
use Rattle.ttx_certify.proofs.SomeFault.{FaultLaws, some_page_fault}

pub record SomeLaws : Type 0 where
  pub cover : CoverLaws
  pub faults : FaultLaws
  pub headers : HeadersAreJudged

module _ (laws : SomeLaws) (cycle : List (List ℕ)) (is : IsCycle cycle) (w : Certificate) (numbers : IsCertificate w) where
  some : 1 ≤ length cycle
  some = let s = is.some in omega arith

  module _ (p : Page) (header : HasHeader (repeated cycle) p.id) where
    abbrev SomeReason : Item → Type 0
    SomeReason item = (reason : Option Reason) × IsItemReason cycle p w item reason

    -- an item for which no start is named
    unnamed : (item : Item) → needed p item ≡ true → w.starts p.id item ≡ [] → SomeReason item
    unnamed item need none = elim (both (same_class w.class Clearing) (blank p item)) as (λ _. SomeReason item) [
      | inl e ↦
          let late = late_header (limit w) (length cycle) (sent_in cycle p.id w.lines TheHead) in
          (blank_reason p.id item late, blank_first cycle p w item need none e.0 e.1 late (laws.headers cycle some p w header))
      | inr ne ↦ (Some (NoWitness p.id item), unnamed_first cycle p w item need none (λ clearing is_blank. ne (clearing, is_blank)))
    ]

    -- an item for which some starts are named
    judged : (item : Item) → needed p item ≡ true → 0 < length (w.starts p.id item) → SomeReason item
    judged item need any =
        let starts = w.starts p.id item in
        let m = progress_of cycle p w item (run_length w.repeat item - 1) in
        let told = judged_so cycle p w item laws.cover.judged some numbers need any starts (length cycle) m refl refl refl in
        elim (cases_lt m.next (length starts)) as (λ _. SomeReason item) [
          | inl less ↦ (Some (WitnessBad p.id item (slice_index_or starts m.next 0)), told.bad less)
          | inr all ↦ (
            late_reason p.id item (late_after (limit w) starts m (m.first_end +ℤ pos (length cycle))),
            told.late (let next = told.next in omega arith),
          )
        ]

    some_reason : (item : Item) → SomeReason item
    some_reason item = elim (same_bool (needed p item) true) as (λ _. SomeReason item) [
      | inl need ↦ named need (w.starts p.id item) refl
      | inr unseen ↦ (None, unseen_fine cycle p w item (is_false _ unseen))
    ]
      where
        is_false : (b : Bool) → (b ≡ true → ⊥) → b ≡ false
        is_false false h = refl
        is_false true h = absurd (h refl)

        named : needed p item ≡ true → (starts : List ℕ) → w.starts p.id item ≡ starts → SomeReason item
        named need [] e = unnamed item need e
        named need (x ∷ xs) e = judged item need (let l : length (w.starts p.id item) ≡ suc (length xs) = ap length e in omega arith)

    reason_below : (count : ℕ) → count ≤ 26 → (reason : Option Reason) × IsReasonBelow cycle p w count reason
    reason_below zero le = (None, no_reason cycle p w)
    reason_below (suc count) le =
        let before = reason_below count (omega arith) in
        let item = item_with count (omega arith) in
        let here = some_reason item.0 in
        let e : count + 1 ≡ suc count = omega arith in (
          told_first before.0 here.0,
          subst (λ n. IsReasonBelow cycle p w n (told_first before.0 here.0)) e
              (reason_more cycle p w count before.0 here.0 before.1 (record { item = item.0; is = item.1; place = item.2; first = here.1 })),
        )

    some_witness_fault : (reason : Option Reason) × IsWitnessFault cycle p w reason
    some_witness_fault = let r = reason_below 26 (omega arith) in (r.0, witness_fault cycle p w r.0 r.1)

  module _ (pages : List Page) where
    some_fault : (p : Page) → (reason : Option Reason) × IsFault cycle pages p w reason
    some_fault p = let r = some_page_fault laws.faults cycle is pages p in told r.0 r.1
      where
        told : (reason : Option Reason) → IsPageFault cycle pages p reason → (reason : Option Reason) × IsFault cycle pages p w reason
        told (Some reason) f = (Some reason, inl f)
        told None steady = let r = some_witness_fault p steady.header in (r.0, fault_from cycle pages w p steady r.0 r.1)

    abbrev NoneBefore : ℕ → Type 0
    NoneBefore index = (n : ℕ) (p : Page) → n < index → slice_get pages n ≡ Some p → IsFault cycle pages p w None

    abbrev FirstOrNone : ℕ → Type 0
    FirstOrNone index = ((reason : Reason) × IsFirstFault cycle pages w reason) ⊎ NoneBefore index

    first_or_none : (index : ℕ) → index ≤ length pages → FirstOrNone index
    first_or_none zero le = inr (λ n p lt here. absurd (omega arith))
    first_or_none (suc index) le = elim (first_or_none index (omega arith)) as (λ _. FirstOrNone (suc index)) [
      | inl first ↦ inl first
      | inr none ↦
          let here = here_is pages index (omega arith) in
          let fault = some_fault here.0 in
          told none here.0 here.1 fault.0 fault.1
    ]
      where
        told : NoneBefore index → (p : Page) → slice_get pages index ≡ Some p → (reason : Option Reason) →
            IsFault cycle pages p w reason → FirstOrNone (suc index)
        told none p here (Some reason) f = inl (reason, record { index = index; page = p; here = here; fault = f; none_before = none })
        told none p here None f =
            let e : index + 1 ≡ suc index = omega arith in
            inr (subst NoneBefore e (one_more cycle pages w index none None refl
            (λ q at. let same : p ≡ q = cc in subst (λ x. IsFault cycle pages x w None) same f)))

    clean_verdict : IsClean cycle → (verdict : Verdict) × IsVerdict cycle pages w verdict
    clean_verdict clean = elim (first_or_none (length pages) (omega arith)) as (λ _. (verdict : Verdict) × IsVerdict cycle pages w verdict) [
      | inl first ↦ (No first.0, (refusal cycle pages w first.0 clean first.1, refused_not laws.cover cycle some pages w numbers first.0 first.1))
      | inr none ↦ (Yes, accepted cycle pages w clean (none_at_all cycle pages w (length pages) (omega arith) none))
    ]

    abbrev IsBad : ℕ → Type 0
    IsBad slot = is_clean (slice_index_or cycle slot []) ≡ false

    some_verdict : (verdict : Verdict) × IsVerdict cycle pages w verdict
    some_verdict = let r = least_below IsBad (length cycle) (λ slot lt. same_bool _ false) in told r.0 r.1
      where
        told : (bad : Option ℕ) → FirstBelow IsBad (length cycle) bad → (verdict : Verdict) × IsVerdict cycle pages w verdict
        told None none = clean_verdict (clean_if cycle (λ slot b. none slot b.within b.bad))
        told (Some slot) f =
            let bad : BadSlotAt cycle slot = record { within = f.0; bad = f.1 } in
            (No (BadSlot slot), ((bad, λ i lt b. f.2 i lt b.bad), bad_slot_not cycle pages w slot bad))

pub some_verdict_is_right : SomeLaws → SomeVerdictIsRight
some_verdict_is_right laws cycle pages w is numbers = some_verdict laws cycle is w numbers pages
