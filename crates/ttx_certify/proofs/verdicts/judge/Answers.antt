use Rattle.std.proofs.Common.{◌≡◌, ℕ, ◌≤◌, false, List, [], length, slice_get, slice_index_or, Option, Some, None, subst, arith}
use Rattle.std.specs.Prelude.{MatchOption}
use Rattle.ttx_packet.specs.Slots.{is_clean}
use Rattle.ttx_page.specs.Pages.{Page}
use Rattle.ttx_certify.specs.walks.PageFacts.{FirstBelow}
use Rattle.ttx_witness.specs.faults.Faults.{IsFault}
use Rattle.ttx_certify.specs.walks.Passing.{ended_pages, ended_certificate}
use Rattle.ttx_witness.specs.faults.Reasons.{BadSlotAt}
use Rattle.ttx_certify.specs.Verdicts.{IsFirstFault}
use Rattle.ttx_certify.proofs.Accepting.{clean_if, accepted, refusal, refused_not}
use Rattle.ttx_certify.proofs.verdicts.judge.Goals as goal

no_bad : (y : List (List ℕ)) (bad : Option ℕ) → bad ≡ None → FirstBelow (λ j. is_clean (slice_index_or y j []) ≡ false) (length y) bad →
    (j : ℕ) → BadSlotAt y j → ⊥
no_bad y bad e f j b = subst (FirstBelow (λ j. is_clean (slice_index_or y j []) ≡ false) (length y)) e f j b.within b.bad

pub returns-in-Some-first_fault : goal.returns-in-Some-first_fault
returns-in-Some-first_fault c = λ y is.
    let ended = c.args.ended.now in
    let pages = ended_pages ended in
    let w = ended_certificate ended in
    let rules = (c.certificates_keep_their_rules.ensures ended.certificate.now).1 in
    let some : 1 ≤ length y = let s = is.cycle.some in omega arith in
    let clean = clean_if y (no_bad y ended.bad c.in_default.is is.bad) in
    let first = subst (λ o. MatchOption o ((n : ℕ) (p : Page) → slice_get pages n ≡ Some p → IsFault y pages p w None)
    (λ reason. IsFirstFault y pages w reason)) c.in-Some-first_fault.is (c.first_fault.ensures y is) in (
      refusal y pages w c.in-Some-first_fault.reason clean first,
      refused_not (record {
        steady = c.steady_has_no_fault.ensures;
        decided = c.coverage_is_decided.ensures;
        judged = c.items_are_judged.ensures;
      }) y some pages w rules c.in-Some-first_fault.reason first,
    )

pub returns-in-None : goal.returns-in-None
returns-in-None c = λ y is.
    let ended = c.args.ended.now in
    let pages = ended_pages ended in
    let w = ended_certificate ended in
    let clean = clean_if y (no_bad y ended.bad c.in_default.is is.bad) in
    let none = subst (λ o. MatchOption o ((n : ℕ) (p : Page) → slice_get pages n ≡ Some p → IsFault y pages p w None)
    (λ reason. IsFirstFault y pages w reason)) c.in-None.is (c.first_fault.ensures y is) in
    accepted y pages w clean none
