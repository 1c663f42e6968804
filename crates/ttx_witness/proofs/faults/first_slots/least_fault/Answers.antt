use Rattle.std.proofs.Common.{subst}
use Rattle.std.proofs.lemmas.Bool.{both_ways, not-true, not-false, false_from_ne_true}
use Rattle.ttx_page.specs.Streams.{repeated}
use Rattle.ttx_page.specs.Steady.{OtherSubpageAt, ErasedAt, HeadDiffersAt, RowDiffersAt, LinksDifferAt}
use Rattle.ttx_witness.specs.faults.Faults.{TellsFirst}
use Rattle.ttx_witness.proofs.faults.first_slots.least_fault.Goals as goal

pub returns-then-not-first : goal.returns-then-not-first
returns-then-not-first c = λ cycle pages p same first. (
  same,
  λ j. false_from_ne_true _ (λ e.
      both_ways c.args.first.has_header (not-true _ c.if-not-first.true) (first.has_header.1 (record { slot = j; is_header = e }))),
)

pub returns-in-Some : goal.returns-in-Some
returns-in-Some c = λ cycle pages p same first. (
  same,
  first.has_header.0 (not-false _ c.if-not-first.false),
  subst (TellsFirst cycle (OtherSubpageAt (repeated cycle) pages p)) c.in-Some.is first.other_subpage,
)

pub returns-in-Some-erased : goal.returns-in-Some-erased
returns-in-Some-erased c = λ cycle pages p same first. (
  same,
  first.has_header.0 (not-false _ c.if-not-first.false),
  subst (TellsFirst cycle (OtherSubpageAt (repeated cycle) pages p)) c.in_default.is first.other_subpage,
  subst (TellsFirst cycle (ErasedAt (repeated cycle) p)) c.in-Some-erased.is first.erased,
)

pub returns-in-Some-head : goal.returns-in-Some-head
returns-in-Some-head c = λ cycle pages p same first. (
  same,
  first.has_header.0 (not-false _ c.if-not-first.false),
  subst (TellsFirst cycle (OtherSubpageAt (repeated cycle) pages p)) c.in_default.is first.other_subpage,
  subst (TellsFirst cycle (ErasedAt (repeated cycle) p)) c.in_default-erased.is first.erased,
  subst (TellsFirst cycle (HeadDiffersAt (repeated cycle) p)) c.in-Some-head.is first.head,
)

pub returns-in-Some-row : goal.returns-in-Some-row
returns-in-Some-row c = λ cycle pages p same first. (
  same,
  first.has_header.0 (not-false _ c.if-not-first.false),
  subst (TellsFirst cycle (OtherSubpageAt (repeated cycle) pages p)) c.in_default.is first.other_subpage,
  subst (TellsFirst cycle (ErasedAt (repeated cycle) p)) c.in_default-erased.is first.erased,
  subst (TellsFirst cycle (HeadDiffersAt (repeated cycle) p)) c.in_default-head.is first.head,
  subst (TellsFirst cycle (RowDiffersAt (repeated cycle) p)) c.in-Some-row.is first.row,
)

pub returns-in-Some-links : goal.returns-in-Some-links
returns-in-Some-links c = λ cycle pages p same first. (
  same,
  first.has_header.0 (not-false _ c.if-not-first.false),
  subst (TellsFirst cycle (OtherSubpageAt (repeated cycle) pages p)) c.in_default.is first.other_subpage,
  subst (TellsFirst cycle (ErasedAt (repeated cycle) p)) c.in_default-erased.is first.erased,
  subst (TellsFirst cycle (HeadDiffersAt (repeated cycle) p)) c.in_default-head.is first.head,
  subst (TellsFirst cycle (RowDiffersAt (repeated cycle) p)) c.in_default-row.is first.row,
  subst (TellsFirst cycle (LinksDifferAt (repeated cycle) p)) c.in-Some-links.is first.links,
)

pub returns : goal.returns
returns c = λ cycle pages p same first. record {
  header = first.has_header.0 (not-false _ c.if-not-first.false);
  only_subpage = subst (TellsFirst cycle (OtherSubpageAt (repeated cycle) pages p)) c.in_default.is first.other_subpage;
  not_erased = subst (TellsFirst cycle (ErasedAt (repeated cycle) p)) c.in_default-erased.is first.erased;
  head = subst (TellsFirst cycle (HeadDiffersAt (repeated cycle) p)) c.in_default-head.is first.head;
  rows = subst (TellsFirst cycle (RowDiffersAt (repeated cycle) p)) c.in_default-row.is first.row;
  links = subst (TellsFirst cycle (LinksDifferAt (repeated cycle) p)) c.in_default-links.is first.links;
}
