-- If a page has a fault, it is not steady.
use Rattle.std.proofs.Common.{ℕ, pos, List, Some, None, refl}
use Rattle.std.proofs.lemmas.Bool.{both_ways}
use Rattle.ttx_page.specs.Pages.{Page}
use Rattle.ttx_page.specs.Streams.{repeated}
use Rattle.ttx_page.specs.Steady.{Steady}
use Rattle.ttx_witness.specs.faults.Faults.{IsPageFault, SteadyHasNoFault}
use Rattle.ttx_witness.specs.declared.faults.reason.Reason.{Reason}
use Rattle.ttx_witness.specs.declared.faults.reason.Reason.TheVariants.{BadSlot, NoHeader, OtherSubpage, Erased, HeadDiffers, RowDiffers, LinksDiffer}
use Rattle.ttx_witness.specs.declared.faults.reason.Reason.TheVariants.{NoWitness, WitnessBad, Late, Unsteady, LateBlank}

not_steady : (cycle : List (List ℕ)) (pages : List Page) (p : Page) (reason : Reason) → IsPageFault cycle pages p (Some reason) →
    Steady (repeated cycle) pages p → ⊥
not_steady cycle pages p (BadSlot slot) f y = f
not_steady cycle pages p (NoHeader page) f y = both_ways _ (f.1 y.header.slot) y.header.is_header
not_steady cycle pages p (OtherSubpage page slot) f y = y.only_subpage (pos slot) f.2.here
not_steady cycle pages p (Erased page slot) f y = y.not_erased (pos slot) f.3.here
not_steady cycle pages p (HeadDiffers page slot) f y = y.head (pos slot) f.4.here
not_steady cycle pages p (RowDiffers page slot) f y = y.rows (pos slot) f.5.here
not_steady cycle pages p (LinksDiffer page slot) f y = y.links (pos slot) f.6.here
not_steady cycle pages p (NoWitness page item) f y = f
not_steady cycle pages p (WitnessBad page item start) f y = f
not_steady cycle pages p (Late page item start) f y = f
not_steady cycle pages p Unsteady f y = f
not_steady cycle pages p (LateBlank page item header) f y = f

pub steady_has_no_fault : SteadyHasNoFault
steady_has_no_fault cycle pages p None f = ((λ e. f), (λ y. refl))
steady_has_no_fault cycle pages p (Some reason) f = ((λ e. cc), (λ y. absurd (not_steady cycle pages p reason f y)))
