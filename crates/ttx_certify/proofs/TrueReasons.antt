-- A page has a first reason exactly if some reason is true of it.
use Rattle.std.proofs.Common.{◌≡◌, ◌⊎◌, ℕ, ◌≤◌, pos, true, List, length, Some, None, refl, inl, inr, arith}
use Rattle.ttx_page.specs.Pages.{Page, needed}
use Rattle.ttx_page.specs.Streams.{repeated}
use Rattle.ttx_page.specs.Steady.{HasHeader, HasNoHeader, Steady}
use Rattle.ttx_page.specs.declared.item.Item.{Item}
use Rattle.ttx_witness.specs.Coverage.{Certificate, IsCertificate, IsCovered, IsLeftOut}
use Rattle.ttx_witness.specs.faults.Faults.{IsFault, IsPageFault, IsWitnessFault}
use Rattle.ttx_witness.specs.declared.faults.reason.Reason.{Reason}
use Rattle.ttx_witness.specs.declared.faults.reason.Reason.TheVariants.{BadSlot, NoHeader, OtherSubpage, Erased, HeadDiffers, RowDiffers, LinksDiffer}
use Rattle.ttx_witness.specs.declared.faults.reason.Reason.TheVariants.{NoWitness, WitnessBad, Late, Unsteady, LateBlank}
use Rattle.ttx_certify.specs.AllReasons.{IsTrueReason, ReasonsAreTrue}
use Rattle.ttx_certify.proofs.Accepting.{CoverLaws, no_witness_not, bad_not, late_not, late_blank_not}

module _ (cycle : List (List ℕ)) (pages : List Page) (p : Page) (w : Certificate) where
  page_fault_is_true : (r : Reason) → IsPageFault cycle pages p (Some r) → IsTrueReason cycle pages p w r
  page_fault_is_true (NoHeader page) f = f
  page_fault_is_true (OtherSubpage page slot) f = (f.0, f.2.here)
  page_fault_is_true (Erased page slot) f = (f.0, f.3.here)
  page_fault_is_true (HeadDiffers page slot) f = (f.0, f.4.here)
  page_fault_is_true (RowDiffers page slot) f = (f.0, f.5.here)
  page_fault_is_true (LinksDiffer page slot) f = (f.0, f.6.here)
  page_fault_is_true (BadSlot slot) f = f
  page_fault_is_true (NoWitness page item) f = absurd f
  page_fault_is_true (WitnessBad page item start) f = absurd f
  page_fault_is_true (Late page item start) f = absurd f
  page_fault_is_true Unsteady f = f
  page_fault_is_true (LateBlank page item header) f = absurd f

  witness_fault_is_true : (r : Reason) → IsWitnessFault cycle p w (Some r) → IsTrueReason cycle pages p w r
  witness_fault_is_true (NoWitness page item) f = (f.0, f.1.here)
  witness_fault_is_true (WitnessBad page item start) f = (f.0, f.2.here)
  witness_fault_is_true (Late page item start) f = (f.0, f.3.here)
  witness_fault_is_true (LateBlank page item header) f = (f.0, f.4.here)
  witness_fault_is_true (BadSlot slot) f = f
  witness_fault_is_true (NoHeader page) f = absurd f
  witness_fault_is_true (OtherSubpage page slot) f = absurd f
  witness_fault_is_true (Erased page slot) f = absurd f
  witness_fault_is_true (HeadDiffers page slot) f = absurd f
  witness_fault_is_true (RowDiffers page slot) f = absurd f
  witness_fault_is_true (LinksDiffer page slot) f = absurd f
  witness_fault_is_true Unsteady f = f

  fault_is_true : (r : Reason) → IsFault cycle pages p w (Some r) → IsTrueReason cycle pages p w r
  fault_is_true r (inl f) = page_fault_is_true r f
  fault_is_true r (inr f) = witness_fault_is_true r f.1

  has_header : HasHeader (repeated cycle) p.id → HasNoHeader (repeated cycle) p → ⊥
  has_header h none = let is = h.is_header in let not = none h.slot in cc

  module _ (laws : CoverLaws) (some : 1 ≤ length cycle) (is : IsCertificate w) (steady : Steady (repeated cycle) pages p)
      (right : (item : Item) → needed p item ≡ true → IsCovered cycle p w item ⊎ IsLeftOut cycle p w item) where
    none_is_true : (r : Reason) → IsTrueReason cycle pages p w r → ⊥
    none_is_true (BadSlot slot) t = t
    none_is_true (NoHeader page) t = has_header steady.header t.1
    none_is_true (OtherSubpage page slot) t = steady.only_subpage (pos slot) t.1
    none_is_true (Erased page slot) t = steady.not_erased (pos slot) t.1
    none_is_true (HeadDiffers page slot) t = steady.head (pos slot) t.1
    none_is_true (RowDiffers page slot) t = steady.rows (pos slot) t.1
    none_is_true (LinksDiffer page slot) t = steady.links (pos slot) t.1
    none_is_true (NoWitness page item) t = let n = t.1.needed in no_witness_not laws cycle some p w is item n t.1 (right item n)
    none_is_true (WitnessBad page item start) t = let n = t.1.needed in bad_not laws cycle some p w is item n start t.1 (right item n)
    none_is_true (Late page item start) t = let n = t.1.needed in late_not laws cycle some p w is item n start t.1 (right item n)
    none_is_true Unsteady t = t
    none_is_true (LateBlank page item header) t = let n = t.1.needed in late_blank_not laws cycle some p w is item n header t.1 (right item n)

pub reasons_are_true : CoverLaws → ReasonsAreTrue
reasons_are_true laws cycle pages p w (Some r) some is f = ((λ _. (r, fault_is_true cycle pages p w r f)), (λ _. refl))
reasons_are_true laws cycle pages p w None some is f =
    ((λ x. absurd (cc)), (λ t. absurd (none_is_true cycle pages p w laws (omega arith) is f.0 f.1 t.0 t.1)))
