-- A page with a reason isn't sent unchanged, so no service of a cycle that is refused is sent unchanged.
use Rattle.std.proofs.Common.{◌≡◌, ℕ, ◌≤◌, List, length, pos, Some, sym, subst}
use Rattle.ttx_header.specs.Ids.{Id}
use Rattle.ttx_page.specs.Pages.{Page}
use Rattle.ttx_page.specs.Steady.{Steady}
use Rattle.ttx_page.specs.Streams.{repeated}
use Rattle.ttx_source.specs.Services.{ServiceFields, pages_of}
use Rattle.ttx_witness.specs.laws.JudgingLaws.{TransmissionsAreListed}
use Rattle.ttx_witness.specs.faults.Faults.{IsPageFault}
use Rattle.ttx_witness.specs.declared.faults.reason.Reason.{Reason}
use Rattle.ttx_witness.specs.declared.faults.reason.Reason.TheVariants.{NoHeader, OtherSubpage, Erased, HeadDiffers, RowDiffers}
use Rattle.ttx_witness.specs.declared.faults.reason.Reason.TheVariants.{LinksDiffer}
use Rattle.ttx_extract.specs.Extracts.{IsExtract, IsFirstReason, AreSteady, Blames}
use Rattle.ttx_extract.specs.declared.faults.ExtractFault.{ExtractFault}
use Rattle.ttx_extract.specs.declared.faults.ExtractFault.TheVariants.{Conflict, Reason as FaultReason}
use Rattle.ttx_extract.proofs.SameServices.{only_one}

not_steady : (slots : List (List ℕ)) (pages : List Page) (p : Page) (reason : Reason) → IsPageFault slots pages p (Some reason) →
    Steady (repeated slots) pages p →
    ⊥
not_steady slots pages p (NoHeader page) f s = let h = f.1 s.header.slot in let t = s.header.is_header in cc
not_steady slots pages p (OtherSubpage page slot) f s = s.only_subpage (pos slot) f.2.here
not_steady slots pages p (Erased page slot) f s = s.not_erased (pos slot) f.3.here
not_steady slots pages p (HeadDiffers page slot) f s = s.head (pos slot) f.4.here
not_steady slots pages p (RowDiffers page slot) f s = s.rows (pos slot) f.5.here
not_steady slots pages p (LinksDiffer page slot) f s = s.links (pos slot) f.6.here
not_steady slots pages p reason f s = absurd f

module _ (listed : TransmissionsAreListed) (slots : List (List ℕ)) (some : 1 ≤ length slots) (most : length slots ≤ 65536) (lines : ℕ) where
  pub none_is_steady : (page : Id) (reason : Reason) → IsFirstReason slots lines page reason → (service : ServiceFields) →
      IsExtract slots lines service →
      ⊥
  none_is_steady page reason first service is =
      let same : first.service ≡ service = only_one listed slots some most lines first.service service first.sent is.sent in
      let steady : AreSteady slots first.service = subst (AreSteady slots) (sym same) is.steady in
      not_steady slots (pages_of first.service) first.fields reason first.fault (steady first.place first.fields first.here)

  pub blamed_has_none : (fault : ExtractFault) → Blames slots lines fault → (service : ServiceFields) → IsExtract slots lines service → ⊥
  blamed_has_none (Conflict page item first second) b service is = none_is_steady page b.reason b.blamed service is
  blamed_has_none (FaultReason reason) b service is = none_is_steady b.page reason b.blamed service is
  blamed_has_none fault b service is = absurd b
