-- The pages that are left out, and why.
--
--   reason_page, fault_page         the page of a reason; the page that is not sent unchanged, if that is why there is no service text
--   fault_of                the fault of a page that is left out
--   IsReasonLeft, IsLeftBy  the page that is left out for a reason, and for a fault
--   IsLeft                  why a cycle has no service text, and the page of it
--   AreLeft                 the pages that are left out one after another, and the cycle without them
--   most_left               how many page numbers there are
use Rattle.std.specs.Prelude.{◌≡◌, ℕ, List, [], ◌∷◌, Option, Some, None}
use Rattle.ttx_header.specs.Ids.{Id}
use Rattle.ttx_witness.specs.declared.faults.reason.Reason.{Reason}
use Rattle.ttx_witness.specs.declared.faults.reason.Reason.TheVariants as reason
use Rattle.ttx_extract.specs.Extracts.{AnswersFault}
use Rattle.ttx_extract.specs.declared.faults.ExtractFault.{ExtractFault}
use Rattle.ttx_extract.specs.declared.faults.ExtractFault.TheVariants.{Conflict, Reason as OfReason}
use Rattle.ttx_partial.specs.Asides.{aside}
use Rattle.ttx_partial.specs.declared.left_out.LeftOut.{LeftOut}
use Rattle.ttx_partial.specs.declared.left_out.Why.{Why}
use Rattle.ttx_partial.specs.declared.left_out.Why.TheVariants as why

abbrev pub reason_page : Reason → Option Id
reason_page (reason.NoHeader page) = Some page
reason_page (reason.OtherSubpage page slot) = Some page
reason_page (reason.Erased page slot) = Some page
reason_page (reason.HeadDiffers page slot) = Some page
reason_page (reason.RowDiffers page slot) = Some page
reason_page (reason.LinksDiffer page slot) = Some page
reason_page (reason.NoWitness page item) = Some page
reason_page (reason.WitnessBad page item start) = Some page
reason_page (reason.Late page item start) = Some page
reason_page (reason.LateBlank page item header) = Some page
reason_page why = None

abbrev pub fault_page : ExtractFault → Option Id
fault_page (Conflict page item first second) = Some page
fault_page (OfReason why) = reason_page why
fault_page fault = None

abbrev pub fault_by : Id → Why → ExtractFault
fault_by page (why.Conflict item first second) = Conflict page item first second
fault_by page (why.Reason reason) = OfReason reason

abbrev pub fault_of : LeftOut → ExtractFault
fault_of l = fault_by l.page l.why

-- the page that is left out for a reason, and for a fault
abbrev pub IsReasonLeft : Reason → LeftOut → Type 0
IsReasonLeft reason l = (l.why ≡ why.Reason reason) × (reason_page reason ≡ Some l.page)

abbrev pub IsLeftBy : ExtractFault → LeftOut → Type 0
IsLeftBy fault l = (fault_of l ≡ fault) × (fault_page fault ≡ Some l.page)

pub record IsLeft (slots : List (List ℕ)) (lines : ℕ) (l : LeftOut) : Type 0 where
  pub fault : AnswersFault slots lines (fault_of l)
  pub page : fault_page (fault_of l) ≡ Some l.page

-- in the order of the list, each with why the cycle without those before it has no service text
abbrev pub AreLeft : List (List ℕ) → ℕ → List LeftOut → List (List ℕ) → Type 0
AreLeft slots lines [] rest = rest ≡ slots
AreLeft slots lines (l ∷ ls) rest = IsLeft slots lines l × AreLeft (aside l.page slots) lines ls rest

-- eight magazines of 255 numbers
abbrev pub most_left : ℕ
most_left = 2040
