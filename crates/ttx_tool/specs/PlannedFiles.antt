-- What `find` finds in a packet file that `plan` writes, and what `certify` says to a certificate that `find` writes.
--
--   IsPlanFile              a packet file that is written for the text of a service
--   IsCertified, IsLateCertified    `certify` says yes to these three inputs; `certify --late` does
--   PlannedFilesAreFound    in a packet file of a plan a deadline is found
--   FoundIsCertified, AskedIsCertified      a certificate that is found is certified; also one with the deadline that is asked for
--   LateIsCertified         in a packet file of a plan for receivers that show late, `certify --late` says yes to what is found
--   FindsDeadline, MakesCertified           what `find` answers, and what it writes
use Rattle.std.specs.Prelude.{◌≡◌, ℕ, ◌≤◌, Bool, true, List, [], ⊤, Option, Some, Result, Ok, Err}
use Rattle.ttx_certify.specs.CertifyingFiles.{Certifies}
use Rattle.ttx_certify.specs.declared.verdict.Verdict.{Verdict}
use Rattle.ttx_certify.specs.declared.verdict.Verdict.TheVariants.{Yes}
use Rattle.ttx_cycle.specs.Files.{file_of}
use Rattle.ttx_deadline.specs.declared.asked_deadlines.Asked.{Asked}
use Rattle.ttx_late.specs.CertifyingLate.{CertifiesLate}
use Rattle.ttx_late.specs.declared.verdict.LateVerdict.{LateVerdict}
use Rattle.ttx_late.specs.declared.verdict.LateVerdict.TheVariants as late
use Rattle.ttx_page.specs.declared.class.Class.{Class}
use Rattle.ttx_tool.specs.Find.{IsFinding}
use Rattle.ttx_tool.specs.FindDeadline.{IsAsked}
use Rattle.ttx_tool.specs.Plan.{IsPlan}
use Rattle.ttx_faults.specs.declared.faults.ToolFault.{ToolFault}

-- a packet file that `plan` writes for the text of a service and receivers of the class
pub record IsPlanFile (a b : List ℕ) (late : Bool) (class : Class) : Type 0 where
  pub slots : List (List ℕ)
  pub plan : IsPlan b late class slots
  pub file : a ≡ file_of slots

-- a packet file, the text of a service and that of a certificate are inputs of which Yes is right, and nothing else is
pub record IsCertified (a b c : List ℕ) : Type 0 where
  pub line : List ℕ
  pub yes : Certifies a b c Yes line
  pub only : (verdict : Verdict) (said : List ℕ) → Certifies a b c verdict said → verdict ≡ Yes

-- the same for receivers that show a page late, and one gap is right
pub record IsLateCertified (a b c : List ℕ) : Type 0 where
  pub gap : ℕ
  pub line : List ℕ
  pub yes : CertifiesLate a b c (late.Yes gap) line
  pub only : (verdict : LateVerdict) (said : List ℕ) → CertifiesLate a b c verdict said → verdict ≡ late.Yes gap

-- in a packet file of a plan `find` finds a deadline, for the class of the plan and each repeat count
abbrev pub PlannedFilesAreFound : Type 0
PlannedFilesAreFound = (a b : List ℕ) (late : Bool) (class : Class) → IsPlanFile a b late class → (repeat : ℕ) → 1 ≤ repeat → repeat ≤ 8 →
    (file line : List ℕ) (status : ℕ) → IsFinding a b repeat class file line status → status ≡ 0

-- where `find` finds a deadline, `certify` says yes to the certificate
abbrev pub FoundIsCertified : Type 0
FoundIsCertified = (a b : List ℕ) (class : Class) (repeat : ℕ) (file line : List ℕ) → IsFinding a b repeat class file line 0 → IsCertified a b file

-- where `find` gives a certificate the deadline that is asked for, `certify` says yes to it
abbrev pub AskedIsCertified : Type 0
AskedIsCertified = (a b : List ℕ) (asked : Asked) (file line : List ℕ) → IsAsked a b asked file line 0 → IsCertified a b file

-- where `find` finds a deadline in a packet file that is planned for receivers that show late, `certify --late` says yes to the certificate
abbrev pub LateIsCertified : Type 0
LateIsCertified = (a b : List ℕ) (class : Class) → IsPlanFile a b true class → (asked : Class) (repeat : ℕ) (file line : List ℕ) →
    IsFinding a b repeat asked file line 0 → IsLateCertified a b file

-- the status is 0 where the packet file is one of a plan
abbrev pub FindsDeadline : List ℕ → List ℕ → Class → Result ℕ ToolFault → Type 0
FindsDeadline a b class (Ok status) = (late : Bool) → IsPlanFile a b late class → status ≡ 0
FindsDeadline a b class (Err fault) = ⊤

-- where the status is 0, what was written to an empty file is certified
abbrev pub MakesCertified : List ℕ → List ℕ → Option (List ℕ) → Option (List ℕ) → Result ℕ ToolFault → Type 0
MakesCertified a b old new result = (file : List ℕ) → old ≡ Some [] → new ≡ Some file → result ≡ Ok 0 → IsCertified a b file
