-- What `certify` answers and writes for a packet file, the text of a service and that of a certificate.
--
--   AnswersClaim            what was written for each answer, where this is said of verdicts and this is the status of each
--   CertifiesBy             the same, by what is asked for
--   TellsPasses, CertifiesTwice     the same for a packet file that is read twice
use Rattle.std.specs.Prelude.{ℕ, Bool, true, false, List, Option, Some, IfSome, Result}
use Rattle.ttx_certificate.specs.Entries.{CertificateFields}
use Rattle.ttx_certify.specs.AllLines.{IsJudgedAll}
use Rattle.ttx_certify.specs.CertifyingFiles.{IsJudged}
use Rattle.ttx_certify.specs.CertifyingPasses.{AnswersPasses, CertifiesPasses}
use Rattle.ttx_certify.specs.declared.verdict.Verdict.{Verdict}
use Rattle.ttx_deadline.specs.RequiredFiles.{IsJudgedRequired}
use Rattle.ttx_files.specs.Judging.{AnswersFiles}
use Rattle.ttx_files.specs.declared.faults.FilesFault.{FilesFault}
use Rattle.ttx_late.specs.CertifyingLate.{IsJudgedLate}
use Rattle.ttx_records.specs.Judging.{IsRecorded, IsAllRecorded, IsLateRecorded, IsNumbersRecorded, IsRequiredRecorded}
use Rattle.ttx_records.specs.Verdicts.{verdict_record}
use Rattle.ttx_source.specs.Services.{ServiceFields}
use Rattle.ttx_subpages.specs.CertifyingNumbers.{IsJudgedByNumber}
use Rattle.ttx_tool.specs.Answers.{verdict_status, late_status, numbers_status, required_status, IsAnswered}
use Rattle.ttx_tool.specs.Claims.{IfKnown}
use Rattle.ttx_tool.specs.declared.claims.Claim.{Claim}
use Rattle.ttx_tool.specs.declared.commands.certify.Judgement.{Judgement}
use Rattle.ttx_tool.specs.declared.commands.certify.Judgement.TheVariants.{AtOnce, All, Late, Numbers, Within}
use Rattle.ttx_faults.specs.declared.faults.ToolFault.{ToolFault}

abbrev pub AnswersClaim : {V A B C : Type 0} → (V → ℕ) → (List (List ℕ) → ServiceFields → CertificateFields → V → List ℕ → Type 0) →
    (A → Option (List ℕ)) → (B → Option (List ℕ)) → (C → Option (List ℕ)) → Claim A B C → (old new : Option (List ℕ)) → Result ℕ ToolFault → Type 0
AnswersClaim status_of Says cycle service certificate claim old new result =
    IsAnswered status_of (λ answer. IfKnown cycle service certificate claim (λ a b c. AnswersFiles Says a b c old new answer)) result

abbrev pub CertifiesBy : {A B C : Type 0} → (json : Bool) → Judgement → (A → Option (List ℕ)) → (B → Option (List ℕ)) → (C → Option (List ℕ)) →
    Claim A B C → (old new : Option (List ℕ)) → Result ℕ ToolFault → Type 0
CertifiesBy false AtOnce = AnswersClaim verdict_status IsJudged
CertifiesBy false All = AnswersClaim verdict_status IsJudgedAll
CertifiesBy false Late = AnswersClaim late_status IsJudgedLate
CertifiesBy false Numbers = AnswersClaim numbers_status IsJudgedByNumber
CertifiesBy false (Within most) = AnswersClaim required_status (λ slots service w. IsJudgedRequired slots service w (Some most))
CertifiesBy true AtOnce = AnswersClaim verdict_status IsRecorded
CertifiesBy true All = AnswersClaim verdict_status IsAllRecorded
CertifiesBy true Late = AnswersClaim late_status IsLateRecorded
CertifiesBy true Numbers = AnswersClaim numbers_status IsNumbersRecorded
CertifiesBy true (Within most) = AnswersClaim required_status (λ slots service w. IsRequiredRecorded slots service w (Some most))

abbrev pub TellsPasses : (json : Bool) → (first second service certificate : List ℕ) → (old new : Option (List ℕ)) → Result Verdict FilesFault → Type 0
TellsPasses false = CertifiesPasses
TellsPasses true = AnswersPasses verdict_record

abbrev pub CertifiesTwice : (json : Bool) → (first second service certificate old new : Option (List ℕ)) → Result ℕ ToolFault → Type 0
CertifiesTwice json first second service certificate old new result =
    IsAnswered verdict_status (λ answer. IfSome first (λ a. IfSome second (λ b. IfSome service (λ c. IfSome certificate (λ d.
    TellsPasses json a b c d old new answer))))) result
