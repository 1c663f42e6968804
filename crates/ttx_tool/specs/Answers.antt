-- The answers of calls of other crates as those of commands.
--
--   verdict_status, late_status, numbers_status, required_status, splice_status, sent_status, late_splice_status
--                          0 for a yes, 1 for a no
--   pages_status            0, whatever is listed
--   IsAnswered              a command answers what a call does
use Rattle.std.specs.Prelude.{◌≡◌, ℕ, ⊤, Result, Ok, Err}
use Rattle.ttx_files.specs.declared.faults.FilesFault.{FilesFault}
use Rattle.ttx_certify.specs.declared.verdict.Verdict.{Verdict}
use Rattle.ttx_certify.specs.declared.verdict.Verdict.TheVariants as verdict
use Rattle.ttx_deadline.specs.declared.requirements.RequiredVerdict.{RequiredVerdict}
use Rattle.ttx_deadline.specs.declared.requirements.RequiredVerdict.TheVariants as required
use Rattle.ttx_late.specs.declared.verdict.LateVerdict.{LateVerdict}
use Rattle.ttx_late.specs.declared.verdict.LateVerdict.TheVariants as late
use Rattle.ttx_change.specs.declared.verdict.LateSplice.{LateSplice}
use Rattle.ttx_change.specs.declared.verdict.LateSplice.TheVariants as late_splice
use Rattle.ttx_subpages.specs.declared.verdict.NumbersVerdict.{NumbersVerdict}
use Rattle.ttx_subpages.specs.declared.verdict.NumbersVerdict.TheVariants as numbers
use Rattle.ttx_proof.specs.declared.sent.SentVerdict.{SentVerdict}
use Rattle.ttx_proof.specs.declared.sent.SentVerdict.TheVariants as sent
use Rattle.ttx_proof.specs.declared.verdict.SpliceVerdict.{SpliceVerdict}
use Rattle.ttx_proof.specs.declared.verdict.SpliceVerdict.TheVariants as splice
use Rattle.ttx_faults.specs.declared.faults.ToolFault.{ToolFault}
use Rattle.ttx_faults.specs.declared.faults.ToolFault.TheVariants.{Files}

abbrev pub verdict_status : Verdict → ℕ
verdict_status verdict.Yes = 0
verdict_status (verdict.No reason) = 1

abbrev pub late_status : LateVerdict → ℕ
late_status (late.Yes gap) = 0
late_status (late.No reason) = 1
late_status (late.NeverShown page slot) = 1

abbrev pub numbers_status : NumbersVerdict → ℕ
numbers_status (numbers.Yes gap) = 0
numbers_status (numbers.No reason) = 1
numbers_status (numbers.Lacking lack) = 1

abbrev pub required_status : RequiredVerdict → ℕ
required_status required.Yes = 0
required_status (required.No reason) = 1
required_status (required.Unmet unmet) = 1

abbrev pub splice_status : SpliceVerdict → ℕ
splice_status splice.Yes = 0
splice_status (splice.No reason) = 1

abbrev pub sent_status : SentVerdict → ℕ
sent_status sent.Yes = 0
sent_status (sent.No reason) = 1
sent_status (sent.TooSoon left) = 1

abbrev pub late_splice_status : LateSplice → ℕ
late_splice_status late_splice.Yes = 0
late_splice_status (late_splice.No verdict) = 1
late_splice_status (late_splice.Amid page slot) = 1
late_splice_status (late_splice.Stored page slot) = 1
late_splice_status (late_splice.Unfollowed page) = 1

abbrev pub pages_status : ⊤ → ℕ
pages_status _ = 0

-- The answer is that of a call on files: the status of its verdict, or its fault.
abbrev pub IsAnswered : {V : Type 0} → (V → ℕ) → (Result V FilesFault → Type 0) → Result ℕ ToolFault → Type 0
IsAnswered {V} status_of Says (Ok status) = (verdict : V) × (status ≡ status_of verdict) × Says (Ok verdict)
IsAnswered status_of Says (Err (Files fault)) = Says (Err fault)
IsAnswered status_of Says (Err _) = ⊥
