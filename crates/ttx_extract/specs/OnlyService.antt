-- There is one service that has what a cycle sends first, none if a page is not sent unchanged, and one answer for each cycle.
--
--   OnlyOneIsSent           two services that say what a cycle sends first are the same
--   BlamedHasNone           if the first page that is not sent unchanged has a reason, the cycle has no service
--   Outcome, outcome_of     the kinds of answers; the kind of an answer, none for lack of memory
--   IsAnswer, AnswersAreOne an answer of `extract`; two of them for one cycle are of one kind
use Rattle.std.specs.Prelude.{◌≡◌, ℕ, ◌≤◌, List, length, Option, Some, None, Result, Ok, Err, IfOk}
use Rattle.ttx_source.specs.Services.{ServiceFields}
use Rattle.ttx_source.specs.declared.faults.SourceFault.{SourceFault}
use Rattle.ttx_source.specs.declared.faults.SourceFault.TheVariants as source
use Rattle.ttx_extract.specs.Drafts.{sent_draft}
use Rattle.ttx_extract.specs.Extracts.{IsSentService, IsExtract, Blames, IsSaid, Extracts}
use Rattle.ttx_extract.specs.declared.extraction.Extracted.{Extracted}
use Rattle.ttx_extract.specs.declared.faults.ExtractFault.{ExtractFault}
use Rattle.ttx_extract.specs.declared.faults.ExtractFault.TheVariants.{Conflict, Reason, Info, Service, TooLong, Unsaid, NoMemory}

abbrev pub OnlyOneIsSent : Type 0
OnlyOneIsSent = (slots : List (List ℕ)) → 1 ≤ length slots → length slots ≤ 65536 → (lines : ℕ) (a b : ServiceFields) →
    IsSentService slots lines a → IsSentService slots lines b → a ≡ b

abbrev pub BlamedHasNone : Type 0
BlamedHasNone = (slots : List (List ℕ)) → 1 ≤ length slots → length slots ≤ 65536 → (lines : ℕ) (fault : ExtractFault) →
    Blames slots lines fault → (service : ServiceFields) → IsExtract slots lines service → ⊥

-- a text; minus zero; no service definition; a text that is too long, or says something else; a page that isn't sent unchanged
pub data Outcome : Type 0 where
  written : Outcome
  minus_zero : Outcome
  no_service : Outcome
  long_text : Outcome
  other_text : Outcome
  unsteady : Outcome

abbrev pub outcome_of_source : SourceFault → Option Outcome
outcome_of_source source.NoMemory = None
outcome_of_source fault = Some no_service

abbrev pub outcome_of : Result Extracted ExtractFault → Option Outcome
outcome_of (Ok extracted) = Some written
outcome_of (Err (Info slot)) = Some minus_zero
outcome_of (Err (Service error)) = outcome_of_source error.fault
outcome_of (Err TooLong) = Some long_text
outcome_of (Err Unsaid) = Some other_text
outcome_of (Err (Conflict page item first second)) = Some unsteady
outcome_of (Err (Reason reason)) = Some unsteady
outcome_of (Err NoMemory) = None

pub record IsAnswer (slots : List (List ℕ)) (lines : ℕ) (result : Result Extracted ExtractFault) : Type 0 where
  pub answer : Extracts slots lines result
  pub sent : IfOk result (λ e. e.service ≡ sent_draft slots lines)
  pub said : IfOk result (λ e. IsSaid slots lines)

-- so an answer of each kind is given exactly where its clause holds
abbrev pub AnswersAreOne : Type 0
AnswersAreOne = (slots : List (List ℕ)) → 1 ≤ length slots → length slots ≤ 65536 → (lines : ℕ) (a b : Result Extracted ExtractFault) →
    IsAnswer slots lines a → IsAnswer slots lines b → (m n : Outcome) → outcome_of a ≡ Some m → outcome_of b ≡ Some n → m ≡ n
