-- The service text of what can be said.
--
--   IsNoMemory              memory ran out
--   IsText                  a service that says what a cycle sends, and its text
--   Steps                   a service text, or a page that is why there is none
--   ExtractsLast            a service text, or why there is none, after these pages were left out
--   IsPartial, IsNoPartial  the pages that are left out, and the service text of the rest; why the rest has none
--   ExtractsPartly          what is returned for a cycle and lines of a field
use Rattle.std.specs.Prelude.{◌≡◌, ◌⊎◌, ℕ, List, length, string_bytes, ⊤, None, Result, Ok, Err}
use Rattle.ttx_certify.specs.CertifyingFiles.{IsServiceText}
use Rattle.ttx_extract.specs.Extracts.{IsExtract, AnswersFault}
use Rattle.ttx_extract.specs.ServiceTexts.{service_text}
use Rattle.ttx_extract.specs.declared.extraction.Extracted.{Extracted}
use Rattle.ttx_extract.specs.declared.faults.ExtractFault.{ExtractFault}
use Rattle.ttx_extract.specs.declared.faults.ExtractFault.TheVariants.{NoMemory}
use Rattle.ttx_partial.specs.LeftOut.{fault_page, IsLeft, AreLeft, most_left}
use Rattle.ttx_partial.specs.declared.left_out.LeftOut.{LeftOut}
use Rattle.ttx_partial.specs.declared.extraction.Partial.{Partial}
use Rattle.ttx_partial.specs.declared.extraction.Step.{Step}
use Rattle.ttx_partial.specs.declared.extraction.Step.TheVariants.{Whole, Without}

abbrev pub IsNoMemory : ExtractFault → Type 0
IsNoMemory NoMemory = ⊤
IsNoMemory fault = ⊥

pub record IsText (slots : List (List ℕ)) (lines : ℕ) (e : Extracted) : Type 0 where
  pub text : IsServiceText (string_bytes e.text) e.service
  pub same : string_bytes e.text ≡ service_text e.service
  pub says : IsExtract slots lines e.service

abbrev pub Steps : List (List ℕ) → ℕ → Result Step ExtractFault → Type 0
Steps slots lines (Ok (Whole e)) = IsText slots lines e
Steps slots lines (Ok (Without l)) = IsLeft slots lines l
Steps slots lines (Err fault) = AnswersFault slots lines fault × (fault_page fault ≡ None)

abbrev pub ExtractsLast : List (List ℕ) → ℕ → List LeftOut → Result Partial ExtractFault → Type 0
ExtractsLast rest lines left (Ok p) = (p.left.items ≡ left) × IsText rest lines p.extracted
ExtractsLast rest lines left (Err fault) = AnswersFault rest lines fault

pub record IsPartial (slots : List (List ℕ)) (lines : ℕ) (p : Partial) : Type 0 where
  pub rest : List (List ℕ)
  pub left : AreLeft slots lines p.left.items rest
  pub text : IsText rest lines p.extracted

-- the fault names no page, or there is no further number
pub record IsNoPartial (slots : List (List ℕ)) (lines : ℕ) (why : ExtractFault) : Type 0 where
  pub before : List LeftOut
  pub rest : List (List ℕ)
  pub left : AreLeft slots lines before rest
  pub fault : AnswersFault rest lines why
  pub last : (fault_page why ≡ None) ⊎ (length before ≡ most_left)

abbrev pub ExtractsPartly : List (List ℕ) → ℕ → Result Partial ExtractFault → Type 0
ExtractsPartly slots lines (Ok p) = IsPartial slots lines p
ExtractsPartly slots lines (Err NoMemory) = ⊤
ExtractsPartly slots lines (Err fault) = IsNoPartial slots lines fault
