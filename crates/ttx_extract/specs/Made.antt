-- The text of a draft, and the service that is read from it.
--
--   Makes                   the text and the service, or why there are none
use Rattle.std.specs.Prelude.{◌≡◌, ◌<◌, length, string_bytes, ⊤, Result, Ok, Err}
use Rattle.ttx_cycle.specs.Bounded.{most_bytes}
use Rattle.ttx_source.specs.Services.{ServiceFields}
use Rattle.ttx_certify.specs.CertifyingFiles.{IsServiceText, IsServiceFault}
use Rattle.ttx_extract.specs.ServiceTexts.{service_text}
use Rattle.ttx_extract.specs.declared.extraction.Extracted.{Extracted}
use Rattle.ttx_extract.specs.declared.faults.ExtractFault.{ExtractFault}
use Rattle.ttx_extract.specs.declared.faults.ExtractFault.TheVariants.{Service, TooLong, Unsaid, NoMemory}

-- the text of the draft, and its service, which is the draft
pub record IsMade (d : ServiceFields) (made : Extracted) : Type 0 where
  pub text_is : string_bytes made.text ≡ service_text d
  pub says : IsServiceText (string_bytes made.text) made.service
  pub same : made.service ≡ d

-- why there is none: the text is too long, or it is not a service definition, or it is that of another service
abbrev pub IsNotMade : ServiceFields → ExtractFault → Type 0
IsNotMade d TooLong = most_bytes < length (service_text d)
IsNotMade d (Service error) = IsServiceFault (service_text d) error
IsNotMade d Unsaid = (service : ServiceFields) × IsServiceText (service_text d) service × (service ≡ d → ⊥)
IsNotMade d NoMemory = ⊤
IsNotMade d fault = ⊥

abbrev pub Makes : ServiceFields → Result Extracted ExtractFault → Type 0
Makes d (Ok made) = IsMade d made
Makes d (Err fault) = IsNotMade d fault
