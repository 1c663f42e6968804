-- The service text of an author's text.
--
--   author_in               the table of an author's text, if it is TOML
--   first_comment           the comment that names the source
--   IsComposed, Composes    what is returned for an author's text
use Rattle.std.specs.Prelude.{◌≡◌, ◌<◌, ℕ, List, [], ◌++◌, codes, length, string_bytes, ⊤, Bool, not, ◌&&◌, ◌==◌, nat_le, Option, Some, None, Result, Ok, Err, if◌then◌else◌}
use Rattle.std.specs.List.{list_all}
use Rattle.toml.specs.Data.{Members}
use Rattle.toml.specs.Parse.{parse_document}
use Rattle.ttx_source.specs.Documents.{document_of}
use Rattle.ttx_source.specs.declared.faults.SourceError.{SourceError}
use Rattle.ttx_source.specs.Faults.{fault_of}
use Rattle.ttx_source.specs.KeyFaults.{out_of_memory}
use Rattle.ttx_source.specs.Services.{service_of, service_in, read_bytes}
use Rattle.ttx_desk.specs.Services.{service_table, mistakes}
use Rattle.ttx_desk.specs.Said.{SaysTexts}
use Rattle.ttx_desk.specs.declared.composition.Composed.{Composed}
use Rattle.ttx_desk.specs.declared.composition.ComposeFault.{ComposeFault}
use Rattle.ttx_desk.specs.declared.composition.ComposeFault.TheVariants.{NotToml, Mistakes, Service, Unsaid, NoMemory}

abbrev pub author_in : List ℕ → Option Members
author_in bytes = document_of bytes

-- the bytes begin with these
abbrev pub BeginsWith : List ℕ → List ℕ → Type 0
BeginsWith front bytes = (rest : List ℕ) × (bytes ≡ front ++ rest)

-- no memory, or a text that would be read as another
abbrev pub IsUnsaid : ComposeFault → Type 0
IsUnsaid Unsaid = ⊤
IsUnsaid NoMemory = ⊤
IsUnsaid fault = ⊥

-- a refusal, or lack of memory
abbrev pub IsFaultFor : SourceError → ComposeFault → Type 0
IsFaultFor error (Service told) = (told ≡ error) × (error ≡ out_of_memory → ⊥)
IsFaultFor error NoMemory = ⊤
IsFaultFor error fault = ⊥

-- the fault for which a text is refused
abbrev pub IsRefusedText : List ℕ → ComposeFault → Type 0
IsRefusedText text (Service error) = service_in (parse_document text) ≡ Err (fault_of error.fault, error.page)
IsRefusedText text fault = IsUnsaid fault

-- a name without control characters
abbrev pub is_printed : List ℕ → Bool
is_printed name = list_all (λ c. nat_le 32 c && not (c == 127)) name

abbrev pub printed_name : List ℕ → List ℕ
printed_name name = if is_printed name then name else codes "another text"

unfoldable pub first_comment : List ℕ → List ℕ
first_comment source =
    codes "# Composed from " ++ printed_name source ++ codes " by ttx compose: change that text, and compose it again.\n"

-- The text says the table that the author's table means, and is read as this service, which says what the author wrote.
pub record IsComposed (author : Members) (composed : Composed) : Type 0 where
  pub clean : mistakes author ≡ []
  pub table : parse_document (string_bytes composed.text) ≡ Some (service_table author)
  pub service : read_bytes (string_bytes composed.text) ≡ Ok composed.service
  pub texts : SaysTexts author composed.service

-- the answer for an author's table
abbrev pub ComposesTable : Members → Result Composed ComposeFault → Type 0
ComposesTable author (Ok composed) = IsComposed author composed
ComposesTable author (Err NotToml) = ⊥
ComposesTable author (Err (Mistakes found)) = (found.items ≡ mistakes author) × (0 < length found.items)
ComposesTable author (Err (Service error)) =
    (mistakes author ≡ []) × (service_of (service_table author) ≡ Err (fault_of error.fault, error.page))
ComposesTable author (Err Unsaid) = mistakes author ≡ []
ComposesTable author (Err NoMemory) = ⊤

-- the answer for a text, which may be no TOML
abbrev pub Composes : Option Members → Result Composed ComposeFault → Type 0
Composes (Some author) answer = ComposesTable author answer
Composes None (Err NotToml) = ⊤
Composes None (Err NoMemory) = ⊤
Composes None answer = ⊥
