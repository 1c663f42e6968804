-- What `extract` writes without `--lines`.
--
--   IsNamedOf, IsNamed, IsNaming    the line about a service of slots, about slots, and about a packet file
--   NamesText               what is returned for the bytes
--   NamesLines              what was written, for each answer
use Rattle.std.specs.Prelude.{◌≡◌, ℕ, ◌<◌, List, length, take, string_bytes, MatchOption, Option, Result, Ok, Err, String}
use Rattle.std.specs.declared.alloc.Global.{Global}
use Rattle.std.specs.Io.KnownBytes.{Appends, Keeps}
use Rattle.ttx_cycle.specs.Files.{IsPacketFile}
use Rattle.ttx_files.specs.declared.faults.FilesFault.TheVariants.{Write}
use Rattle.ttx_source.specs.Services.{ServiceFields, pages_of}
use Rattle.ttx_extract.specs.Extracts.{IsExtract, AnswersFault}
use Rattle.ttx_possible.specs.Values.{NoneHas, AreFirst}
use Rattle.ttx_possible.specs.Lines.{values_line}
use Rattle.ttx_possible.specs.declared.line_values.Values.{Values}
use Rattle.ttx_tool.specs.Extract.{IsNoExtract}
use Rattle.ttx_faults.specs.declared.faults.ExtractionFault.{ExtractionFault}
use Rattle.ttx_faults.specs.declared.faults.ExtractionFault.TheVariants.{Tool}
use Rattle.ttx_faults.specs.declared.faults.ToolFault.TheVariants.{Files}

-- the values with which the pages have a deadline
pub record IsNamedOf (slots : List (List ℕ)) (service : ServiceFields) (line : List ℕ) : Type 0 where
  pub found : Option Values
  pub is : MatchOption found (NoneHas slots (pages_of service)) (AreFirst slots (pages_of service))
  pub line_is : line ≡ values_line found

-- of the pages that the slots send; any lines of a field give the same pages
pub record IsNamed (slots : List (List ℕ)) (line : List ℕ) : Type 0 where
  pub service : ServiceFields
  pub says : IsExtract slots 1 service
  pub named : IsNamedOf slots service line

pub record IsNaming (bytes : List ℕ) (line : List ℕ) : Type 0 where
  pub slots : List (List ℕ)
  pub cycle_is : IsPacketFile bytes slots
  pub named : IsNamed slots line

abbrev pub NamesText : List ℕ → Result (String Global) ExtractionFault → Type 0
NamesText bytes (Ok line) = IsNaming bytes (string_bytes line)
NamesText bytes (Err fault) = IsNoExtract (λ slots. AnswersFault slots 1) bytes fault

-- Ok: the line, and status 1. A write fault: its first `written` bytes. Otherwise nothing, and why there is no line.
abbrev pub NamesLines : List ℕ → Option (List ℕ) → Option (List ℕ) → Result ℕ ExtractionFault → Type 0
NamesLines bytes old new (Ok status) = (status ≡ 1) × ((line : List ℕ) × IsNaming bytes line × Appends old new line)
NamesLines bytes old new (Err (Tool (Files (Write written)))) =
    (line : List ℕ) × IsNaming bytes line × (written < length line) × Appends old new (take written line)
NamesLines bytes old new (Err fault) = IsNoExtract (λ slots. AnswersFault slots 1) bytes fault × Keeps old new
