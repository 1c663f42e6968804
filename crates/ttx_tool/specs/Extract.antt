-- What `extract` writes for the bytes of a packet file, also with `--partial`.
--
--   extracted_line          the line that says how many pages there are
--   IsExtracted, IsExtracting       the text of what slots send, and of a packet file, and its line
--   IsExtractFault, IsNoExtract     why there is none
--   ExtractsText            what is returned for the bytes
--   is_extraction_write                the fault of a write
--   ExtractsFile            what was written to the text's file and to the output, for each answer
--   FailsExtract            a fault of a device is returned only if that device was the first that failed
use Rattle.std.specs.Prelude.{◌≡◌, ℕ, Bool, false, List, [], ◌∷◌, ◌++◌, length, codes, string_bytes, ⊤, Option, None, Result, Ok, Err}
use Rattle.std.specs.Fmt.{decimal}
use Rattle.std.specs.Io.KnownBytes.{Keeps}
use Rattle.ttx_cycle.specs.Files.{IsPacketFile}
use Rattle.ttx_files.specs.Answers.{WritesBoth}
use Rattle.ttx_files.specs.Devices.{Device, IsFirstFailure}
use Rattle.ttx_files.specs.Texts.{IsServiceText}
use Rattle.ttx_files.specs.declared.faults.FilesFault.TheVariants.{Cycle, Write, NoMemory}
use Rattle.ttx_files.specs.declared.told.Filed.{Filed}
use Rattle.ttx_cycle.specs.Reading.{Judged}
use Rattle.ttx_extract.specs.Extracts.{IsExtract}
use Rattle.ttx_extract.specs.ServiceTexts.{service_text}
use Rattle.ttx_extract.specs.declared.faults.ExtractFault.{ExtractFault}
use Rattle.ttx_source.specs.Services.{ServiceFields}
use Rattle.ttx_faults.specs.Devices.{is_tool_write, IsFaultOf}
use Rattle.ttx_faults.specs.declared.faults.ExtractionFault.{ExtractionFault}
use Rattle.ttx_faults.specs.declared.faults.ExtractionFault.TheVariants.{Tool, Refused}
use Rattle.ttx_faults.specs.declared.faults.ToolFault.TheVariants.{Files}

abbrev pub extracted_line : ℕ → List ℕ
extracted_line count = codes "extracted " ++ decimal count ++ codes " pages" ++ 10 ∷ []

-- the text is the one of a service that says what the slots send, and the line counts its pages
pub record IsExtracted (slots : List (List ℕ)) (lines : ℕ) (text line : List ℕ) : Type 0 where
  pub service : ServiceFields
  pub text_is : IsServiceText text service
  pub same : text ≡ service_text service
  pub says : IsExtract slots lines service
  pub line_is : line ≡ extracted_line (length service.pages)

-- the same for a packet file, where `Says` is the text for slots and the lines about it
abbrev pub IsExtracting : (List (List ℕ) → List ℕ → List ℕ → Type 0) → List ℕ → List ℕ → List ℕ → Type 0
IsExtracting Says bytes text line = (slots : List (List ℕ)) × IsPacketFile bytes slots × Says slots text line

-- there is no text of the slots, or memory ran out
abbrev pub IsExtractFault : (ExtractFault → Type 0) → ExtractionFault → Type 0
IsExtractFault Refuses (Refused fault) = Refuses fault
IsExtractFault Refuses (Tool (Files NoMemory)) = ⊤
IsExtractFault Refuses (Tool _) = ⊥

-- of these bytes there is no cycle, or there is and no text of it
abbrev pub IsNoExtract : (List (List ℕ) → ExtractFault → Type 0) → List ℕ → ExtractionFault → Type 0
IsNoExtract Refuses bytes (Refused fault) = (slots : List (List ℕ)) × IsPacketFile bytes slots × Refuses slots fault
IsNoExtract Refuses bytes (Tool (Files (Cycle fault))) = Judged bytes (Err fault)
IsNoExtract Refuses bytes (Tool (Files NoMemory)) = ⊤
IsNoExtract Refuses bytes (Tool _) = ⊥

abbrev pub ExtractsText : (List (List ℕ) → List ℕ → List ℕ → Type 0) → (List (List ℕ) → ExtractFault → Type 0) → List ℕ →
    Result (Filed ⊤) ExtractionFault → Type 0
ExtractsText Says Refuses bytes (Ok told) = IsExtracting Says bytes told.file.items (string_bytes told.line)
ExtractsText Says Refuses bytes (Err fault) = IsNoExtract Refuses bytes fault

-- Ok: the text and the line. A write fault: the first `written` bytes of both. Otherwise nothing, and why there is no text.
abbrev pub ExtractsFile : (List (List ℕ) → List ℕ → List ℕ → Type 0) → (List (List ℕ) → ExtractFault → Type 0) → List ℕ →
    Option (List ℕ) → Option (List ℕ) → Option (List ℕ) → Option (List ℕ) → Result ℕ ExtractionFault → Type 0
ExtractsFile Says Refuses bytes file_old file_new old new (Ok status) =
    (status ≡ 0) × ((text line : List ℕ) × IsExtracting Says bytes text line × WritesBoth text line file_old file_new old new (Ok status))
ExtractsFile Says Refuses bytes file_old file_new old new (Err (Tool (Files (Write written)))) =
    (text line : List ℕ) × IsExtracting Says bytes text line × WritesBoth {T = ℕ} text line file_old file_new old new (Err (Write written))
ExtractsFile Says Refuses bytes file_old file_new old new (Err fault) = IsNoExtract Refuses bytes fault × Keeps file_old file_new × Keeps old new

-- the fault of a write
abbrev pub is_extraction_write : ExtractionFault → Bool
is_extraction_write (Tool fault) = is_tool_write fault
is_extraction_write (Refused fault) = false

-- The faults of the tool are those of the devices, and lack of memory; a refusal belongs to no device.
abbrev pub FailsExtract : {T : Type 0} → List Device → Result T ExtractionFault → Type 0
FailsExtract devices (Err (Tool (Files fault))) = IsFaultOf devices (Files fault)
FailsExtract devices (Err (Tool _)) = ⊥
FailsExtract devices _ = IsFirstFailure devices None
