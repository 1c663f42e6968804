-- What `version` writes.
--
--   version_text            the version of the program, and the kit and the logic by which it is proved
--   TellsVersion                   what was written of a text for each answer
use Rattle.std.specs.Prelude.{ℕ, List, [], ◌∷◌, ◌++◌, codes, Option, Result, Ok, Err}
use Rattle.std.specs.Io.KnownBytes.{Appends}
use Rattle.ttx_files.specs.Answers.{WritesLine}
use Rattle.ttx_faults.specs.declared.faults.ToolFault.{ToolFault}
use Rattle.ttx_faults.specs.declared.faults.ToolFault.TheVariants.{Files}

-- three lines
abbrev pub version_text : List ℕ
version_text = codes "ttx 1.0.0" ++ 10 ∷ codes "kit rattle-kit-13f" ++ 10 ∷ codes "logic dac8208d650f15bf" ++ 10 ∷ []

-- the text went out, or its first `written` bytes
abbrev pub TellsVersion : {U : Type 0} → List ℕ → Option (List ℕ) → Option (List ℕ) → Result U ToolFault → Type 0
TellsVersion text old new (Ok _) = Appends old new text
TellsVersion {U} text old new (Err (Files fault)) = WritesLine {T = U} text old new (Err fault)
TellsVersion text old new (Err _) = ⊥
