-- What `explain` writes for a word.
--
--   ExplainsTo              the text of a reason goes to the first writer, the line of another word to the second
--   Explains                what has been written, for each answer
use Rattle.std.specs.Prelude.{◌≡◌, ◌⊎◌, ℕ, Bool, true, false, List, Option, Result, Err}
use Rattle.ttx_files.specs.declared.faults.FilesFault.TheVariants.{NoMemory}
use Rattle.ttx_reasons.specs.Entries.{IsExplained}
use Rattle.ttx_reasons.specs.declared.entry.Entry.{Entry}
use Rattle.ttx_faults.specs.Reports.{Reports}
use Rattle.ttx_faults.specs.declared.faults.ToolFault.{ToolFault}
use Rattle.ttx_faults.specs.declared.faults.ToolFault.TheVariants.{Files}

-- with what the two writers hold before and after; the status is 0 or 2
abbrev pub ExplainsTo : Bool → List ℕ → Option (List ℕ) → Option (List ℕ) → Option (List ℕ) → Option (List ℕ) → Result ℕ ToolFault → Type 0
ExplainsTo true text old new errors_old errors_new result = Reports text 0 old new result × (errors_new ≡ errors_old)
ExplainsTo false text old new errors_old errors_new result = Reports text 2 errors_old errors_new result × (new ≡ old)

-- the explanation of the word goes out; or there was no memory, and nothing does
abbrev pub Explains : List Entry → List ℕ → Option (List ℕ) → Option (List ℕ) → Option (List ℕ) → Option (List ℕ) → Result ℕ ToolFault → Type 0
Explains table word old new errors_old errors_new result =
    ((known : Bool) × (text : List ℕ) × IsExplained table word known text × ExplainsTo known text old new errors_old errors_new result)
    ⊎ ((result ≡ Err (Files NoMemory)) × (new ≡ old) × (errors_new ≡ errors_old))
