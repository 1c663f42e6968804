-- What is returned for a file in whose place an author's text may stand.
--
--   Stands                  the service text that it stands for, or the lines about an author's text; else why it is not read
use Rattle.std.specs.Prelude.{ℕ, List, Result, Ok, Err}
use Rattle.ttx_author_files.specs.AuthorTexts.{ReadsStanding}
use Rattle.ttx_author_files.specs.declared.author_texts.Standing.{Standing}
use Rattle.ttx_faults.specs.declared.faults.ToolFault.{ToolFault}
use Rattle.ttx_faults.specs.declared.faults.ToolFault.TheVariants.{Files}

abbrev pub Stands : List ℕ → List ℕ → Result Standing ToolFault → Type 0
Stands name bytes (Ok standing) = ReadsStanding name bytes (Ok standing)
Stands name bytes (Err (Files fault)) = ReadsStanding name bytes (Err fault)
Stands name bytes (Err _) = ⊥
