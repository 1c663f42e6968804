-- What `extract --partial` writes for the slots of a packet file.
--
--   IsPartlyTold            the text of what slots send without the pages that are left out, and its lines
--   IsRefusedPartly         why there is none
use Rattle.std.specs.Prelude.{◌≡◌, ℕ, List, length, string_bytes, Err}
use Rattle.ttx_extract.specs.declared.faults.ExtractFault.{ExtractFault}
use Rattle.ttx_partial.specs.Others.{others}
use Rattle.ttx_partial.specs.Lines.{partial_lines}
use Rattle.ttx_partial.specs.Partials.{IsPartial, ExtractsPartly}
use Rattle.ttx_partial.specs.declared.extraction.Partial.{Partial}

-- the text says what the slots send but for the pages that are left out; the lines name these, and count the others
pub record IsPartlyTold (slots : List (List ℕ)) (lines : ℕ) (text line : List ℕ) : Type 0 where
  pub partial : Partial
  pub is : IsPartial slots lines partial
  pub text_is : text ≡ string_bytes partial.extracted.text
  pub line_is : line ≡ partial_lines partial.left.items (length partial.extracted.service.pages) (others slots)

-- there is no text of the slots
abbrev pub IsRefusedPartly : List (List ℕ) → ℕ → ExtractFault → Type 0
IsRefusedPartly slots lines fault = ExtractsPartly slots lines (Err fault)
