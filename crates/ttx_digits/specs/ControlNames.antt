-- The names of a page header's control bits in a text.
use Rattle.std.specs.Prelude.{ℕ, List, [], ◌∷◌, ◌++◌, ◌==◌, if◌then◌else◌}
use Rattle.std.specs.Int.RustNames.{bit_and}
use Rattle.ttx_header.specs.Control.{control_table}

-- the names of the bits that are set, in the order of the table, each after a space
abbrev pub set_names : ℕ → List (List ℕ × ℕ) → List ℕ
set_names control [] = []
set_names control (row ∷ rest) = (if bit_and control row.1 == row.1 then 32 ∷ row.0 else []) ++ set_names control rest

-- the names of all control bits that are set, C4 first
unfoldable pub control_text : ℕ → List ℕ
control_text control = set_names control control_table
