-- The objects of the text of a service (profile): those of the lines of the long report.
--
--   IsTomlRecord            those of a text that is not a TOML document; of a key that is given twice with both places
--   IsTableRecord           those of a text with this table, and its status
--   IsServiceRecord         those of a text, and its status
use Rattle.std.specs.Prelude.{◌≡◌, ℕ, Bool, true, List, [], ◌∷◌, ◌++◌, codes, map, Option, Some, None}
use Rattle.toml.specs.Data.{Members}
use Rattle.ttx_json.specs.Objects.{Member, count}
use Rattle.ttx_source.specs.Documents.{document_of}
use Rattle.ttx_mistakes.specs.LongLines.{placed}
use Rattle.ttx_mistakes.specs.LongReports.{IsTomlMistake, notes_of, pages_in}
use Rattle.ttx_mistake_records.specs.Records.{line, place_members, note_members, IsRecordOf}

abbrev pub one_error : List Member
one_error = count (codes "errors") 1 ∷ count (codes "warnings") 0 ∷ []

pub record IsTomlRecord (file bytes text : List ℕ) : Type 0 where
  pub place : ℕ
  pub words : List ℕ
  pub first : Option ℕ
  pub mistake : IsTomlMistake bytes place words first
  pub says : text ≡ line (place_members file bytes place true words ++ note_members bytes first) ++ line one_error

abbrev pub IsTableRecord : List ℕ → List ℕ → Bool → Members → List ℕ → ℕ → Type 0
IsTableRecord file bytes strict table text code =
    IsRecordOf strict file bytes (pages_in table) (map (placed bytes) (notes_of table)) text code

abbrev pub IsRecordBy : List ℕ → List ℕ → Bool → Option Members → List ℕ → ℕ → Type 0
IsRecordBy file bytes strict None text code = IsTomlRecord file bytes text × (code ≡ 2)
IsRecordBy file bytes strict (Some table) text code = IsTableRecord file bytes strict table text code

abbrev pub IsServiceRecord : List ℕ → List ℕ → Bool → List ℕ → ℕ → Type 0
IsServiceRecord file bytes strict text code = IsRecordBy file bytes strict (document_of bytes) text code
