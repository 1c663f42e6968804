-- The line about a service text that is refused.
--
--   fault_words, error_line the words of a fault; the whole line
--   position_text, place_text     the line and the column of a place, and the name of the value there
--   is_toml                 whether a fault occurs only in texts that are TOML
--   IsTableLine, IsTomlLine the line about a text that is TOML: its place is that of the first value, element or header of the path that
--                           the fault concerns; about any other text: its place is within the text, its words are those of the TOML reader
--   IsErrorLine             the line about a fault in a page, counted from 1, or outside pages, 0
use Rattle.std.specs.Prelude.{◌≡◌, ℕ, ◌≤◌, Bool, true, false, List, [], ◌∷◌, ◌++◌, codes, length, take, Option, Some, None}
use Rattle.std.specs.Fmt.{decimal}
use Rattle.ttx_source.specs.Values.{Fault, not_toml, missing, wrong_kind, wrong_page_number, wrong_subcode, duplicate, too_long, wrong_character}
use Rattle.ttx_source.specs.Values.{wrong_often, out_of_range, no_memory}
use Rattle.toml.specs.Data.{Members}
use Rattle.toml.specs.Parse.{parse_document}
use Rattle.ttx_places.specs.Places.{place_of}
use Rattle.ttx_places.specs.Positions.{line_after, column_after}
use Rattle.ttx_check.specs.Spots.{spot_path, spot_name, IsDetail}

abbrev pub fault_words : Fault → List ℕ
fault_words not_toml = codes "this isn't TOML"
fault_words (missing key) = key ++ codes " is missing"
fault_words (wrong_kind key) = key ++ codes " takes another kind of value"
fault_words wrong_page_number = codes "this names no page"
fault_words wrong_subcode = codes "this is no subcode"
fault_words duplicate = codes "an earlier page has this number and subcode"
fault_words too_long = codes "the text is too long"
fault_words wrong_character = codes "a character can't be sent"
fault_words wrong_often = codes "often takes 1, 2, 4 or 8"
fault_words (out_of_range key) = key ++ codes " is out of range"
fault_words no_memory = []

abbrev pub error_line : List ℕ → Fault → List ℕ → List ℕ
error_line place fault detail = place ++ codes ": " ++ fault_words fault ++ detail ++ 10 ∷ []

abbrev pub after_space : List ℕ → List ℕ
after_space [] = []
after_space (c ∷ name) = 32 ∷ c ∷ name

abbrev pub position_text : ℕ → ℕ → List ℕ
position_text line column = codes "line " ++ decimal line ++ codes " column " ++ decimal column

-- a place in a text, if it is known, and the name of the value there
abbrev pub place_text : List ℕ → Option ℕ → List ℕ → List ℕ
place_text bytes None name = name
place_text bytes (Some place) name =
    position_text (line_after (take place bytes)) (column_after (take place bytes)) ++ after_space name

abbrev pub is_toml : Fault → Bool
is_toml not_toml = false
is_toml _ = true

pub record IsTomlLine (bytes : List ℕ) (fault : Fault) (text : List ℕ) : Type 0 where
  pub place : ℕ
  pub words : List ℕ
  pub within : place ≤ length bytes
  pub line : text ≡ error_line (place_text bytes (Some place) []) fault (codes ": " ++ words)

pub record IsTableLine (bytes : List ℕ) (fault : Fault) (page : ℕ) (text : List ℕ) : Type 0 where
  pub table : Members
  pub place : Option ℕ
  pub detail : List ℕ
  pub parsed : parse_document bytes ≡ Some table
  pub stands : place_of (spot_path table fault page) bytes ≡ Some place
  pub says : IsDetail table fault page detail
  pub line : text ≡ error_line (place_text bytes place (spot_name table fault page)) fault detail

abbrev pub IsLineOf : Bool → List ℕ → Fault → ℕ → List ℕ → Type 0
IsLineOf true bytes fault page text = IsTableLine bytes fault page text
IsLineOf false bytes fault page text = IsTomlLine bytes fault text

abbrev pub IsErrorLine : List ℕ → Fault → ℕ → List ℕ → Type 0
IsErrorLine bytes fault page text = IsLineOf (is_toml fault) bytes fault page text
