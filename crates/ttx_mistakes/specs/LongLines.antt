-- The lines about a note, as editors read them (profile): FILE:LINE:COLUMN: error: WORDS, the line of the text, and a caret below the place.
--
--   note_place              the place of a note: that of the character, or of the value; the beginning of the text if it has none
--   until_end, source_line, visible     the line of a place, as it is printed: a control code as a question mark
--   caret_line              a caret below a place
--   place_line, lines_at    the line of a note; its three lines
--   first_lines             the three lines about the place where a key is first given that a text gives twice
--   Placed, placed          an error or a warning at a place of a text; that of a note
--   placed_text, placed_texts   its lines, and those of several, in the short or the long form
use Rattle.std.specs.Prelude.{ℕ, Bool, ◌&&◌, ◌||◌, ◌==◌, not, nat_lt, if◌then◌else◌, List, [], ◌∷◌, ◌++◌, codes, drop, take, map, filter, Option, Some, None}
use Rattle.std.specs.Fmt.{decimal}
use Rattle.ttx_places.specs.Places.{place_of}
use Rattle.ttx_places.specs.Positions.{line_after, column_after, last_line, begins_character}
use Rattle.ttx_places.specs.Signs.{character_place}
use Rattle.ttx_mistakes.specs.Notes.{Note}

abbrev pub known : Option (Option ℕ) → Option ℕ
known None = None
known (Some place) = place

abbrev pub place_at : List ℕ → Option ℕ → Option ℕ → ℕ
place_at bytes sign None = 0
place_at bytes None (Some place) = place
place_at bytes (Some index) (Some place) = character_place bytes place index

unfoldable pub note_place : List ℕ → Note → ℕ
note_place bytes n = place_at bytes n.sign (known (place_of n.path bytes))

-- a line feed or a carriage return
abbrev pub is_end : ℕ → Bool
is_end c = (c == 10) || (c == 13)

abbrev pub until_end : List ℕ → List ℕ
until_end [] = []
until_end (c ∷ text) = if is_end c then [] else c ∷ until_end text

abbrev pub source_line : List ℕ → ℕ → List ℕ
source_line bytes place = last_line (take place bytes) ++ until_end (drop place bytes)

abbrev pub visible : ℕ → ℕ
visible c = if (nat_lt c 32 && not (c == 9)) || (c == 127) then 63 else c

-- a tab stays a tab
abbrev pub blank : ℕ → ℕ
blank c = if c == 9 then 9 else 32

unfoldable pub caret_line : List ℕ → ℕ → List ℕ
caret_line bytes place = map blank (filter begins_character (last_line (take place bytes))) ++ 94 ∷ 10 ∷ []

abbrev pub severity : Bool → List ℕ
severity error = if error then codes ": error: " else codes ": warning: "

abbrev pub position_part : List ℕ → ℕ → List ℕ
position_part bytes place = codes ":" ++ decimal (line_after (take place bytes)) ++ codes ":" ++ decimal (column_after (take place bytes))

abbrev pub place_part : List ℕ → List ℕ → ℕ → Bool → List ℕ
place_part file bytes place error = file ++ position_part bytes place ++ severity error

unfoldable pub place_line : List ℕ → List ℕ → ℕ → Bool → List ℕ → List ℕ
place_line file bytes place error words = place_part file bytes place error ++ words ++ 10 ∷ []

unfoldable pub lines_at : List ℕ → List ℕ → ℕ → Bool → List ℕ → List ℕ
lines_at file bytes place error words =
    place_line file bytes place error words ++ map visible (source_line bytes place) ++ 10 ∷ caret_line bytes place

abbrev pub first_part : List ℕ → List ℕ → ℕ → List ℕ
first_part file bytes place = file ++ position_part bytes place ++ codes ": note: the key is first given here"

unfoldable pub first_lines : List ℕ → List ℕ → Option ℕ → List ℕ
first_lines file bytes None = []
first_lines file bytes (Some place) = first_part file bytes place ++ 10 ∷ [] ++ map visible (source_line bytes place) ++ 10 ∷ caret_line bytes place

-- an error or a warning at a place of a text
pub record Placed : Type 0 where
  pub error : Bool
  pub place : ℕ
  pub words : List ℕ

abbrev pub placed_at : Bool → ℕ → List ℕ → Placed
placed_at error place words = record { error = error; place = place; words = words }

abbrev pub placed : List ℕ → Note → Placed
placed bytes n = placed_at n.error (note_place bytes n) n.words

-- its three lines, or the first of them alone
unfoldable pub placed_text : Bool → List ℕ → List ℕ → Placed → List ℕ
placed_text long file bytes p =
    if long then lines_at file bytes p.place p.error p.words else place_line file bytes p.place p.error p.words

abbrev pub placed_texts : Bool → List ℕ → List ℕ → List Placed → List ℕ
placed_texts long file bytes [] = []
placed_texts long file bytes (p ∷ ps) = placed_text long file bytes p ++ placed_texts long file bytes ps
