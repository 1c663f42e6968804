-- What is wrong in an author's text, in words.
--
--   option_name, joined     the name of a national option; names in a row
--   sign_text               a character, or its number if it is not seen
--   part_text, part_width, part_option    the part of a text in which a mistake is: its characters, its cells, its national option
--   missing_words, mode_words, name_words       the words about a character, about a mode, about the name of an option
--   IsMarkWords, IsFaultWords     the words about a mark without a code; about a mistake
use Rattle.std.specs.Prelude.{◌≡◌, ℕ, suc, ◌+◌, ◌-◌, Bool, false, ◌||◌, ◌==◌, nat_lt, List, [], ◌∷◌, ◌++◌, codes, drop, take, length, flat_map, slice_index_or}
use Rattle.std.specs.Prelude.{Option, Some, None, option_map, option_and_then, unwrap_or, encode_utf8, Result, Ok, Err, if◌then◌else◌}
use Rattle.std.specs.Fmt.{decimal}
use Rattle.std.specs.List.{position, range_with_len}
use Rattle.toml.specs.Data.{Members, get_member}
use Rattle.ttx_author.specs.Marks.{marks_of}
use Rattle.ttx_author.specs.Options.{option_names}
use Rattle.ttx_author.specs.Remedies.{IsNearest}
use Rattle.ttx_author.specs.Rows.{codes_of}
use Rattle.ttx_author.specs.Signs.{has_character}
use Rattle.ttx_author.specs.declared.rows.Lack.{Lack}
use Rattle.ttx_author.specs.declared.rows.Why.{Why}
use Rattle.ttx_author.specs.declared.rows.Why.TheVariants.{Character, Letter, Mosaic, Tag, Room}
use Rattle.ttx_desk.specs.Pages.{option_in}
use Rattle.ttx_desk.specs.Rows.{characters_of}
use Rattle.ttx_desk.specs.Said.{author_page, page_lines, row_in}
use Rattle.ttx_desk.specs.Tables.{text_at, table_at}
use Rattle.ttx_desk.specs.declared.mistakes.Mistake.{Mistake}
use Rattle.ttx_desk.specs.declared.mistakes.Part.{Part}
use Rattle.ttx_desk.specs.declared.mistakes.Part.TheVariants.{Option as TheOption, Head, Row, Line, Status}
use Rattle.ttx_desk.specs.declared.mistakes.Fault.{Fault}
use Rattle.ttx_desk.specs.declared.mistakes.Fault.TheVariants.{Name, Mark, Twice, Lines}

-- the page with this number in the text, from 1; 0 is none
abbrev pub page_at : Members → ℕ → Option Members
page_at author number = if number == 0 then None else author_page author (number - 1)

abbrev pub option_at : Option Members → ℕ
option_at None = 0
option_at (Some page) = unwrap_or (option_in (get_member (codes "option") page)) 0

abbrev pub text_in : List ℕ → Option Members → List ℕ
text_in key None = []
text_in key (Some table) = characters_of (text_at key table)

abbrev pub row_of : Option Members → ℕ → List ℕ
row_of rows number = if (number == 0) || nat_lt 24 number then [] else row_in (page_lines rows) rows (number - 1)

abbrev pub row_text : Option Members → ℕ → List ℕ
row_text page number = row_of (option_and_then (table_at (codes "rows")) page) number

-- the characters of the part in which a mistake is
abbrev pub text_of : Members → Option Members → Part → List ℕ
text_of author page TheOption = text_in (codes "option") page
text_of author page Head = text_in (codes "head") page
text_of author page Status = text_in (codes "text") (table_at (codes "info") author)
text_of author page (Row number) = row_text page number
text_of author page (Line number) = row_text page number

abbrev pub part_text : Members → Mistake → List ℕ
part_text author mistake = text_of author (page_at author mistake.page) mistake.part

-- its cells
abbrev pub part_width : Part → ℕ
part_width Head = 24
part_width Status = 20
part_width part = 40

-- its national option; English if that has no name or number
abbrev pub part_option : Members → Mistake → ℕ
part_option author mistake = option_at (page_at author mistake.page)

abbrev pub option_name : ℕ → List ℕ
option_name number = slice_index_or option_names number (codes "option 7")

abbrev pub is_unseen : ℕ → Bool
is_unseen c = nat_lt c 0x20 || (c == 0x7f)

abbrev pub sign_text : ℕ → List ℕ
sign_text c = if is_unseen c then codes "character " ++ decimal c else encode_utf8 c

abbrev pub after_comma : List ℕ → List ℕ
after_comma name = codes ", " ++ name

-- characters, by their numbers if they are not seen; in UTF-8
unfoldable pub signs_text : List ℕ → List ℕ
signs_text text = flat_map sign_text text

unfoldable pub utf8_text : List ℕ → List ℕ
utf8_text text = flat_map encode_utf8 text

-- the names of the options that have a character, from a number on
abbrev pub name_if : ℕ → ℕ → List (List ℕ)
name_if c number = if has_character number c then option_name number ∷ [] else []

abbrev pub names_from : ℕ → ℕ → List (List ℕ)
names_from c number = flat_map (name_if c) (range_with_len number (7 - number))

abbrev pub names_with : ℕ → List (List ℕ)
names_with c = names_from c 0

unfoldable pub name_list : List (List ℕ) → List ℕ
name_list [] = []
name_list (name ∷ names) = name ++ flat_map after_comma names

abbrev pub options_words : List (List ℕ) → List ℕ
options_words [] = codes "; no national option has it"
options_words (name ∷ names) = codes "; these have it: " ++ name_list (name ∷ names)

abbrev pub remedy_words : ℕ → List ℕ
remedy_words c = if is_unseen c then codes "; control codes are written by names, as {red}" else options_words (names_with c)

-- a character that the option does not have, and what has it
abbrev pub missing_words : ℕ → ℕ → List ℕ
missing_words option c = option_name option ++ codes " has no " ++ sign_text c ++ remedy_words c

-- the cell after these codes, from 1; the last one if a mark before it has no code
abbrev pub cell_behind : ℕ → Result (List ℕ) Lack → ℕ
cell_behind width (Ok before) = suc (length before)
cell_behind width (Err lack) = width

abbrev pub cell_at : ℕ → ℕ → List ℕ → ℕ → ℕ
cell_at option width text place = cell_behind width (codes_of option false width (marks_of (take place text)))

-- a character that the other mode shows, and the tag that is missing
abbrev pub mode_words : ℕ → ℕ → List ℕ → List ℕ → List ℕ
mode_words cell c mode needs =
    codes "cell " ++ decimal cell ++ codes " stands " ++ mode ++ codes ", where " ++ sign_text c ++ codes " is not shown; a tag such as {" ++ needs
    ++ codes "} is missing before it"

-- the name after a brace, up to the brace that closes it
abbrev pub name_behind : List ℕ → Option (List ℕ)
name_behind [] = None
name_behind (brace ∷ rest) = option_map (λ end. take end rest) (position (λ c. c == 0x7d) rest)

abbrev pub nearest_words : List ℕ → List ℕ
nearest_words nearest = codes "}; the nearest is {" ++ nearest ++ codes "}"

abbrev pub near_words : List ℕ → List ℕ → List ℕ
near_words name nearest = (codes "there is no {" ++ utf8_text name) ++ nearest_words nearest

-- a brace that begins no tag: the name of the nearest one
abbrev pub IsBraceWords : Option (List ℕ) → List ℕ → Type 0
IsBraceWords None words = words ≡ codes "no } ends this name; a brace that is to be seen is written {{"
IsBraceWords (Some name) words =
    (nearest : List ℕ) × IsNearest name nearest × (words ≡ near_words name nearest)

abbrev pub IsMarkWords : ℕ → ℕ → List ℕ → ℕ → Why → List ℕ → Type 0
IsMarkWords option width text place Character words = words ≡ missing_words option (slice_index_or text place 0x20)
IsMarkWords option width text place Letter words =
    words ≡ mode_words (cell_at option width text place) (slice_index_or text place 0x20) (codes "in mosaic mode") (codes "white")
IsMarkWords option width text place Mosaic words =
    words ≡ mode_words (cell_at option width text place) (slice_index_or text place 0x20) (codes "outside mosaic mode") (codes "mosaic white")
IsMarkWords option width text place Tag words = IsBraceWords (name_behind (drop place text)) words
IsMarkWords option width text place Room words = words ≡ codes "no cell is left; there are " ++ decimal width

-- a name that no option has, and the names of the options
abbrev pub name_words : List ℕ → List ℕ
name_words name =
    codes "no national option is called " ++ signs_text name ++ codes "; the names are " ++ name_list option_names

abbrev pub IsWords : Fault → ℕ → ℕ → List ℕ → ℕ → List ℕ → Type 0
IsWords (Mark why) option width text place words = IsMarkWords option width text place why words
IsWords Name option width text place words = words ≡ name_words text
IsWords Twice option width text place words = words ≡ codes "this row stands in `text` too; leave one of them out"
IsWords Lines option width text place words = words ≡ codes "`text` has more than 24 lines; a page has rows 1 to 24"

-- the words about a mistake
abbrev pub IsFaultWords : Members → Mistake → List ℕ → Type 0
IsFaultWords author mistake words =
    IsWords mistake.fault (part_option author mistake) (part_width mistake.part) (part_text author mistake) mistake.place words
