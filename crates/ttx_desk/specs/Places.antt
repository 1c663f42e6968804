-- Where a character of a text is in an author's text: after the quotation mark that begins the text, counting escapes.
--
--   Sign, sign_of           the sign at the beginning of a text: its bytes, whether it is a character, whether a line feed
--   text_front              the bytes of the quotation marks that begin a text
--   sign_left               the bytes from a character to the end of the file, by its index after a number of line feeds
--   mistake_path            the path of the value that a mistake is in
--   character_place         the place of a character of a text
--   place_behind, IsPlace   the place of a mistake
use Rattle.std.specs.Prelude.{◌≡◌, ℕ, zero, suc, ◌+◌, ◌-◌, Bool, true, false, ◌&&◌, ◌||◌, not, ◌==◌, nat_le, List, codes, length, drop, slice_index}
use Rattle.std.specs.Prelude.{Option, Some, None, unwrap_or, if◌then◌else◌}
use Rattle.std.specs.List.{position}
use Rattle.std.specs.Fmt.{decimal}
use Rattle.ttx_places.specs.Paths.{below, page_path}
use Rattle.ttx_places.specs.Places.{place_of}
use Rattle.ttx_desk.specs.declared.mistakes.Mistake.{Mistake}
use Rattle.ttx_desk.specs.declared.mistakes.Part.{Part}
use Rattle.ttx_desk.specs.declared.mistakes.Part.TheVariants.{Option as TheOption, Head, Row, Line, Status}
use Rattle.ttx_desk.specs.declared.places.Sign.{Sign}

abbrev pub sign : ℕ → Bool → Bool → Sign
sign size seen feed = record { size = size; seen = seen; feed = feed }

abbrev pub is_white : ℕ → Bool
is_white c = ((c == 0x20 || c == 0x09) || c == 0x0d) || c == 0x0a

-- white space that a text begins with
abbrev pub white_size : List ℕ → ℕ
white_size text = unwrap_or (position (λ c. not (is_white c)) text) (length text)

-- the bytes of an escape: \x and two digits, \u and four, \U and eight, or one more byte
abbrev pub escape_size : ℕ → ℕ
escape_size c = if c == 0x78 then 4 else if c == 0x75 then 6 else if c == 0x55 then 10 else 2

-- after a backslash: white space is left out (TOML, at the end of a line), anything else is an escape; \n is a line feed
abbrev pub escaped : List ℕ → Sign
escaped rest =
    if is_white (slice_index rest 0) then sign (suc (white_size rest)) false false
    else sign (escape_size (slice_index rest 0)) true (slice_index rest 0 == 0x6e)

-- the bytes of a character in UTF-8, by its first one
abbrev pub utf8_size : ℕ → ℕ
utf8_size c = if nat_le 0xf0 c then 4 else if nat_le 0xe0 c then 3 else if nat_le 0xc0 c then 2 else 1

-- what a text begins with; in double quotation marks (`basic`) a backslash begins an escape
abbrev pub sign_of : Bool → List ℕ → Sign
sign_of basic text =
    if basic && (slice_index text 0 == 0x5c) then escaped (drop 1 text)
    else sign (utf8_size (slice_index text 0)) true (slice_index text 0 == 0x0a)

-- three quotation marks begin a text of several lines, in which a line feed right after them does not count
abbrev pub lines_front : List ℕ → ℕ
lines_front text = if slice_index text 3 == 0x0a then 4 else if (slice_index text 3 == 0x0d) && (slice_index text 4 == 0x0a) then 5 else 3

abbrev pub text_front : List ℕ → ℕ
text_front text =
    if (slice_index text 1 == slice_index text 0) && (slice_index text 2 == slice_index text 0) then lines_front text else 1

-- a character counts once all line feeds that come first are passed
abbrev pub is_counted : Sign → ℕ → Bool
is_counted sign feeds = sign.seen && (feeds == 0)

abbrev pub is_sought : Sign → ℕ → ℕ → Bool
is_sought sign feeds index = is_counted sign feeds && (index == 0)

abbrev pub feeds_after : Sign → ℕ → ℕ
feeds_after sign feeds = if sign.feed then feeds - 1 else feeds

abbrev pub index_after : Sign → ℕ → ℕ → ℕ
index_after sign feeds index = if is_counted sign feeds then index - 1 else index

-- the text from the character on, in at most this many signs: the line feeds come first, then the characters before it
unfoldable pub sign_left : ℕ → Bool → ℕ → ℕ → List ℕ → Option ℕ
sign_left zero basic feeds index text = None
sign_left (suc most) basic feeds index text =
    if is_sought (sign_of basic text) feeds index then Some (length text)
    else sign_left most basic (feeds_after (sign_of basic text) feeds) (index_after (sign_of basic text) feeds index) (drop (sign_of basic text).size text)

-- the bytes of a file from a place on, and those of the text whose quotation mark stands there
abbrev pub inner_text : List ℕ → List ℕ
inner_text value = drop (text_front value) value

abbrev pub place_or : ℕ → ℕ → Option ℕ → ℕ
place_or size mark None = mark
place_or size mark (Some left) = size - left

-- the place of a character of the text whose quotation mark stands at `mark`
abbrev pub character_place : List ℕ → ℕ → ℕ → ℕ → ℕ
character_place file mark feeds index =
    let inner = inner_text (drop mark file) in
    place_or (length file) mark (sign_left (length inner) (slice_index file mark == 0x22) feeds index inner)

-- given the path of the page, or of `info`
abbrev pub part_path : List ℕ → Part → List ℕ
part_path path TheOption = below path (codes "option")
part_path path Head = below path (codes "head")
part_path path Status = below path (codes "text")
part_path path (Row number) = below (below path (codes "rows")) (decimal number)
part_path path (Line number) = below (below path (codes "rows")) (codes "text")

abbrev pub mistake_path : Mistake → List ℕ
mistake_path mistake = part_path (if mistake.page == 0 then codes "/info" else page_path mistake.page) mistake.part

-- line 1 of `text` comes after no line feed
abbrev pub feeds_before : Part → ℕ
feeds_before (Line number) = number - 1
feeds_before part = 0

-- a name of an option is wrong as a whole
abbrev pub place_in_value : List ℕ → ℕ → Part → ℕ → ℕ
place_in_value file mark TheOption index = mark
place_in_value file mark part index = character_place file mark (feeds_before part) index

abbrev pub place_behind : List ℕ → Mistake → Option ℕ → ℕ
place_behind file mistake None = 0
place_behind file mistake (Some mark) = place_in_value file mark mistake.part mistake.place

-- the place of the character that is wrong, or of the value if the whole is wrong
abbrev pub IsPlace : List ℕ → Mistake → ℕ → Type 0
IsPlace file mistake place = (mark : Option ℕ) × (place_of (mistake_path mistake) file ≡ Some mark) × (place ≡ place_behind file mistake mark)
