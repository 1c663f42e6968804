-- The text of a service (profile): TOML, its keys in this order. A key with its default is left out, and so are spaces at the end of a
-- text. Texts are lists of bytes.
--
--   escape, trimmed, quoted     a character in a text, a text without the spaces at its end, a text in quotation marks
--   line, flag_line, number_line, text_line     a key and its value on a line; a line that is left out where the value is the default
--   number_word, sub_word, pair_word, link_word     hexadecimal digits: a page number, a subcode, two bytes, a link
--   name_text, control_text, links_text, rows_text, page_text      the table of a page
--   info_text               the table of the packet 8/30
--   service_text            the whole text
use Rattle.std.specs.Prelude.{ℕ, ◌+◌, ◌/◌, ◌%◌, List, [], ◌∷◌, ◌++◌, codes, flat_map, slice_index, Bool, true, false, ◌&&◌, ◌||◌, ◌==◌}
use Rattle.std.specs.Prelude.{Option, Some, None, is_none, if◌then◌else◌}
use Rattle.std.specs.List.{list_all}
use Rattle.std.specs.Fmt.{decimal}
use Rattle.ttx_digits.specs.Digits.{hex_digit, hex_byte, is_between}
use Rattle.ttx_header.specs.Ids.{Id}
use Rattle.ttx_header.specs.Control.{c5, c6, c7, c10, option_of}
use Rattle.ttx_info.specs.Infos.{InfoFields}
use Rattle.ttx_links.specs.Sets.{LinkSet}
use Rattle.ttx_source.specs.Services.{Authored, ServiceFields}

-- a quotation mark and a backslash follow a backslash; a code below 20 and 7F is \u and four hexadecimal digits
unfoldable pub escape : ℕ → List ℕ
escape c =
    if c == 34 || c == 92 then 92 ∷ c ∷ []
    else if is_between 32 126 c then c ∷ []
    else 92 ∷ codes "u00" ++ hex_byte c

abbrev pub kept_before : ℕ → List ℕ → List ℕ
kept_before c (next ∷ rest) = c ∷ next ∷ rest
kept_before c [] = if c == 32 then [] else c ∷ []

-- without the spaces at the end
unfoldable pub trimmed : List ℕ → List ℕ
trimmed [] = []
trimmed (c ∷ cs) = kept_before c (trimmed cs)

unfoldable pub quoted : List ℕ → List ℕ
quoted text = 34 ∷ flat_map escape text ++ 34 ∷ []

-- a key and its value
abbrev pub line : List ℕ → List ℕ → List ℕ
line key value = key ++ codes " = " ++ value ++ 10 ∷ []

-- where it is true
unfoldable pub flag_line : List ℕ → Bool → List ℕ
flag_line key set = if set then line key (codes "true") else []

-- where it isn't the default
unfoldable pub number_line : List ℕ → ℕ → ℕ → List ℕ
number_line key default n = if n == default then [] else line key (decimal n)

abbrev pub line_of_trimmed : List ℕ → List ℕ → List ℕ
line_of_trimmed key [] = []
line_of_trimmed key (c ∷ text) = line key (quoted (c ∷ text))

-- where it isn't all spaces
unfoldable pub text_line : List ℕ → List ℕ → List ℕ
text_line key text = line_of_trimmed key (trimmed text)

-- MPP
unfoldable pub number_word : ℕ → ℕ → List ℕ
number_word mag page = hex_digit mag ∷ hex_byte page

-- SSSS
unfoldable pub sub_word : ℕ → List ℕ
sub_word sub = hex_byte (sub / 256) ++ hex_byte (sub % 256)

-- the two bytes of a network or a CRC, in quotation marks
unfoldable pub pair_word : List ℕ → List ℕ
pair_word bytes = 34 ∷ hex_byte (slice_index bytes 0) ++ hex_byte (slice_index bytes 1) ++ 34 ∷ []

-- nothing for subcode 3F7F, any subpage
unfoldable pub sub_of_link : ℕ → List ℕ
sub_of_link sub = if sub == 0x3f7f then [] else 47 ∷ sub_word sub

unfoldable pub target_word : Id → List ℕ
target_word id = 34 ∷ number_word id.mag id.page ++ sub_of_link id.sub ++ 34 ∷ []

-- "MPP/SSSS", "MPP" for any subpage, and "" for none
unfoldable pub link_word : Option Id → List ℕ
link_word None = 34 ∷ 34 ∷ []
link_word (Some id) = target_word id

abbrev pub next_link : Option Id → List ℕ
next_link link = codes ", " ++ link_word link

-- with a comma between two
abbrev pub separated : List (Option Id) → List ℕ
separated [] = []
separated (link ∷ links) = link_word link ++ flat_map next_link links

abbrev pub is_zero : List ℕ → Bool
is_zero crc = (slice_index crc 0 == 0) && (slice_index crc 1 == 0)

unfoldable pub sub_text : ℕ → List ℕ
sub_text sub = line (codes "sub") (34 ∷ sub_word sub ++ 34 ∷ [])

-- where it isn't 0000
unfoldable pub sub_line : ℕ → List ℕ
sub_line sub = if sub == 0 then [] else sub_text sub

unfoldable pub page_heading : List ℕ
page_heading = 10 ∷ codes "[[page]]" ++ 10 ∷ []

unfoldable pub number_text : Id → List ℕ
number_text id = line (codes "number") (34 ∷ number_word id.mag id.page ++ 34 ∷ [])

-- the page number, the subcode where it isn't 0000, and how often the page is sent where that isn't once
unfoldable pub name_text : Id → ℕ → List ℕ
name_text id often =
    page_heading ++ number_text id
    ++ sub_line id.sub
    ++ number_line (codes "often") 1 often

-- update indicator, and interrupted sequence
unfoldable pub c8 : ℕ → Bool
c8 control = control / 16 % 2 == 1

unfoldable pub c9 : ℕ → Bool
c9 control = control / 32 % 2 == 1

-- the national option and the control bits C5 to C7, and C8 to C10 (EN 300 706, 9.3.1.3)
unfoldable pub lower_flags_text : ℕ → List ℕ
lower_flags_text control =
    number_line (codes "option") 0 (option_of control)
    ++ flag_line (codes "newsflash") (c5 control)
    ++ flag_line (codes "subtitle") (c6 control)
    ++ flag_line (codes "suppress") (c7 control)

unfoldable pub upper_flags_text : ℕ → List ℕ
upper_flags_text control =
    flag_line (codes "update") (c8 control)
    ++ flag_line (codes "interrupted") (c9 control)
    ++ flag_line (codes "inhibit") (c10 control)

-- the six links where there is one
unfoldable pub six_text : List (Option Id) → List ℕ
six_text six = if list_all is_none six then [] else line (codes "links") (91 ∷ separated six ++ 93 ∷ [])

-- the CRC where it isn't zero
unfoldable pub crc_text : List ℕ → List ℕ
crc_text crc = if is_zero crc then [] else line (codes "crc") (pair_word crc)

-- the lines of rows, from this number on
abbrev pub rows_text : ℕ → List (List ℕ) → List ℕ
rows_text number [] = []
rows_text number (row ∷ rows) = text_line (decimal number) row ++ rows_text (number + 1) rows

unfoldable pub links_text : LinkSet → List ℕ → List ℕ
links_text set crc = six_text set.six ++ flag_line (codes "row24") set.show24 ++ crc_text crc

unfoldable pub rows_heading : List ℕ
rows_heading = 10 ∷ codes "[page.rows]" ++ 10 ∷ []

unfoldable pub rows_table : List (List ℕ) → List ℕ
rows_table rows = rows_heading ++ rows_text 1 rows

unfoldable pub page_text : Authored → List ℕ
page_text a =
    name_text a.page.id a.often
    ++ lower_flags_text a.page.control
    ++ upper_flags_text a.page.control
    ++ text_line (codes "head") a.page.head
    ++ links_text a.page.links a.page.crc
    ++ rows_table a.page.rows

-- half hours, negative if west
abbrev pub halves_word : ℕ → Bool → List ℕ
halves_word halves west = (if west then 45 ∷ [] else []) ++ decimal halves

unfoldable pub clock_text : InfoFields → List ℕ
clock_text f =
    line (codes "halves") (halves_word f.halves f.west) ++ line (codes "mjd") (decimal f.mjd) ++ line (codes "utc") (decimal f.utc)

unfoldable pub network_text : InfoFields → List ℕ
network_text f = line (codes "initial") (link_word f.initial) ++ line (codes "network") (pair_word f.network)

unfoldable pub info_heading : List ℕ
info_heading = 10 ∷ codes "[info]" ++ 10 ∷ []

unfoldable pub designation_text : ℕ → List ℕ
designation_text designation = line (codes "designation") (decimal designation)

unfoldable pub status_text : InfoFields → List ℕ
status_text f = line (codes "text") (quoted (trimmed f.text))

unfoldable pub info_text : InfoFields → List ℕ
info_text f = info_heading ++ designation_text f.designation ++ network_text f ++ clock_text f ++ status_text f

abbrev pub info_part : Option InfoFields → List ℕ
info_part None = []
info_part (Some f) = info_text f

abbrev pub bool_word : Bool → List ℕ
bool_word true = codes "true"
bool_word false = codes "false"

abbrev pub pages_text : List Authored → List ℕ
pages_text [] = []
pages_text (page ∷ pages) = page_text page ++ pages_text pages

unfoldable pub settings_text : ℕ → Bool → List ℕ
settings_text lines serial = line (codes "lines") (decimal lines) ++ line (codes "serial") (bool_word serial)

-- the settings, the packet 8/30 and the pages
abbrev pub service_text : ServiceFields → List ℕ
service_text service =
    settings_text service.lines service.serial ++ info_part service.info ++ pages_text service.pages
