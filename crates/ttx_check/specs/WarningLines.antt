-- The lines of warnings (profile): each begins with `warning` and its place, and ends with 0A.
--
--   page_text, row_text, magazine_text      the place of a page, of a row, of a magazine
--   line_text, other_text   the place of a row or of `head`; the words about a code that shows another character
--   dead_link_text, itself_text    the words about a link, and about a page behind itself
--   warning_text            the place and the words of a warning
--   warning_line, warning_lines     the line of a warning, and those of a list
use Rattle.std.specs.Prelude.{ℕ, List, [], ◌∷◌, ◌++◌, ◌==◌, if◌then◌else◌, codes, encode_utf8}
use Rattle.std.specs.Fmt.{decimal}
use Rattle.ttx_header.specs.Ids.{Id}
use Rattle.ttx_digits.specs.PageIds.{id_text}
use Rattle.ttx_check.specs.declared.warning.Warning.{Warning}
use Rattle.ttx_check.specs.declared.warning.Warning.TheVariants.{DeadInitial, DeadLink, HiddenRow, UnshownRow, StrayTab, StrayBreak, NoBox}
use Rattle.ttx_check.specs.declared.warning.Warning.TheVariants.{BehindSubpage, BehindItself, MostTraffic}
use Rattle.ttx_check.specs.declared.warning.Warning.TheVariants.{OtherSign, LiteralEscape, OpenBox, EmptyRow, LetterNumber, LetterSubcode}

unfoldable pub page_text : Id → List ℕ
page_text id = codes "page " ++ id_text id

unfoldable pub row_text : Id → ℕ → List ℕ
row_text id number = page_text id ++ codes " row " ++ decimal number

-- row 0 is `head`
unfoldable pub line_text : Id → ℕ → List ℕ
line_text id number = page_text id ++ (if number == 0 then codes " head" else codes " row " ++ decimal number)

unfoldable pub other_text : Id → ℕ → ℕ → ℕ → ℕ → List ℕ
other_text page row code shown option =
    line_text page row ++ codes ": " ++ encode_utf8 code ++ codes " is shown as " ++ encode_utf8 shown ++ codes " under option " ++ decimal option

unfoldable pub dead_link_text : Id → ℕ → List ℕ
dead_link_text page link = page_text page ++ codes " link " ++ decimal link ++ codes ": the service has no such page"

unfoldable pub itself_text : Id → ℕ → List ℕ
itself_text page times =
    page_text page ++ codes ": often doesn't help: it is sent directly behind itself " ++ decimal times ++ codes " times"

unfoldable pub magazine_text : ℕ → List ℕ
magazine_text mag = codes "magazine " ++ decimal mag

abbrev pub warning_text : Warning → List ℕ
warning_text DeadInitial = codes "info initial: the service has no such page"
warning_text (DeadLink page link) = dead_link_text page link
warning_text (HiddenRow page row) = row_text page row ++ codes ": double height in the row above hides it"
warning_text (UnshownRow page) = page_text page ++ codes " row 24: it is shown only with row24 = true"
warning_text (StrayTab page row) = row_text page row ++ codes ": code 09 does nothing before a flash: is it a tab?"
warning_text (StrayBreak page row) = row_text page row ++ codes ": code 0A does nothing before a box: is it a line break?"
warning_text (OtherSign page row column code shown option) = other_text page row code shown option
warning_text (LiteralEscape page row) = line_text page row ++ codes ": \\u is an escape only in double quotation marks"
warning_text (OpenBox page row) = line_text page row ++ codes ": the box has no end: code 0A twice ends it"
warning_text (EmptyRow page) = page_text page ++ codes " row24: row 24 is blank"
warning_text (LetterNumber page) = page_text page ++ codes " number: no remote control dials the digits A to F"
warning_text (LetterSubcode page) = page_text page ++ codes " sub: no remote control dials the digits A to F"
warning_text (NoBox page) = page_text page ++ codes ": a newsflash or subtitle without a box shows nothing"
warning_text (BehindSubpage page) =
    page_text page ++ codes ": sent directly behind another subpage, which receivers that show late then miss, but for plan --late"
warning_text (BehindItself page times) = itself_text page times
warning_text (MostTraffic mag) =
    magazine_text mag ++ codes ": it has more than half of all packets: compare ttx wait with serial = false"

abbrev pub warning_line : Warning → List ℕ
warning_line warning = codes "warning " ++ warning_text warning ++ 10 ∷ []

abbrev pub warning_lines : List Warning → List ℕ
warning_lines [] = []
warning_lines (warning ∷ warnings) = warning_line warning ++ warning_lines warnings
