-- The warnings about stays that no plan keeps (profile).
--
--   alone_line              the line of a stay whose page is the only one of its number
--   long_place, pages_text, slots_text, long_line       its place, its pages, what they take, and the line of a stay that is too long for a cycle
--   unkept_line             the line of a stay of so many slots, if no plan keeps it
--   stay_text, unkept_lines that of a stay, and those of a list
use Rattle.std.specs.Prelude.{ℕ, ◌*◌, nat_lt, if◌then◌else◌, List, [], ◌∷◌, ◌++◌, codes, slice_get, Option, Some, None}
use Rattle.std.specs.Fmt.{decimal}
use Rattle.ttx_digits.specs.PageIds.{id_text}
use Rattle.ttx_header.specs.Ids.{Id}
use Rattle.ttx_page.specs.Pages.{Page}
use Rattle.ttx_source.specs.Promises.{PromiseFields}
use Rattle.ttx_numbers.specs.Numbers.{siblings}

unfoldable pub alone_line : Id → List ℕ
alone_line id = codes "warning page " ++ id_text id ++ codes " stays: no other page has its number" ++ 10 ∷ []

unfoldable pub long_place : Id → List ℕ
long_place id = codes "warning page " ++ id_text id ++ codes " stays: "

unfoldable pub pages_text : ℕ → List ℕ
pages_text count = codes "the " ++ decimal count ++ codes " pages of its number"

unfoldable pub slots_text : ℕ → List ℕ
slots_text slots = codes " take " ++ decimal slots ++ codes " slots, and a cycle has at most 65536" ++ 10 ∷ []

unfoldable pub long_line : Id → ℕ → ℕ → List ℕ
long_line id count slots = long_place id ++ pages_text count ++ slots_text slots

-- each page of the number stays so many slots, one after another
abbrev pub unkept_line : List Page → Page → ℕ → List ℕ
unkept_line pages p stay =
    if nat_lt (siblings pages p) 2 then alone_line p.id
    else (if nat_lt 65536 (siblings pages p * stay) then long_line p.id (siblings pages p) (siblings pages p * stay) else [])

abbrev pub text_of : ℕ → List Page → ℕ → Option Page → List ℕ
text_of lines pages fields None = []
text_of lines pages fields (Some p) = unkept_line pages p (fields * lines)

abbrev pub stay_text : ℕ → List Page → PromiseFields → List ℕ
stay_text lines pages stay = text_of lines pages stay.fields (slice_get pages stay.page)

abbrev pub unkept_lines : ℕ → List Page → List PromiseFields → List ℕ
unkept_lines lines pages [] = []
unkept_lines lines pages (stay ∷ stays) = stay_text lines pages stay ++ unkept_lines lines pages stays
