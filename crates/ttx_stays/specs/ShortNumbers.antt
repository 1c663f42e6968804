-- The warnings about page numbers whose pages may change before they are read (profile).
--
--   three_seconds           in fields
--   keeps                   a stay keeps the pages of this one's number on the screen for so long
--   is_short                a page is the first of a number with several pages, and no stay keeps these so long
--   place_text, short_line  the place of the warning; the line of a number with so many pages
--   key_of                  a page number as one number
--   counted_text            the line of a page's number with so many pages, if it has several and no stay keeps these so long
--   short_lines_to, short_lines     the lines of the numbers of the first n pages, and of all
use Rattle.std.specs.Prelude.{ℕ, zero, suc, ◌+◌, ◌*◌, Bool, false, not, ◌&&◌, nat_le, if◌then◌else◌, List, [], ◌∷◌, ◌++◌, codes, length, slice_get}
use Rattle.std.specs.Prelude.{Option, Some, None}
use Rattle.std.specs.Fmt.{decimal}
use Rattle.std.specs.List.{list_any}
use Rattle.ttx_header.specs.Ids.{Id}
use Rattle.ttx_page.specs.Pages.{Page}
use Rattle.ttx_source.specs.Promises.{PromiseFields}
use Rattle.ttx_numbers.specs.Numbers.{share_number, siblings, is_first, number_text}

abbrev pub three_seconds : ℕ
three_seconds = 150

abbrev pub shares_with : Page → Option Page → Bool
shares_with p None = false
shares_with p (Some q) = share_number p q

abbrev pub keeps : List Page → Page → PromiseFields → Bool
keeps pages p stay = shares_with p (slice_get pages stay.page) && nat_le three_seconds stay.fields

-- the page at index n
abbrev pub is_short : List Page → List PromiseFields → ℕ → Page → Bool
is_short pages stays n p =
    (is_first pages n p && nat_le 2 (siblings pages p)) && not (list_any (keeps pages p) stays)

unfoldable pub place_text : Id → List ℕ
place_text id = codes "warning number " ++ number_text id

unfoldable pub short_line : Id → ℕ → List ℕ
short_line id count =
    place_text id ++ codes ": its " ++ decimal count
    ++ codes " pages may change before they are read: give one stays = 3.0 or more, and plan --spread" ++ 10 ∷ []

abbrev pub key_of : Page → ℕ
key_of p = p.id.mag * 256 + p.id.page

abbrev pub counted_text : List Page → List PromiseFields → Page → ℕ → List ℕ
counted_text pages stays p count = if nat_le 2 count && not (list_any (keeps pages p) stays) then short_line p.id count else []

abbrev pub short_text : List Page → List PromiseFields → ℕ → Option Page → List ℕ
short_text pages stays n None = []
short_text pages stays n (Some p) = if is_short pages stays n p then short_line p.id (siblings pages p) else []

abbrev pub short_lines_to : List Page → List PromiseFields → ℕ → List ℕ
short_lines_to pages stays zero = []
short_lines_to pages stays (suc n) = short_lines_to pages stays n ++ short_text pages stays n (slice_get pages n)

abbrev pub short_lines : List Page → List PromiseFields → List ℕ
short_lines pages stays = short_lines_to pages stays (length pages)
