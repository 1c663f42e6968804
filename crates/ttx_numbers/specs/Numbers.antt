-- Page numbers, and the pages of a list that share one.
--
--   share_number            two pages have one page number
--   siblings                how many pages have the number of one
--   is_first                no page before an index has the number of this one
--   number_text             a page number, as in `110`
use Rattle.std.specs.Prelude.{ℕ, Bool, not, ◌&&◌, ◌==◌, List, ◌∷◌, take}
use Rattle.std.specs.List.{count_by, list_any}
use Rattle.ttx_digits.specs.Digits.{hex_digit, hex_byte}
use Rattle.ttx_header.specs.Ids.{Id}
use Rattle.ttx_page.specs.Pages.{Page}

abbrev pub share_number : Page → Page → Bool
share_number p q = (p.id.mag == q.id.mag) && (p.id.page == q.id.page)

abbrev pub siblings : List Page → Page → ℕ
siblings pages p = count_by (share_number p) pages

abbrev pub is_first : List Page → ℕ → Page → Bool
is_first pages n p = not (list_any (share_number p) (take n pages))

abbrev pub number_text : Id → List ℕ
number_text id = hex_digit id.mag ∷ hex_byte id.page
