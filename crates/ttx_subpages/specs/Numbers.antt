-- The page numbers of a list, and their subpages (profile).
--
--   has_number, count_of    a page has this number; how many of a list have it
--   HasSeveral              a number with two pages or more
--   is_first, leads, firsts_of      the first page of a number; of one with several; all of these
--   AllSendWholeAt, AllSendWhole    what a stream sends of all these numbers, at a slot and at each
use Rattle.std.specs.Prelude.{ℕ, ◌≤◌, ℤ, Bool, false, ◌&&◌, ◌==◌, nat_le, List, filter, Option, Some, None}
use Rattle.std.specs.List.{count_by, find}
use Rattle.ttx_header.specs.Ids.{Id, same_id}
use Rattle.ttx_page.specs.Pages.{Page}
use Rattle.ttx_page.specs.Streams.{Stream}
use Rattle.ttx_subpages.specs.WholeBlocks.{SendsWholeAt, SendsWhole}

abbrev pub has_number : ℕ → ℕ → Page → Bool
has_number mag number p = (p.id.mag == mag) && (p.id.page == number)

abbrev pub count_of : List Page → ℕ → ℕ → ℕ
count_of pages mag number = count_by (has_number mag number) pages

abbrev pub HasSeveral : List Page → ℕ → ℕ → Type 0
HasSeveral pages mag number = 2 ≤ count_of pages mag number

abbrev pub AllSendWholeAt : Stream → List Page → ℕ → ℤ → Type 0
AllSendWholeAt s pages lines h = (mag number : ℕ) → HasSeveral pages mag number → SendsWholeAt s pages lines mag number h

abbrev pub AllSendWhole : Stream → List Page → ℕ → Type 0
AllSendWhole s pages lines = (mag number : ℕ) → HasSeveral pages mag number → SendsWhole s pages lines mag number

abbrev pub is_id : Id → Option Page → Bool
is_id id None = false
is_id id (Some p) = same_id p.id id

-- the page is the first of the list with its number
abbrev pub is_first : List Page → Page → Bool
is_first pages p = is_id p.id (find (has_number p.id.mag p.id.page) pages)

-- and the number has several
abbrev pub leads : List Page → Page → Bool
leads pages p = is_first pages p && nat_le 2 (count_of pages p.id.mag p.id.page)

abbrev pub firsts_of : List Page → List Page
firsts_of pages = filter (leads pages) pages
