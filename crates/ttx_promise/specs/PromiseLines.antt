-- The lines of pages that come too late (profile): words and numbers separated by one space, each line ended by 0A.
--
--   page_text, numbers_text     the page; the fields that a viewer waits, and those of the promise
--   late_line, late_lines   the line of a page, and those of a list
use Rattle.std.specs.Prelude.{ℕ, List, [], ◌∷◌, ◌++◌, codes}
use Rattle.std.specs.Fmt.{decimal}
use Rattle.ttx_header.specs.Ids.{Id}
use Rattle.ttx_digits.specs.PageIds.{id_text}
use Rattle.ttx_promise.specs.Lateness.{LateFields}

unfoldable pub page_text : Id → List ℕ
page_text page = codes "late " ++ id_text page

unfoldable pub numbers_text : ℕ → ℕ → List ℕ
numbers_text fields promise = codes " " ++ decimal fields ++ codes " fields" ++ codes " of " ++ decimal promise

unfoldable pub late_line : LateFields → List ℕ
late_line late = page_text late.page ++ numbers_text late.fields late.promise ++ 10 ∷ []

abbrev pub late_lines : List LateFields → List ℕ
late_lines [] = []
late_lines (late ∷ rest) = late_line late ++ late_lines rest
