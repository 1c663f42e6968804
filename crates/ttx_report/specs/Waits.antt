-- What a report says of waits.
--
--   promise_words           the promise of a page, and whether it is kept
--   page_name, told_cells, wait_row, wait_rows     the id of a page, with its wait; the row of a page, and those of a list
--   waits_told, all_html    the waits alone; the row of all pages
--   waits_html              the table
--   ids_text, others_html   pages on the air that the service text does not have
use Rattle.std.specs.Prelude.{ℕ, ◌*◌, Bool, if◌then◌else◌, List, [], ◌∷◌, ◌++◌, codes, map, Option, Some, None}
use Rattle.std.specs.Fmt.{decimal}
use Rattle.ttx_digits.specs.PageIds.{id_text}
use Rattle.ttx_document.specs.Frames.{heading_html, paragraph_html}
use Rattle.ttx_header.specs.Ids.{Id}
use Rattle.ttx_promise.specs.PromisedWaits.{is_late}
use Rattle.ttx_promise.specs.declared.waits_and_promises.PromisedWait.{PromisedWait}
use Rattle.ttx_wait.specs.WaitLines.{fields_text, wait_text, all_text}
use Rattle.ttx_witness.specs.declared.wait_times.wait.PageWait.{PageWait}
use Rattle.ttx_witness.specs.laws.WaitLaws.{greatest}

unfoldable pub kept_text : Bool → List ℕ
kept_text late = if late then codes ": broken" else codes ": kept"

unfoldable pub promise_words : Option ℕ → Bool → List ℕ
promise_words None late = codes "none"
promise_words (Some promise) late = codes "within" ++ fields_text promise ++ kept_text late

unfoldable pub page_name : Id → List ℕ
page_name id = id_text id

unfoldable pub told_cells : PageWait → List ℕ
told_cells told = page_name told.page ++ codes "</td><td>" ++ wait_text told.wait

unfoldable pub wait_row : PromisedWait → List ℕ
wait_row one = codes "<tr><td>" ++ told_cells one.told ++ codes "</td><td>" ++ promise_words one.promise (is_late one) ++ codes "</td></tr>\n"

abbrev pub wait_rows : List PromisedWait → List ℕ
wait_rows [] = []
wait_rows (one ∷ rest) = wait_row one ++ wait_rows rest

abbrev pub waits_told : List PromisedWait → List PageWait
waits_told all = map (λ one. one.told) all

unfoldable pub waits_start : List ℕ
waits_start = codes "<table><tr><th>Page</th><th>Longest wait, and for what</th><th>Promise</th></tr>\n"

-- the first bad slot, if there is one, and the greatest deadline
unfoldable pub all_html : Option ℕ → Option ℕ → List ℕ
all_html bad deadline = codes "<tr><td>all</td><td>" ++ all_text bad deadline ++ codes "</td><td></td></tr></table>\n"

unfoldable pub waits_html : List PromisedWait → Option ℕ → List ℕ
waits_html all bad =
    heading_html (codes "How long a viewer waits") ++ waits_start ++ wait_rows all ++ all_html bad (greatest (waits_told all))

abbrev pub ids_text : List Id → List ℕ
ids_text [] = []
ids_text (id ∷ ids) = page_name id ++ 32 ∷ ids_text ids

unfoldable pub names_html : List Id → List ℕ
names_html [] = paragraph_html (codes "None.")
names_html (id ∷ ids) = codes "<p>" ++ ids_text (id ∷ ids) ++ codes "</p>\n"

unfoldable pub others_html : List Id → List ℕ
others_html ids = heading_html (codes "On the air and not in the service text") ++ names_html ids
