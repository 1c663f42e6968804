-- The lines that say how long viewers wait, with the promises of pages (profile): words and numbers separated by one space, each line ended
-- by 0A.
--
--   kept_text, broken_text  the end of the line of a page that comes in time, with the fields of its promise; or too late, with its seconds
--   of_text, promised_text, either_text     so many fields of a promise; the wait for a page with a promise; with or without one
--   promised_line, pages_text       the line of a page, and those of a list
--   items_text              the line of each page with those of its items
--   end_text                the line of all pages, and that of those on the air that aren't in the service
--   all_lines, all_item_lines       the lines of pages, without and with those of their items, and the end
use Rattle.std.specs.Prelude.{ℕ, ◌*◌, nat_lt, if◌then◌else◌, List, [], ◌∷◌, ◌++◌, codes, drop, get_or, Option, Some, None}
use Rattle.std.specs.Fmt.{decimal}
use Rattle.ttx_header.specs.Ids.{Id}
use Rattle.ttx_digits.specs.PageIds.{id_text}
use Rattle.ttx_wait.specs.WaitLines.{seconds_text, fields_text, wait_text, all_text, lines_under}
use Rattle.ttx_witness.specs.declared.wait_times.wait.ItemWait.{ItemWait}
use Rattle.ttx_witness.specs.declared.wait_times.wait.Wait.{Wait}
use Rattle.ttx_witness.specs.declared.wait_times.wait.Wait.TheVariants.{Fields, Faulty, Unsure}
use Rattle.ttx_promise.specs.OtherPages.{others_text}
use Rattle.ttx_promise.specs.declared.waits_and_promises.PromisedWait.{PromisedWait}

unfoldable pub kept_text : ℕ → List ℕ
kept_text promise = codes " of " ++ decimal promise

-- a field is two hundredths of a second
abbrev pub broken_text : ℕ → List ℕ
broken_text promise = codes " late: " ++ seconds_text (2 * promise) ++ codes " s"

abbrev pub of_text : ℕ → ℕ → List ℕ
of_text fields promise = fields_text fields ++ (if nat_lt promise fields then broken_text promise else kept_text promise)

abbrev pub promised_text : Wait → ℕ → List ℕ
promised_text (Fields fields item) promise = of_text fields promise
promised_text (Faulty reason) promise = wait_text (Faulty reason) ++ broken_text promise
promised_text (Unsure item losses) promise = wait_text (Unsure item losses) ++ broken_text promise

abbrev pub either_text : Wait → Option ℕ → List ℕ
either_text wait None = wait_text wait
either_text wait (Some promise) = promised_text wait promise

abbrev pub promised_line : PromisedWait → List ℕ
promised_line one = id_text one.told.page ++ either_text one.told.wait one.promise ++ 10 ∷ []

abbrev pub pages_text : List PromisedWait → List ℕ
pages_text [] = []
pages_text (one ∷ rest) = promised_line one ++ pages_text rest

abbrev pub items_text : List PromisedWait → List (List ItemWait) → List ℕ
items_text [] items = []
items_text (one ∷ rest) items = promised_line one ++ lines_under one.told.wait one.told.page (get_or items 0 []) ++ items_text rest (drop 1 items)

abbrev pub end_text : Option ℕ → Option ℕ → List Id → List ℕ
end_text bad deadline others = codes "all" ++ all_text bad deadline ++ 10 ∷ others_text others

abbrev pub all_lines : List PromisedWait → Option ℕ → Option ℕ → List Id → List ℕ
all_lines all bad deadline others = pages_text all ++ end_text bad deadline others

abbrev pub all_item_lines : List PromisedWait → List (List ItemWait) → Option ℕ → Option ℕ → List Id → List ℕ
all_item_lines all items bad deadline others = items_text all items ++ end_text bad deadline others
