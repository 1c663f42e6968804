-- The progress of the starts named for an item after one period.
--
--   IsIdle                  an item that is not needed, or for which no start is named
--   IsProgress              the progress of the named starts of an item; None only if the item is idle
use Rattle.std.specs.Prelude.{◌≡◌, ℕ, ◌-◌, ◌<◌, true, List, length, Option, Some, None}
use Rattle.ttx_page.specs.Pages.{Page, needed}
use Rattle.ttx_page.specs.Streams.{run_length}
use Rattle.ttx_page.specs.declared.item.Item.{Item}
use Rattle.ttx_witness.specs.Coverage.{Certificate}
use Rattle.ttx_witness.specs.laws.CycleLaws.{progress_of}
use Rattle.ttx_witness.specs.declared.runs.confirmation.Progress.{Progress}

abbrev pub IsIdle : Certificate → Page → Item → Type 0
IsIdle w p item = needed p item ≡ true → 0 < length (w.starts p.id item) → ⊥

abbrev pub IsProgress : List (List ℕ) → Page → Certificate → Item → Option Progress → Type 0
IsProgress y p w item None = IsIdle w p item
IsProgress y p w item (Some progress) = progress ≡ progress_of y p w item (run_length w.repeat item - 1)
