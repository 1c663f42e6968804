-- What a receiver shows of each page of a cycle.
--
--   heard_of_page, hears    a receiver that takes no choice, after a slot and after some slots of which it gets only the packets of its
--                           page: its headers, and the rows and packets X/27/0 sent under them
--   page_memory             what it holds of the page after two rounds of the cycle
--   leaf_id, leaf_ids       the pages of a cycle, rising; time-filling headers are not pages
use Rattle.std.specs.Prelude.{ℕ, Bool, false, not, ◌&&◌, ◌==◌, List, [], ◌∷◌, filter_map, Option, Some, None, if◌then◌else◌}
use Rattle.ttx_header.specs.Headers.{id_of, is_header}
use Rattle.ttx_header.specs.Ids.{Id, is_time_filling}
use Rattle.ttx_page.specs.Memories.{Memory, blank_memory}
use Rattle.ttx_page.specs.declared.class.Class.TheVariants.{Any}
use Rattle.ttx_page.specs.declared.selection.Selection.TheVariants.{Exact}
use Rattle.ttx_pages.specs.Keys.{page_key, owners, page_headers}
use Rattle.ttx_receiver.specs.Tuning.{Tuned, tuned_at, stepped}

-- It stores all that it may, clears the page only at C4, and gets only the packets of its page.
abbrev pub heard_of_page : ℕ → Tuned → List ℕ → ℕ → Tuned
heard_of_page key t slot page = if page == key then stepped Any false t slot else t

-- after these slots, given the page of each slot
abbrev pub hears : ℕ → Tuned → List (List ℕ) → List ℕ → Tuned
hears key t [] pages = t
hears key t (slot ∷ slots) [] = t
hears key t (slot ∷ slots) (page ∷ pages) = hears key (heard_of_page key t slot page) slots pages

-- Two rounds, since rows at the beginning of the cycle may belong to a header at its end.
unfoldable pub page_memory : List (List ℕ) → List ℕ → Id → Memory
page_memory slots pages id =
    let key = page_key id in
    (hears key (hears key (tuned_at (Exact id) 1 blank_memory) slots pages) slots pages).memory

abbrev pub leaf_id : List ℕ → Option Id
leaf_id slot = if is_header slot && not (is_time_filling (id_of slot)) then Some (id_of slot) else None

abbrev pub leaf_ids : List (List ℕ) → List Id
leaf_ids slots = filter_map leaf_id (page_headers slots)
