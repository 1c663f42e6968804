-- The counter-run of a receiver that is starved of an item.
--
--   with_other_links        a memory with one link that is not the page's
--   hit_at                  a wrong bit of the item in a slot
--   starving_run            the counter-run from slot start on
use Rattle.std.specs.Prelude.{ℕ, ◌*◌, pos, false, List, map}
use Rattle.ttx_links.specs.Sets.{LinkSet}
use Rattle.ttx_page.specs.Pages.{Page}
use Rattle.ttx_page.specs.declared.selection.Selection.TheVariants.{Exact}
use Rattle.ttx_page.specs.declared.item.Item.{Item}
use Rattle.ttx_page.specs.Memories.{Memory}
use Rattle.ttx_page.specs.Streams.{repeated}
use Rattle.ttx_receiver.specs.Starving.{first_byte, other_links, wrong_memory, starved_hits, starved_choices}
use Rattle.ttx_counter.specs.Counters.{Hit, CounterRun}

abbrev pub with_other_links : Memory → LinkSet → Memory
with_other_links m links = record m { links = other_links links }

-- the lowest bit of the first byte of the item
abbrev pub hit_at : Item → ℕ → Hit
hit_at item n = record { index = n; byte = first_byte item; bit = 1 }

-- the run of `lasts` slots from slot start on of a receiver that is starved of an item of the page at the index
abbrev pub starving_run : List (List ℕ) → ℕ → Page → Item → ℕ → ℕ → ℕ → ℕ → CounterRun
starving_run cycle index p item start lines repeat deadline =
    let s = repeated cycle in let former = wrong_memory p item in record {
      page = index;
      any_sub = false;
      start = start;
      slots = deadline * lines;
      former = former;
      choices = starved_choices lines (Exact p.id) item s (pos start) former (deadline * lines);
      hits = map (hit_at item) (starved_hits lines (Exact p.id) item s (pos start) former (deadline * lines));
      lines = lines;
      repeat = repeat;
      deadline = deadline;
    }
