-- The program's blocks in terms of the definitions.
--
--   seen, seen_sent         a block, and a transmission of a block
--   fillers_in              how many blocks follow a time-filling header
--   used_by                 the queues that have pages
use Rattle.std.specs.Prelude.{ℕ, zero, suc, ◌-◌, false, List, [], ◌∷◌, ◌++◌, ◌==◌, if◌then◌else◌, sum_by}
use Rattle.std.specs.List.{list_any}
use Rattle.ttx_page.specs.declared.page.Page.{Page}
use Rattle.ttx_page.specs.Views.{page_of}
use Rattle.ttx_plan.specs.declared.block.PageBlock.{PageBlock}
use Rattle.ttx_plan.specs.declared.rounds.SentBlock.{SentBlock}
use Rattle.ttx_plan.specs.Blocks.{Block, led}

-- a block
abbrev pub seen : PageBlock → Block
seen block = record {
  queue = block.queue;
  often = block.often;
  place = block.place;
  page = block.page;
  filler = false;
  header = block.header;
  rest = block.rest.items;
}

-- a transmission of a block
abbrev pub seen_sent : SentBlock → Block
seen_sent sent = led sent.filler (seen sent.block.now)

-- how many blocks follow a time-filling header
abbrev pub fillers_in : List Block → ℕ
fillers_in sent = sum_by (λ block. if block.filler then 1 else 0) sent

-- those of the first n queues that have one of these pages
abbrev pub used_by : List Page → ℕ → List ℕ
used_by pages zero = []
used_by pages (suc n) = used_by pages n ++ (if list_any (λ p. (page_of p).id.mag - 1 == n) pages then n ∷ [] else [])
