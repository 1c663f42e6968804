-- What a planned cycle carries.
--
--   magazines_for           the queues of the magazines in parallel transmission
--   CarriesBlocks           a cycle of blocks, in serial or in parallel transmission
--   blocks_of, blocks_sent  the blocks of a service's pages, for receivers of a class, and as they are sent
--   blocks_sent_at          the same with given places among the rounds
--   CarriesAt, Carries      a cycle that carries a service, with given places, and with place 0 for each page
use Rattle.std.specs.Prelude.{◌≡◌, ℕ, Bool, true, false, List, [], map, Option, option_map}
use Rattle.ttx_info.specs.Infos.{info_bytes}
use Rattle.ttx_page.specs.declared.class.Class.{Class}
use Rattle.ttx_source.specs.Services.{Authored, ServiceFields}
use Rattle.ttx_plan.specs.Blocks.{Block, placed, sent_blocks, queues_to}
use Rattle.ttx_plan.specs.Contents.{block_of}
use Rattle.ttx_plan.specs.Packets.{bytes_of}
use Rattle.ttx_plan.specs.Serial.{serial_slots}
use Rattle.ttx_plan.specs.Turns.{Magazines, IsParallel}

-- the queues of the eight magazines
abbrev pub magazines_for : ℕ → Option (List ℕ) → List Block → Magazines
magazines_for lines info sent = record { lines = lines; info = info; queues = queues_to sent 8 }

-- serial: the cycle is the serial list; parallel: it keeps the rule of turns
abbrev pub CarriesBlocks : Bool → ℕ → Option (List ℕ) → List Block → List (List ℕ) → Type 0
CarriesBlocks true lines info sent cycle = cycle ≡ map bytes_of (serial_slots lines info sent)
CarriesBlocks false lines info sent cycle = IsParallel (magazines_for lines info sent) cycle

-- a page's block
abbrev pub block_at : Class → Authored → Block
block_at class authored = block_of class authored.page authored.often

-- the blocks of pages, in authored order
abbrev pub blocks_of : Class → List Authored → List Block
blocks_of class pages = map (block_at class) pages

-- the same in the order of sending
abbrev pub blocks_sent : Bool → Class → List Authored → List Block
blocks_sent late class pages = sent_blocks late (blocks_of class pages)

-- the same with these places among the rounds, in authored order
abbrev pub blocks_sent_at : List ℕ → Bool → Class → List Authored → List Block
blocks_sent_at places late class pages = sent_blocks late (placed places (blocks_of class pages))

-- the cycle carries the service to receivers of the class, with its pages at these places; late: also to those that show a page late
abbrev pub CarriesAt : List ℕ → Bool → Class → ServiceFields → List (List ℕ) → Type 0
CarriesAt places late class service cycle =
    CarriesBlocks service.serial service.lines (option_map info_bytes service.info) (blocks_sent_at places late class service.pages) cycle

-- the same with each page at place 0
abbrev pub Carries : Bool → Class → ServiceFields → List (List ℕ) → Type 0
Carries late class service cycle = CarriesAt [] late class service cycle
