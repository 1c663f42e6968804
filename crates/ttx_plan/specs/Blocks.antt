-- The blocks of a cycle, and the magazine queues that they make (profile).
--
--   Block, led              a page's block; the same with or without a time-filling header before it
--   at_place, placed        a block with its place among the rounds, and blocks with theirs
--   round_of, rounds_to     the blocks that are sent, over eight rounds
--   latest, with_fillers    a time-filling header between two headers of one page number
--   sent_blocks             the blocks of a cycle in the order of sending
--   time_filling_packet     the time-filling header of a queue's magazine
--   page_packets, filler_of, packets_of     the packets of a block
--   has_pages, used_queues  the magazines that have pages
--   queue_packets, queues_to            magazine queues
--   length_bound            the bound on the length of a cycle
use Rattle.std.specs.Prelude.{ℕ, zero, suc, ◌+◌, ◌*◌, ◌/◌, ◌%◌, Bool, false, ◌&&◌, if◌then◌else◌, List, [], ◌∷◌, ◌++◌, map, length, filter, flat_map}
use Rattle.std.specs.Prelude.{sum_by, ◌==◌}
use Rattle.std.specs.List.{list_any}
use Rattle.ttx_plan.specs.declared.packet.Packet.{Packet}
use Rattle.ttx_plan.specs.declared.packet.Kind.TheVariants.{PageHeader, RowOrLinks, TimeFilling}
use Rattle.ttx_header.specs.Headers.{header_bytes, time_filling}

-- A page's block: the queue of its magazine, how often it is sent, its place among the rounds, its page number, whether a time-filling
-- header of the magazine goes before it, the bytes of its page header and of its rows and X/27/0.
pub record Block : Type 0 where
  pub queue : ℕ
  pub often : ℕ
  pub place : ℕ
  pub page : ℕ
  pub filler : Bool
  pub header : List ℕ
  pub rest : List (List ℕ)

-- the block with or without a time-filling header before it
abbrev pub led : Bool → Block → Block
led filler block = record {
  queue = block.queue;
  often = block.often;
  place = block.place;
  page = block.page;
  filler = filler;
  header = block.header;
  rest = block.rest;
}

-- the block with this place
abbrev pub at_place : ℕ → Block → Block
at_place place block = record {
  queue = block.queue;
  often = block.often;
  place = place;
  page = block.page;
  filler = block.filler;
  header = block.header;
  rest = block.rest;
}

-- the blocks with these places; blocks beyond the end of the places keep theirs
abbrev pub placed : List ℕ → List Block → List Block
placed [] blocks = blocks
placed (place ∷ places) [] = []
placed (place ∷ places) (block ∷ blocks) = at_place place block ∷ placed places blocks

-- the blocks of a round, in authored order: a block that is sent o times is in every (8 / o)th round, from its place on
abbrev pub round_of : List Block → ℕ → List Block
round_of blocks round = filter (λ block. round % (8 / block.often) == block.place) blocks

-- the blocks of the first n rounds
abbrev pub rounds_to : List Block → ℕ → List Block
rounds_to blocks zero = []
rounds_to blocks (suc n) = rounds_to blocks n ++ round_of blocks n

-- the page number in the latest header of a queue, 255 before the first; the blocks before are given latest first
abbrev pub latest : ℕ → List Block → ℕ
latest queue [] = 255
latest queue (block ∷ before) = if block.queue == queue then block.page else latest queue before

-- for receivers that show a page late: a time-filling header before each block with the page number of its queue's latest header
abbrev pub with_fillers : Bool → List Block → List Block → List Block
with_fillers late before [] = []
with_fillers late before (block ∷ blocks) = led (late && (latest block.queue before == block.page)) block ∷ with_fillers late (block ∷ before) blocks

-- the blocks of a cycle: eight rounds
abbrev pub sent_blocks : Bool → List Block → List Block
sent_blocks late blocks = with_fillers late [] (rounds_to blocks 8)

-- the time-filling header of a queue's magazine
abbrev pub time_filling_packet : Bool → ℕ → Packet
time_filling_packet serial queue = record { kind = TimeFilling; bytes = header_bytes (time_filling (suc queue) serial) }

abbrev pub header_packet : List ℕ → Packet
header_packet bytes = record { kind = PageHeader; bytes = bytes }

abbrev pub rest_packet : List ℕ → Packet
rest_packet bytes = record { kind = RowOrLinks; bytes = bytes }

-- the packets of a block's page
abbrev pub page_packets : Block → List Packet
page_packets block = header_packet block.header ∷ map rest_packet block.rest

-- the time-filling header before it, if it has one
abbrev pub filler_of : Bool → Block → List Packet
filler_of serial block = if block.filler then time_filling_packet serial block.queue ∷ [] else []

-- the packets of a block
abbrev pub packets_of : Bool → Block → List Packet
packets_of serial block = filler_of serial block ++ page_packets block

-- whether the queue has a block
abbrev pub has_pages : List Block → ℕ → Bool
has_pages sent queue = list_any (λ block. block.queue == queue) sent

-- those of the first n queues that have blocks, rising
abbrev pub used_to : List Block → ℕ → List ℕ
used_to sent zero = []
used_to sent (suc n) = used_to sent n ++ (if has_pages sent n then n ∷ [] else [])

abbrev pub used_queues : List Block → List ℕ
used_queues sent = used_to sent 8

-- a queue's packets: its blocks, and a time-filling header at the end if it has any
abbrev pub queue_packets : Bool → List Block → ℕ → List Packet
queue_packets serial sent queue =
    flat_map (λ block. if block.queue == queue then packets_of serial block else []) sent
    ++ (if has_pages sent queue then time_filling_packet serial queue ∷ [] else [])

-- the first n queues, in parallel transmission
abbrev pub queues_to : List Block → ℕ → List (List Packet)
queues_to sent zero = []
queues_to sent (suc n) = queues_to sent n ++ queue_packets false sent n ∷ []

-- the packets of the blocks
abbrev pub packets_in : List Block → ℕ
packets_in sent = sum_by (λ block. (if block.filler then 1 else 0) + (length block.rest + 1)) sent

-- twice the sum of the packets, a field for each block and a time-filling header for each used magazine, plus two fields
abbrev pub length_bound : ℕ → List Block → ℕ
length_bound lines sent = 2 * (packets_in sent + length sent * lines + length (used_queues sent)) + 2 * lines
