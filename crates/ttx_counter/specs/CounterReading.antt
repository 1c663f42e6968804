-- Reading the text of a counter-run (profile). The numbers in a text describe a counter-run, and the text is accepted only if it is
-- the text of that counter-run. Otherwise the fault names the first line that differs, counted from 1.
--
--   is_digit, digit_after, closed, numbers_after, line_numbers      the numbers in a text: its runs of digits, limited to 2^32 - 1
--   at_most, is_one         a number limited to the largest of its place; whether a number is not 0
--   characters_in, read_rows, is_target, read_link, read_links,
--   hits_in    parts of a counter-run, from the numbers that begin at a place; 0 for missing ones
--   memory_in, counter_in    the memory, and the counter-run, that the numbers of a text describe
--   line_of                 the line in which two texts first differ
--   CounterFields           the ranges of the fields of a `Counter`
--   read_counter_text       the counter-run whose text this is, or the fault of the text
use Rattle.std.specs.Prelude.{◌≡◌, ℕ, zero, suc, ◌+◌, ◌-◌, ◌*◌, ◌/◌, ◌%◌, ◌^◌, ◌<◌, min, Bool, not, ◌&&◌, ◌==◌, nat_le, nat_lt, List, [], ◌∷◌, All}
use Rattle.std.specs.Prelude.{map, take, drop, length, slice_index, Option, Some, None, Result, Ok, Err, if◌then◌else◌}
use Rattle.std.specs.Str.{bytes_eq}
use Rattle.ttx_header.specs.Ids.{Id, id_at}
use Rattle.ttx_links.specs.Sets.{AreLinks}
use Rattle.ttx_page.specs.Memories.{Memory, IsMemory, memory_at}
use Rattle.ttx_counter.specs.Counters.{Hit, CounterRun}
use Rattle.ttx_counter.specs.CounterTexts.{counter_text}
use Rattle.ttx_counter.specs.declared.counter_faults.CounterFault.{CounterFault}
use Rattle.ttx_counter.specs.declared.counter_faults.CounterFault.TheVariants.{Title, Line}

abbrev pub is_digit : ℕ → Bool
is_digit b = nat_le 48 b && nat_le b 57

abbrev pub at_most : ℕ → ℕ → ℕ
at_most most n = min n most

-- the number after one more digit
abbrev pub digit_after : Option ℕ → ℕ → ℕ
digit_after None b = b - 48
digit_after (Some n) b = at_most 4294967295 (10 * n + (b - 48))

abbrev pub closed : Option ℕ → List ℕ → List ℕ
closed None ns = ns
closed (Some n) ns = n ∷ ns

-- the numbers in bytes, if a number may have begun before them
unfoldable pub numbers_after : Option ℕ → List ℕ → List ℕ
numbers_after begun [] = closed begun []
numbers_after begun (b ∷ bytes) = if is_digit b then numbers_after (Some (digit_after begun b)) bytes else closed begun (numbers_after None bytes)

abbrev pub line_numbers : List ℕ → List ℕ
line_numbers bytes = numbers_after None bytes

abbrev pub is_one : ℕ → Bool
is_one n = not (n == 0)

-- n characters
unfoldable pub characters_in : ℕ → List ℕ → List ℕ
characters_in zero ns = []
characters_in (suc n) [] = 0 ∷ characters_in n []
characters_in (suc n) (x ∷ ns) = at_most 127 x ∷ characters_in n ns

-- n rows of 40 characters
unfoldable pub read_rows : ℕ → List ℕ → List (List ℕ)
read_rows zero ns = []
read_rows (suc n) ns = characters_in 40 ns ∷ read_rows n (drop 40 ns)

-- a magazine from 1 to 8, a page below 256 and a subcode with only bits of 3F7F, except page FF with subcode 3F7F
abbrev pub is_target : ℕ → ℕ → ℕ → Bool
is_target mag page sub = nat_le 1 mag && nat_le mag 8 && nat_lt page 256 && nat_lt sub 16384 && (sub / 128 % 2 == 0) && not ((page == 255)
    && (sub == 16255))

abbrev pub read_link : ℕ → ℕ → ℕ → Option Id
read_link mag page sub = if is_target mag page sub then Some (id_at mag page sub) else None

-- n links of three numbers each
unfoldable pub read_links : ℕ → List ℕ → List (Option Id)
read_links zero ns = []
read_links (suc n) ns = read_link (slice_index ns 0) (slice_index ns 1) (slice_index ns 2) ∷ read_links n (drop 3 ns)

abbrev pub hit_of : ℕ → ℕ → ℕ → Hit
hit_of index byte bit = record { index = index; byte = at_most 255 byte; bit = at_most 255 bit }

-- n hits of three numbers each, or fewer if the numbers end before
unfoldable pub hits_in : ℕ → List ℕ → List Hit
hits_in zero ns = []
hits_in (suc n) (index ∷ byte ∷ bit ∷ ns) = hit_of index byte bit ∷ hits_in n ns
hits_in (suc n) _ = []

-- the lines of a memory begin with the eighth number after the title's; the 24 of the word `row-24` counts as a number
abbrev pub memory_in : List ℕ → Memory
memory_in ns =
    memory_at (read_rows 25 (drop 18 (drop 14 ns))) (at_most 2047 (slice_index ns 8))
    (record { six = read_links 6 (drop 14 ns); show24 = is_one (slice_index ns 13) })
    (is_one (slice_index ns 9)) (at_most 64 (slice_index ns 10)) (is_one (slice_index ns 11))

abbrev pub choices_in : List ℕ → List Bool
choices_in ns = map is_one (take (slice_index ns 0) (drop 1 ns))

-- the hits follow the choices
abbrev pub hits_after : List ℕ → List Hit
hits_after ns = hits_in (slice_index ns 0) (drop 1 ns)

-- the numbers after the memory
abbrev pub numbers_behind : List ℕ → List ℕ
numbers_behind ns = drop 1000 (drop 18 (drop 14 ns))

abbrev pub counter_in : List ℕ → CounterRun
counter_in ns = record {
  page = slice_index ns 4;
  any_sub = is_one (slice_index ns 5);
  start = slice_index ns 6;
  slots = slice_index ns 7;
  former = memory_in ns;
  choices = choices_in (numbers_behind ns);
  hits = hits_after (drop (slice_index (numbers_behind ns) 0) (drop 1 (numbers_behind ns)));
  lines = at_most 255 (slice_index ns 1);
  repeat = at_most 255 (slice_index ns 2);
  deadline = slice_index ns 3;
}

-- the first n lines are equal
unfoldable pub line_of : ℕ → List ℕ → List ℕ → ℕ
line_of n [] own = n
line_of n (x ∷ text) [] = n
line_of n (x ∷ text) (y ∷ own) = if x == y then line_of (if x == 10 then n + 1 else n) text own else n

abbrev pub fault_in_line : ℕ → CounterFault
fault_in_line line = if line == 1 then Title else Line line

-- the counter-run whose text this is, given the counter-run that its numbers describe
abbrev pub judged : List ℕ → CounterRun → Result CounterRun CounterFault
judged bytes c = if bytes_eq (counter_text c) bytes then Ok c else Err (fault_in_line (line_of 1 bytes (counter_text c)))

abbrev pub read_counter_text : List ℕ → Result CounterRun CounterFault
read_counter_text bytes = judged bytes (counter_in (line_numbers bytes))

abbrev pub IsHitFields : Hit → Type 0
IsHitFields h = (h.index < 2 ^ 32) × (h.byte < 256) × (h.bit < 256)

-- what holds for any counter-run of the program
pub record IsCounterFields (c : CounterRun) : Type 0 where
  pub page : c.page < 2 ^ 32
  pub start : c.start < 2 ^ 32
  pub slots : c.slots < 2 ^ 32
  pub deadline : c.deadline < 2 ^ 32
  pub lines : c.lines < 256
  pub repeat : c.repeat < 256
  pub former : IsMemory c.former
  pub six : length c.former.links.six ≡ 6
  pub links : AreLinks c.former.links.six
  pub choices : length c.choices < 2 ^ 32
  pub hits : length c.hits < 2 ^ 32
  pub each : All IsHitFields c.hits

-- an accepted text is the one text of its counter-run
abbrev pub AcceptedCounterTextsAreWritten : Type 0
AcceptedCounterTextsAreWritten = (bytes : List ℕ) (c : CounterRun) → read_counter_text bytes ≡ Ok c → bytes ≡ counter_text c

-- the text of a counter-run is read back as this counter-run
abbrev pub WrittenCounterTextsAreRead : Type 0
WrittenCounterTextsAreRead = (c : CounterRun) → IsCounterFields c → read_counter_text (counter_text c) ≡ Ok c
