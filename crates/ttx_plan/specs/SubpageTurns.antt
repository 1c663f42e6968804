-- Where the pages of one page number stand among the rounds (profile): as few as can be in one round, and those that are sent equally often
-- at equal distances, in the order of their subcodes.
--
--   share_number            two pages have one page number
--   take_turns              and are sent equally often
--   count_of_turns, rank, first_of_turns    how many pages take turns with one (it is one of them), how many of these have a smaller
--                           subcode, and the index of the first listed
--   steps, turn, turn_of    from the first listed to a page, in the order of subcodes and round; the round of its turn, none for the first listed
--   rounds_late             how late a place is
--   comes_before, is_earlier_mate, mates_so_far     the pages of its number that take their places before it and stand in a round
--   burden                  what a place is judged by
use Rattle.std.specs.Prelude.{ℕ, zero, suc, ◌+◌, ◌-◌, ◌*◌, ◌/◌, ◌%◌, ◌^◌, Bool, false, ◌&&◌, ◌||◌, if◌then◌else◌, List, ◌==◌, nat_lt, length, slice_get, slice_index}
use Rattle.std.specs.Prelude.{Option, Some, None}
use Rattle.std.specs.List.{count_by, position_or_len}
use Rattle.ttx_source.specs.Services.{Authored}

abbrev pub share_number : Authored → Authored → Bool
share_number p q = (p.page.id.mag == q.page.id.mag) && (p.page.id.page == q.page.id.page)

abbrev pub take_turns : Authored → Authored → Bool
take_turns p q = share_number p q && (p.often == q.often)

abbrev pub has_smaller_subcode : Authored → Authored → Bool
has_smaller_subcode p q = take_turns p q && nat_lt q.page.id.sub p.page.id.sub

abbrev pub count_of_turns : List Authored → Authored → ℕ
count_of_turns pages p = count_by (take_turns p) pages

abbrev pub rank : List Authored → Authored → ℕ
rank pages p = count_by (has_smaller_subcode p) pages

abbrev pub first_of_turns : List Authored → Authored → ℕ
first_of_turns pages p = position_or_len (take_turns p) pages

abbrev pub rank_or_none : List Authored → Option Authored → ℕ
rank_or_none pages None = 0
rank_or_none pages (Some p) = rank pages p

-- the rank of the page at an index
abbrev pub rank_at : List Authored → ℕ → ℕ
rank_at pages index = rank_or_none pages (slice_get pages index)

-- how many of the pages come from the first listed one to this, in the order of subcodes, the smallest behind the greatest
abbrev pub steps : List Authored → Authored → ℕ
steps pages p = ((rank pages p + count_of_turns pages p) - rank_at pages (first_of_turns pages p)) % count_of_turns pages p

-- the round in which it is the turn of the page: so many equal parts of the rounds after the first listed one, rounded down
abbrev pub turn : List Authored → List ℕ → Authored → ℕ
turn pages places p =
    (slice_index places (first_of_turns pages p) + steps pages p * (8 / p.often) / count_of_turns pages p) % (8 / p.often)

-- the first listed page may stand anywhere
abbrev pub turn_of : List Authored → List ℕ → ℕ → Authored → Option ℕ
turn_of pages places index p = if first_of_turns pages p == index then None else Some (turn pages places p)

-- how many rounds a place comes after the turn
abbrev pub rounds_late : Option ℕ → ℕ → ℕ → ℕ
rounds_late None period place = 0
rounds_late (Some turn) period place = ((place + period) - turn) % period

-- the page at index `other` takes its place before the one at `index`
abbrev pub comes_before : ℕ → Authored → ℕ → Authored → Bool
comes_before index p other q = nat_lt p.often q.often || ((q.often == p.often) && nat_lt other index)

abbrev pub is_mate_or_none : ℕ → Authored → ℕ → ℕ → ℕ → Option Authored → Bool
is_mate_or_none index p round other place None = false
is_mate_or_none index p round other place (Some q) =
    share_number p q && comes_before index p other q && (round % (8 / q.often) == place)

-- it has the same number, and stands in the round
abbrev pub is_earlier_mate : List Authored → List ℕ → ℕ → Authored → ℕ → ℕ → Bool
is_earlier_mate pages places index p round other =
    is_mate_or_none index p round other (slice_index places other) (slice_get pages other)

-- how many of the numbers below a count pass a test
abbrev pub count_below : ℕ → (ℕ → Bool) → ℕ
count_below zero test = 0
count_below (suc n) test = count_below n test + (if test n then 1 else 0)

abbrev pub mates_so_far : List Authored → List ℕ → ℕ → Authored → ℕ → ℕ
mates_so_far pages places index p round = count_below (length pages) (is_earlier_mate pages places index p round)

-- First the pages of its number in the rounds of the place, then how late the place is, then the packets: the factors keep these apart.
abbrev pub burden : List Authored → List ℕ → ℕ → Authored → ℕ → ℕ → ℕ
burden pages places index p packets round =
    (mates_so_far pages places index p round * 8 + rounds_late (turn_of pages places index p) (8 / p.often) round) * 2 ^ 32 + packets
