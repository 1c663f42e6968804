-- The order in which a carousel sends pages (profile). A cycle has as many turns as the number with stays that has the most pages, and each
-- turn is some laps of eight rounds. In each eight rounds a page is sent as often as the service says, at its place. Each page of a number
-- with stays is sent once in the cycle, in the order of subcodes, at the place of the first listed page of its number in the first lap of a
-- turn.
--
--   is_stay_of, has_stays   a stay is of the number of a page; some stay is
--   rank, first_of          how many pages of the number of a page have a smaller subcode; the first of them
--   greater                 the greater of two numbers
--   turns_of, turns_among, turns    the turns that a number with stays needs, and the most of them
--   place_of                the place at an index, 0 if the list is shorter
--   rounds_between          from one round that a page is sent in to the next
--   turn_of, once           the turn of a page of a number with stays; where such a page stands
--   standing_of, standings  where a page stands; where each page stands
--   stands, in_round        a page is sent in a round; the pages of a round, by their indexes
--   order_to, order         those of the first rounds; those of a cycle
--   order_of                the same for a service
--   has_others              some page is of no number with stays
use Rattle.std.specs.Prelude.{ℕ, zero, suc, ◌+◌, ◌*◌, ◌/◌, ◌%◌, Bool, false, not, ◌&&◌, ◌==◌, nat_lt, if◌then◌else◌, List, [], ◌∷◌, ◌++◌, length}
use Rattle.std.specs.Prelude.{slice_get, slice_index_or, Option, Some, None}
use Rattle.std.specs.List.{count_by, list_any, position_or_len}
use Rattle.ttx_numbers.specs.Numbers.{share_number, siblings}
use Rattle.ttx_page.specs.Pages.{Page}
use Rattle.ttx_source.specs.Promises.{PromiseFields}
use Rattle.ttx_source.specs.Services.{Authored, ServiceFields, pages_of}
use Rattle.ttx_carousel.specs.declared.layout.Standing.{Standing}
use Rattle.ttx_carousel.specs.declared.layout.Standing.TheVariants.{Rounds, Once}

abbrev pub shares_with : Page → Option Page → Bool
shares_with p None = false
shares_with p (Some q) = share_number q p

abbrev pub is_stay_of : List Page → Page → PromiseFields → Bool
is_stay_of pages p stay = shares_with p (slice_get pages stay.page)

abbrev pub has_stays : List Page → List PromiseFields → Page → Bool
has_stays pages stays p = list_any (is_stay_of pages p) stays

abbrev pub has_smaller_subcode : Page → Page → Bool
has_smaller_subcode p q = share_number p q && nat_lt q.id.sub p.id.sub

abbrev pub rank : List Page → Page → ℕ
rank pages p = count_by (has_smaller_subcode p) pages

abbrev pub first_of : List Page → Page → ℕ
first_of pages p = position_or_len (share_number p) pages

abbrev pub turns_of : List Page → List PromiseFields → Page → ℕ
turns_of pages stays p = if has_stays pages stays p then siblings pages p else 1

abbrev pub greater : ℕ → ℕ → ℕ
greater a b = if nat_lt a b then b else a

abbrev pub turns_at : List Page → List PromiseFields → Option Page → ℕ
turns_at pages stays None = 1
turns_at pages stays (Some p) = turns_of pages stays p

-- the most of the first n pages
abbrev pub turns_among : List Page → List PromiseFields → ℕ → ℕ
turns_among pages stays zero = 1
turns_among pages stays (suc n) = greater (turns_among pages stays n) (turns_at pages stays (slice_get pages n))

abbrev pub turns : List Page → List PromiseFields → ℕ
turns pages stays = turns_among pages stays (length pages)

abbrev pub place_of : List ℕ → ℕ → ℕ
place_of places index = slice_index_or places index 0

abbrev pub rounds_between : ℕ → ℕ
rounds_between often = if often == 1 then 8 else (if often == 2 then 4 else (if often == 4 then 2 else 1))

-- the turn of a page, of so many turns, at equal distances
abbrev pub turn_of : List Page → Page → ℕ → ℕ
turn_of pages p turns = rank pages p * turns / siblings pages p

abbrev pub once : List Page → List ℕ → Page → ℕ → Standing
once pages places p turns = Once (turn_of pages p turns) (place_of places (first_of pages p))

-- the page at an index
abbrev pub standing_of : List Page → List PromiseFields → List ℕ → ℕ → Authored → Standing
standing_of pages stays places index p =
    if has_stays pages stays p.page
    then once pages places p.page (turns pages stays)
    else Rounds p.often (place_of places index)

abbrev pub standing_at : List Page → List PromiseFields → List ℕ → ℕ → Option Authored → List Standing
standing_at pages stays places index None = []
standing_at pages stays places index (Some p) = standing_of pages stays places index p ∷ []

abbrev pub standings_to : ServiceFields → List PromiseFields → List ℕ → ℕ → List Standing
standings_to service stays places zero = []
standings_to service stays places (suc n) =
    standings_to service stays places n ++ standing_at (pages_of service) stays places n (slice_get service.pages n)

abbrev pub standings : ServiceFields → List PromiseFields → List ℕ → List Standing
standings service stays places = standings_to service stays places (length service.pages)

-- where a turn has so many laps
abbrev pub stands : Standing → ℕ → ℕ → Bool
stands (Rounds often place) laps round = round % rounds_between often == place
stands (Once turn place) laps round = (round / (8 * laps) == turn) && (round % (8 * laps) == place)

abbrev pub stands_at : Option Standing → ℕ → ℕ → Bool
stands_at None laps round = false
stands_at (Some standing) laps round = stands standing laps round

-- the first n pages
abbrev pub in_round : List Standing → ℕ → ℕ → ℕ → List ℕ
in_round standings laps round zero = []
in_round standings laps round (suc n) =
    in_round standings laps round n ++ (if stands_at (slice_get standings n) laps round then n ∷ [] else [])

-- the first n rounds
abbrev pub order_to : List Standing → ℕ → ℕ → List ℕ
order_to standings laps zero = []
order_to standings laps (suc n) = order_to standings laps n ++ in_round standings laps n (length standings)

abbrev pub order : List Standing → ℕ → ℕ → List ℕ
order standings turns laps = order_to standings laps (8 * laps * turns)

-- with its pages at these places, and so many laps a turn
abbrev pub order_of : ServiceFields → List PromiseFields → List ℕ → ℕ → List ℕ
order_of service stays places laps = order (standings service stays places) (turns (pages_of service) stays) laps

-- some page is of no number with stays
abbrev pub has_others : List Page → List PromiseFields → Bool
has_others pages stays = list_any (λ p. not (has_stays pages stays p)) pages
