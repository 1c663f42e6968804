-- The order in which pages are sent, and which pages come directly behind certain others.
--
--   is_in_queue, is_in_round    the pages of a queue; those of a round
--   round_from, whole_queue    a round of a queue; the queue: eight rounds
--   filler                  the page before the first page of a queue
--   follows, followers      a page behind a subpage of its number, or behind itself; the places of such pages in a queue
--   behind_subpages, behind_copies    the same in all queues of a service
use Rattle.std.specs.Prelude.{ℕ, zero, suc, ◌+◌, ◌*◌, ◌%◌, Bool, not, ◌&&◌, ◌||◌, ◌==◌, if◌then◌else◌, List, [], ◌∷◌, ◌++◌}
use Rattle.ttx_header.specs.Ids.{Id, id_at, same_id}
use Rattle.ttx_check.specs.declared.entries.Entry.{Entry}
use Rattle.ttx_check.specs.declared.queues.Sent.{Sent}
use Rattle.ttx_check.specs.declared.queues.Behind.{Behind}
use Rattle.ttx_check.specs.declared.queues.Behind.TheVariants.{Subpage, Itself}

-- queue 0 has all pages, queues 1 to 8 those of their magazine
abbrev pub is_in_queue : ℕ → Id → Bool
is_in_queue queue id = (queue == 0) || (id.mag == queue)

-- A page that is sent n times in eight rounds is in round r, counted from 0, if n times r is a multiple of 8.
abbrev pub is_in_round : ℕ → ℕ → Bool
is_in_round round often = round * often % 8 == 0

abbrev pub page_in_queue : ℕ → Id → Sent
page_in_queue place id = record { place = place; id = id }

abbrev pub is_sent_in_round : ℕ → ℕ → Entry → Bool
is_sent_in_round queue round e = is_in_queue queue e.id && is_in_round round e.often

-- the pages of a round in authored order; the first page of the list has this place
abbrev pub round_from : ℕ → ℕ → ℕ → List Entry → List Sent
round_from queue round place [] = []
round_from queue round place (e ∷ entries) =
    (if is_sent_in_round queue round e then page_in_queue place e.id ∷ [] else []) ++ round_from queue round (place + 1) entries

-- the first n rounds
abbrev pub first_rounds : ℕ → List Entry → ℕ → List Sent
first_rounds queue entries zero = []
first_rounds queue entries (suc n) = first_rounds queue entries n ++ round_from queue n 0 entries

abbrev pub whole_queue : ℕ → List Entry → List Sent
whole_queue queue entries = first_rounds queue entries 8

-- a page behind one with another subcode of the same number, or behind itself
abbrev pub follows : Behind → Id → Id → Bool
follows Subpage a b = (a.mag == b.mag) && (a.page == b.page) && not (a.sub == b.sub)
follows Itself a b = same_id a b

-- the places of those pages of a queue that follow the page before them in this way
abbrev pub followers : Behind → Id → List Sent → List ℕ
followers kind before [] = []
followers kind before (s ∷ queue) = (if follows kind before s.id then s.place ∷ [] else []) ++ followers kind s.id queue

-- a time-filling header; no page has its number
abbrev pub filler : Id
filler = id_at 1 255 16255

-- the same in the queues of the first n magazines
abbrev pub followers_to : Behind → List Entry → ℕ → List ℕ
followers_to kind entries zero = []
followers_to kind entries (suc n) = followers_to kind entries n ++ followers kind filler (whole_queue (suc n) entries)

-- the pages that come directly behind another subpage of their number in their magazine
abbrev pub behind_subpages : List Entry → List ℕ
behind_subpages entries = followers_to Subpage entries 8

-- those that come directly behind themselves: among all pages in serial transmission, otherwise in their magazine
abbrev pub behind_copies : Bool → List Entry → List ℕ
behind_copies serial entries = if serial then followers Itself filler (whole_queue 0 entries) else followers_to Itself entries 8
