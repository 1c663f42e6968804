-- Which pages of a cycle are followed by another page number, and how soon.
--
--   id_in                   the id in a packet, if it is a page header
--   HeadsAt                 a slot is a header of the page
--   IsFollowedAt            a header of the page, if the slot is one, is followed by another page number
--   IsUnfollowedAt          a header of the page after which the next one of its magazine has the page's own number
--   IsFollowedIn            the next header of the magazine has another page number, and comes a given number of slots later
--   IsGap                   the most slots from a header of the page to the next of its magazine, which has another page number
--   TellsUnfollowed         the page whose header is in a slot, if it is not followed
--   AllAreFollowed          each page of a list is followed by another page number
--   AreFollowedWithin, IsGreatestGap        each, at most a given number of slots later; the most slots for all pages
--   IsListed, IsWidened     an id is that of a listed page; the most slots from the headers of some pages at one slot
--   IsFirstUnshown          the first slot at which a page is not followed, with the page's index in the list
use Rattle.std.specs.Prelude.{◌+◌, ◌≤◌, ◌≡◌, ◌⊎◌, ℕ, ◌<◌, pos, ◌≤ℤ◌, List, length, slice_get, Option, Some, None, true}
use Rattle.ttx_header.specs.Ids.{Id}
use Rattle.ttx_page.specs.Packets.{Packet, Header, packet_of}
use Rattle.ttx_page.specs.Pages.{Page}
use Rattle.ttx_page.specs.Streams.{Stream, repeated, heads_page}
use Rattle.ttx_page.specs.Followers.{IsFollowed, IsFollowedByAnother, IsFollowedWithin}
use Rattle.ttx_late.specs.declared.unshown.Unshown.{Unshown}

abbrev pub id_in : Packet → Option Id
id_in (Header id control text) = Some id
id_in _ = None

abbrev pub HeadsAt : Stream → Id → ℕ → Type 0
HeadsAt s page i = heads_page page (packet_of (s (pos i))) ≡ true

abbrev pub IsUnfollowedAt : Stream → Id → ℕ → Type 0
IsUnfollowedAt s page i = HeadsAt s page i × (IsFollowed s page (pos i) → ⊥)

abbrev pub IsFollowedAt : Stream → Id → ℕ → Type 0
IsFollowedAt s page i = HeadsAt s page i → IsFollowed s page (pos i)

abbrev pub IsFollowedIn : Stream → Id → ℕ → ℕ → Type 0
IsFollowedIn s page i distance = IsFollowed s page (pos i) × ((f : IsFollowed s page (pos i)) → f.slot ≡ pos (i + distance))

pub record IsGap (s : Stream) (page : Id) (gap : ℕ) : Type 0 where
  pub within : IsFollowedWithin s page gap
  pub least : (other : ℕ) → IsFollowedWithin s page other → gap ≤ other

abbrev pub TellsUnfollowed : Stream → ℕ → Option Id → Type 0
TellsUnfollowed s i None = (page : Id) → IsFollowedAt s page i
TellsUnfollowed s i (Some own) = IsUnfollowedAt s own i × ((page : Id) → HeadsAt s page i → page ≡ own)

-- the second condition of the headline
abbrev pub AllAreFollowed : List (List ℕ) → List Page → Type 0
AllAreFollowed cycle pages = (n : ℕ) (p : Page) → slice_get pages n ≡ Some p → IsFollowedByAnother (repeated cycle) p.id

abbrev pub AreFollowedWithin : List (List ℕ) → List Page → ℕ → Type 0
AreFollowedWithin cycle pages gap = (n : ℕ) (p : Page) → slice_get pages n ≡ Some p → IsFollowedWithin (repeated cycle) p.id gap

pub record IsGreatestGap (cycle : List (List ℕ)) (pages : List Page) (gap : ℕ) : Type 0 where
  pub within : AreFollowedWithin cycle pages gap
  pub least : (other : ℕ) → AreFollowedWithin cycle pages other → gap ≤ other

-- a page of the list has this id
pub record IsListed (pages : List Page) (id : Id) : Type 0 where
  pub index : ℕ
  pub page : Page
  pub listed : slice_get pages index ≡ Some page
  pub is : page.id ≡ id

-- a gap that is also enough for these pages' headers at slot i, each of which is followed; it has grown only if one of them needs it
pub record IsWidened (s : Stream) (Sought : Id → Type 0) (i gap more : ℕ) : Type 0 where
  pub grows : gap ≤ more
  pub enough : (page : Id) → Sought page → HeadsAt s page i → (f : IsFollowed s page (pos i)) × (f.slot ≤ℤ pos (i + more))
  pub needed : (more ≡ gap) ⊎ ((page : Id) × Sought page × HeadsAt s page i × IsFollowedIn s page i more)

-- the page is at this index of the list; the slot is such a header of it, and at each earlier slot of the cycle each page is followed
pub record IsFirstUnshown (cycle : List (List ℕ)) (pages : List Page) (u : Unshown) : Type 0 where
  pub page : Page
  pub listed : slice_get pages u.page ≡ Some page
  pub inside : u.slot < length cycle
  pub here : IsUnfollowedAt (repeated cycle) page.id u.slot
  pub none_before : (i n : ℕ) (p : Page) → i < u.slot → slice_get pages n ≡ Some p → IsFollowedAt (repeated cycle) p.id i
