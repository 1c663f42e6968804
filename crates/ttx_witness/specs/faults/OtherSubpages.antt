-- Headers of other subpages of listed pages, found for all pages at once in tables by page number.
--
--   Subcodes, with_subcode  the subcodes of the listed pages of a number: none, one, or several
--   place                   the index of a page number in such a table
--   IsListed, AreSubcodes, AreAllSubcodes   a page among the first ones of a list; their subcodes for a number, and for all numbers
--   is_other_id, heads_other, HeadsOtherAt     a header of a number that has one listed subcode, with another subcode
--   first_of, TellsBelow    the first slot so far where a property holds
--   AreOtherHeaders, AreOtherSubpages     the first slots for each number, and for each page
use Rattle.std.specs.Prelude.{◌≡◌, ℕ, ◌+◌, ◌-◌, ◌*◌, ◌<◌, ◌≤◌, ℤ, pos, Bool, true, false, not, ◌&&◌, ◌==◌, if◌then◌else◌, List, get_or}
use Rattle.std.specs.Prelude.{slice_get, Option, Some, None}
use Rattle.ttx_header.specs.Ids.{Id, IsId}
use Rattle.ttx_page.specs.Packets.{Packet, Header, packet_of}
use Rattle.ttx_page.specs.Pages.{Page}
use Rattle.ttx_page.specs.Streams.{Stream, repeated}
use Rattle.ttx_page.specs.Steady.{OtherSubpageAt}
use Rattle.ttx_witness.specs.faults.Faults.{TellsFirst}
use Rattle.ttx_witness.specs.declared.faults.subcodes.Subcodes.{Subcodes}
use Rattle.ttx_witness.specs.declared.faults.subcodes.Subcodes.TheVariants.{Unlisted, One, Several}
use Rattle.ttx_witness.specs.declared.faults.other_subpages.OtherSubpages.{OtherSubpages}

abbrev pub with_subcode : Subcodes → ℕ → Subcodes
with_subcode Unlisted sub = One sub
with_subcode (One own) sub = if own == sub then One own else Several
with_subcode Several sub = Several

abbrev pub place : ℕ → ℕ → ℕ
place mag page = 256 * (mag - 1) + page

-- a page with this number among the first i pages of the list
pub record IsListed (pages : List Page) (i mag number : ℕ) (q : Page) : Type 0 where
  pub index : ℕ
  pub below : index < i
  pub here : slice_get pages index ≡ Some q
  pub in_magazine : q.id.mag ≡ mag
  pub numbered : q.id.page ≡ number

-- the subcodes of the first i pages, for this number
abbrev pub AreSubcodes : List Page → ℕ → ℕ → ℕ → Subcodes → Type 0
AreSubcodes pages i mag number Unlisted = (q : Page) → IsListed pages i mag number q → ⊥
AreSubcodes pages i mag number (One sub) = ((q : Page) × IsListed pages i mag number q)
    × ((q : Page) → IsListed pages i mag number q → q.id.sub ≡ sub)
AreSubcodes pages i mag number Several = (q r : Page) × IsListed pages i mag number q × IsListed pages i mag number r × (q.id.sub ≡ r.id.sub → ⊥)

abbrev pub AreAllSubcodes : List Page → ℕ → List Subcodes → Type 0
AreAllSubcodes pages i table = (mag number : ℕ) → 1 ≤ mag → mag ≤ 8 → number < 256 →
    AreSubcodes pages i mag number (get_or table (place mag number) Unlisted)

-- the number has one listed subcode, and this is another
abbrev pub is_other : Subcodes → ℕ → Bool
is_other Unlisted sub = false
is_other (One own) sub = not (own == sub)
is_other Several sub = false

-- an id with this number, which has one listed subcode, and another subcode
abbrev pub is_other_id : List Subcodes → ℕ → ℕ → Id → Bool
is_other_id table mag number id = (mag == id.mag) && (number == id.page) && is_other (get_or table (place mag number) Unlisted) id.sub

abbrev pub heads_other : List Subcodes → ℕ → ℕ → Packet → Bool
heads_other table mag number (Header id control text) = is_other_id table mag number id
heads_other table mag number packet = false

abbrev pub HeadsOtherAt : List Subcodes → Stream → ℕ → ℕ → ℤ → Type 0
HeadsOtherAt table s mag number j = heads_other table mag number (packet_of (s j)) ≡ true

-- the first slot so far: an earlier one, or j if the flag is true
abbrev pub first_of : Option ℕ → Bool → ℕ → Option ℕ
first_of None is j = if is then Some j else None
first_of (Some i) is j = Some i

-- the first slot below n where P holds
abbrev pub TellsBelow : (ℤ → Type 0) → ℕ → Option ℕ → Type 0
TellsBelow P n None = (i : ℕ) → i < n → P (pos i) → ⊥
TellsBelow P n (Some j) = (j < n) × P (pos j) × ((i : ℕ) → i < j → P (pos i) → ⊥)

abbrev pub AreOtherHeaders : List (List ℕ) → List Subcodes → List (Option ℕ) → Type 0
AreOtherHeaders cycle table first = (mag number : ℕ) → 1 ≤ mag → mag ≤ 8 → number < 256 →
    TellsFirst cycle (HeadsOtherAt table (repeated cycle) mag number) (get_or first (place mag number) None)

-- for each page of the list, the first header of another subpage, if the page is the only one of its number
abbrev pub AreOtherSubpages : List (List ℕ) → List Page → OtherSubpages → Type 0
AreOtherSubpages cycle pages others = (n : ℕ) (p : Page) → slice_get pages n ≡ Some p → IsId p.id →
    TellsFirst cycle (OtherSubpageAt (repeated cycle) pages p) (get_or others.first.items (place p.id.mag p.id.page) None)
