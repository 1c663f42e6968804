-- What a cycle sends first of each item of a page, and the pages that say it (profile).
--
--   first_slot              the slot of the first of a list of transmissions
--   characters              characters, whatever their parity
--   row_of, links_of_slot   what a first slot says of a row, and of the links; what isn't sent is blank
--   HeadSays, HeadIsSent    the page has the control bits and characters of a header, of its first one
--   SaysRow, IsSentPage              the page says what is sent first of each of its items
--   IsEarlier, AreInOrder   a page's first header comes before another's; pages in the order of their first headers
use Rattle.std.specs.Prelude.{◌≡◌, ℕ, ◌+◌, ◌/◌, ◌%◌, ◌≤◌, ◌<ℤ◌, List, [], ◌∷◌, map, take, drop, slice_get, slice_range, replicate}
use Rattle.std.specs.Prelude.{Option, Some, None, false, if◌then◌else◌, unsigned_abs}
use Rattle.ttx_packet.specs.Slots.{are_readable}
use Rattle.ttx_header.specs.Ids.{Id}
use Rattle.ttx_links.specs.Sets.{LinksFields, links_at, links_fields}
use Rattle.ttx_page.specs.Packets.{Packet, Header, packet_of}
use Rattle.ttx_page.specs.Pages.{Page, page_row, blank_row}
use Rattle.ttx_page.specs.declared.item.Item.{Item}
use Rattle.ttx_page.specs.declared.item.Item.TheVariants.{Head as TheHead, Row as TheRow, Links as TheLinks}
use Rattle.ttx_witness.specs.declared.runs.transmissions.Transmission.{Transmission}
use Rattle.ttx_witness.specs.sent.ItemTransmissions.{sent_in}

abbrev pub slot_in : List (List ℕ) → Option Transmission → Option (List ℕ)
slot_in slots None = None
slot_in slots (Some sent) = slice_get slots (unsigned_abs sent.slot)

-- the slot of the first of them, if there is one
abbrev pub first_slot : List (List ℕ) → List Transmission → Option (List ℕ)
first_slot slots sent = slot_in slots (slice_get sent 0)

-- the slot that sends the item first in a period, if one does
abbrev pub first_sent : List (List ℕ) → ℕ → Id → Item → Option (List ℕ)
first_sent slots lines page item = first_slot slots (sent_in slots page lines item)

-- the seven bits of each byte, whatever its parity
abbrev pub characters : List ℕ → List ℕ
characters bytes = map (λ b. b % 128) bytes

-- the characters of the row in a slot; spaces where it isn't sent
abbrev pub row_of : Option (List ℕ) → List ℕ
row_of None = blank_row
row_of (Some slot) = characters (drop 2 slot)

-- no links, row 24 not shown, and a CRC of zeros
abbrev pub no_links_fields : LinksFields
no_links_fields = links_at (replicate 6 None) false (0 ∷ 0 ∷ [])

-- the X/27/0 in a slot of the magazine; no links where none is sent, or one of bytes 3 to 39 is unreadable
abbrev pub links_of_slot : ℕ → Option (List ℕ) → LinksFields
links_of_slot mag None = no_links_fields
links_of_slot mag (Some slot) = if are_readable (slice_range slot 3 40) then links_fields mag slot else no_links_fields

-- the links and the CRC of a page
abbrev pub links_of_page : Page → LinksFields
links_of_page p = record { set = p.links; crc = p.crc }

-- a header with the page's control bits C5 to C10 and C12 to C14, and its characters; C11 is the service's, and no page has C4
abbrev pub HeadSays : Page → Packet → Type 0
HeadSays p (Header id control text) =
    (p.control / 2 % 64 ≡ control / 2 % 64) × (p.control / 256 ≡ control / 256) × (p.head ≡ characters (take 24 text))
HeadSays p _ = ⊥

abbrev pub HeadIsSent : Page → Option (List ℕ) → Type 0
HeadIsSent p None = ⊥
HeadIsSent p (Some slot) = HeadSays p (packet_of slot)

-- row 1 to 24 of the page is the one that is sent first, and spaces where none is
abbrev pub SaysRow : List (List ℕ) → ℕ → Page → ℕ → Type 0
SaysRow slots lines p r = page_row p r ≡ row_of (first_sent slots lines p.id (TheRow r))

-- The page says what is sent first of each of its items in a period: its first header, the first transmission of each row, and the
-- first X/27/0 with its CRC. A row that isn't sent is spaces; where no X/27/0 is sent there are no links.
pub record IsSentPage (slots : List (List ℕ)) (lines : ℕ) (p : Page) : Type 0 where
  pub head : HeadIsSent p (first_sent slots lines p.id TheHead)
  pub rows : (r : ℕ) → 1 ≤ r → r ≤ 24 → SaysRow slots lines p r
  pub links : links_of_page p ≡ links_of_slot p.id.mag (first_sent slots lines p.id TheLinks)

abbrev pub IsBefore : Option Transmission → Option Transmission → Type 0
IsBefore (Some a) (Some b) = a.slot <ℤ b.slot
IsBefore a b = ⊥

-- both lists have a transmission, and the first of one comes before the first of the other
abbrev pub IsEarlier : List Transmission → List Transmission → Type 0
IsEarlier a b = IsBefore (slice_get a 0) (slice_get b 0)

-- the first header of each page comes before that of the next one
abbrev pub AreInOrder : List (List ℕ) → ℕ → List Page → Type 0
AreInOrder slots lines pages = (n : ℕ) (p q : Page) → slice_get pages n ≡ Some p → slice_get pages (n + 1) ≡ Some q →
    IsEarlier (sent_in slots p.id lines TheHead) (sent_in slots q.id lines TheHead)
