-- A page that a stream sends unchanged, and the reasons why it is not (profile). Each reason except the first names the slot.
--
--   HasHeader, HasNoHeader          a header of the page; none (reason 2)
--   OtherSubpageAt          another subpage of a page that is the only one of its number (3)
--   ErasedAt                the erase bit in a header of the page (4)
--   HeadDiffersAt           other control bits or characters in a header of the page (5)
--   RowDiffersAt            other characters in a needed row (6)
--   LinksDifferAt           other links, or a corrected byte in them (7)
--   Steady                  none of these reasons is true
--   IsChecked, IsTrueTo, SendsItsOwn        the same, from what the page's headers, rows and links carry
use Rattle.std.specs.Prelude.{◌≡◌, ℕ, ◌/◌, ℤ, Bool, true, false, List, Some, map, take}
use Rattle.ttx_code.specs.Words.{odd_byte}
use Rattle.ttx_header.specs.Ids.{Id}
use Rattle.ttx_header.specs.Control.{c4}
use Rattle.ttx_links.specs.Sets.{is_exact}
use Rattle.ttx_page.specs.Packets.{Packet, Header, Row, Links, packet_of}
use Rattle.ttx_page.specs.Pages.{Page, Item, TheHead, TheRow, TheLinks, AnySub, IsAlone, page_row, needed}
use Rattle.ttx_page.specs.Streams.{Stream, IsOwned, IsTransmission, heads_page, heads_matched}

-- the stream has a header of the page
pub record HasHeader (s : Stream) (page : Id) : Type 0 where
  pub slot : ℤ
  pub is_header : heads_page page (packet_of (s slot)) ≡ true

abbrev pub HasNoHeader : Stream → Page → Type 0
HasNoHeader s p = (j : ℤ) → heads_page p.id (packet_of (s j)) ≡ false

-- the page is the only one of its number in the list, and slot j is a header of that number with another subcode
pub record OtherSubpageAt (s : Stream) (pages : List Page) (p : Page) (j : ℤ) : Type 0 where
  pub alone : IsAlone pages p
  pub number : heads_matched (AnySub p.id.mag p.id.page) (packet_of (s j)) ≡ true
  pub other : heads_page p.id (packet_of (s j)) ≡ false

-- a header with the erase bit, C4
abbrev pub erases_page : Packet → Bool
erases_page (Header id control text) = c4 control
erases_page _ = false

pub record ErasedAt (s : Stream) (p : Page) (j : ℤ) : Type 0 where
  pub header : heads_page p.id (packet_of (s j)) ≡ true
  pub erases : erases_page (packet_of (s j)) ≡ true

-- a header with the page's control bits C5 to C14, and its characters in bytes 10 to 33
abbrev pub IsLikeHead : Page → Packet → Type 0
IsLikeHead p (Header id control text) = (control / 2 ≡ p.control / 2) × (take 24 text ≡ map odd_byte p.head)
IsLikeHead p _ = ⊥

pub record HeadDiffersAt (s : Stream) (p : Page) (j : ℤ) : Type 0 where
  pub header : heads_page p.id (packet_of (s j)) ≡ true
  pub differs : IsLikeHead p (packet_of (s j)) → ⊥

-- a packet with the characters of row r
abbrev pub RowIsRight : Page → ℕ → Packet → Type 0
RowIsRight p r (Row mag number text) = text ≡ map odd_byte (page_row p r)
RowIsRight p r _ = ⊥

pub record RowDiffersAt (s : Stream) (p : Page) (j : ℤ) : Type 0 where
  pub row : ℕ
  pub needed : needed p (TheRow row) ≡ true
  pub sent : IsTransmission s p.id (TheRow row) j
  pub differs : RowIsRight p row (packet_of (s j)) → ⊥

-- an X/27/0 with the page's links, whose bytes 3 to 39 are code words
abbrev pub LinksAreRight : Page → List ℕ → Packet → Type 0
LinksAreRight p slot (Links mag content) = (is_exact slot ≡ true) × (content ≡ Some p.links)
LinksAreRight p slot _ = ⊥

pub record LinksDifferAt (s : Stream) (p : Page) (j : ℤ) : Type 0 where
  pub sent : IsTransmission s p.id TheLinks j
  pub differs : LinksAreRight p (s j) (packet_of (s j)) → ⊥

-- The page has a header, and no other reason is true of any slot.
pub record Steady (s : Stream) (pages : List Page) (p : Page) : Type 0 where
  pub header : HasHeader s p.id
  pub only_subpage : (j : ℤ) → OtherSubpageAt s pages p j → ⊥
  pub not_erased : (j : ℤ) → ErasedAt s p j → ⊥
  pub head : (j : ℤ) → HeadDiffersAt s p j → ⊥
  pub rows : (j : ℤ) → RowDiffersAt s p j → ⊥
  pub links : (j : ℤ) → LinksDifferAt s p j → ⊥

-- a header with the page's control bits and characters
abbrev pub HeadIsRight : Page → Packet → Type 0
HeadIsRight p (Header id control text) = (control ≡ p.control) × (take 24 text ≡ map odd_byte p.head)
HeadIsRight p _ = ⊥

-- the slot carries the item's own contents
abbrev pub IsTrueTo : Page → Item → List ℕ → Type 0
IsTrueTo p TheHead slot = HeadIsRight p (packet_of slot)
IsTrueTo p (TheRow r) slot = RowIsRight p r (packet_of slot)
IsTrueTo p TheLinks slot = LinksAreRight p slot (packet_of slot)

-- the items whose contents are compared: row 0 and the links always, a row if it is needed
abbrev pub IsChecked : Page → Item → Type 0
IsChecked p TheHead = Unit {0}
IsChecked p (TheRow r) = needed p (TheRow r) ≡ true
IsChecked p TheLinks = Unit {0}

-- The page has a header; if it is the only one of its number, each header of that number is its own; and each transmission of
-- an item that is compared carries the page's own contents.
pub record SendsItsOwn (s : Stream) (pages : List Page) (p : Page) : Type 0 where
  pub header : HasHeader s p.id
  pub only_subpage : IsAlone pages p → (j : ℤ) →
      heads_matched (AnySub p.id.mag p.id.page) (packet_of (s j)) ≡ true → heads_page p.id (packet_of (s j)) ≡ true
  pub items : (item : Item) → IsChecked p item → (h j : ℤ) → IsOwned s p.id item h j → IsTrueTo p item (s j)
