-- The contents of a page's block (EN 300 706, 9.3.1 for the page header, 9.3.2 for rows, 9.6.1 for X/27/0; which items: profile).
--
--   page_header_bytes, page_row_bytes, page_links_bytes         the bytes of a page's packets
--   is_sent_to              the items that are sent to a class of receivers
--   sent_rows, rest_of      the rows of a block; its rows and X/27/0
--   block_of                the block
use Rattle.std.specs.Prelude.{ℕ, zero, suc, ◌-◌, Bool, false, not, ◌&&◌, if◌then◌else◌, List, [], ◌∷◌, ◌++◌, map, replicate}
use Rattle.ttx_code.specs.Words.{odd_byte}
use Rattle.ttx_packet.specs.Slots.{address_bytes}
use Rattle.ttx_header.specs.Fields.{fields_at}
use Rattle.ttx_header.specs.Headers.{header_bytes}
use Rattle.ttx_links.specs.Sets.{links_at, links_bytes}
use Rattle.ttx_page.specs.declared.class.Class.{Class}
use Rattle.ttx_page.specs.declared.class.Class.TheVariants.{Any, Clearing}
use Rattle.ttx_page.specs.declared.item.Item.{Item}
use Rattle.ttx_page.specs.declared.item.Item.TheVariants.{Row as TheRow, Links as TheLinks}
use Rattle.ttx_page.specs.Pages.{Page, page_row, is_blank, needed}
use Rattle.ttx_plan.specs.Blocks.{Block}

-- the page header: id, control bits and the characters of row 0 in odd parity (8.1); the clock is spaces
abbrev pub page_header_bytes : Page → List ℕ
page_header_bytes p = header_bytes (fields_at p.id p.control (map odd_byte p.head) (replicate 8 32))

-- a row: its address and its characters in odd parity
abbrev pub page_row_bytes : Page → ℕ → List ℕ
page_row_bytes p number = address_bytes p.id.mag number ++ map odd_byte (page_row p number)

-- X/27/0
abbrev pub page_links_bytes : Page → List ℕ
page_links_bytes p = links_bytes p.id.mag (links_at p.links.six p.links.show24 p.crc)

-- what a viewer sees; for receivers that surely clear the page, only what is not blank
abbrev pub is_sent_to : Class → Page → Item → Bool
is_sent_to Any p item = needed p item
is_sent_to Clearing p item = needed p item && not (is_blank p item)

-- those of rows 1 to n that are sent, rising
abbrev pub sent_rows : Class → Page → ℕ → List (List ℕ)
sent_rows class p zero = []
sent_rows class p (suc n) = sent_rows class p n ++ (if is_sent_to class p (TheRow (suc n)) then page_row_bytes p (suc n) ∷ [] else [])

-- the rows, and X/27/0 if it is sent
abbrev pub rest_of : Class → Page → List (List ℕ)
rest_of class p = sent_rows class p 24 ++ (if is_sent_to class p TheLinks then page_links_bytes p ∷ [] else [])

-- the block of a page that is sent a given number of times; magazine 1 has queue 0
abbrev pub block_of : Class → Page → ℕ → Block
block_of class p often = record {
  queue = p.id.mag - 1;
  often = often;
  place = 0;
  page = p.id.page;
  filler = false;
  header = page_header_bytes p;
  rest =
      rest_of class p;
}
