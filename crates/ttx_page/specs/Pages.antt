-- Pages as authored, the selections of receivers, and the items of a page that a viewer sees (EN 300 706; hidden rows: profile).
--
--   Page, IsPage            a page and the ranges of its fields
--   page_row, IsRow         a row of a page, by its number; 40 characters
--   Selection, matches, selected_mag        what a receiver is set to, and the headers that it matches
--   is_other_subpage, IsAlone, Fits         the pages of a list that a selection fits
--   Item, needed            the parts of a page, and those that a viewer sees
--   has_double_height, is_tall, is_hidden           rows below a row in double height
--   Class                   the classes of receivers
--   IsBlank, is_blank       what a cleared memory holds already
use Rattle.std.specs.Prelude.{◌≡◌, ◌≢◌, ℕ, zero, suc, ◌-◌, ◌<◌, ◌≤◌, Bool, true, false, not, ◌&&◌, if◌then◌else◌, List}
use Rattle.std.specs.Prelude.{[], Some, is_none, nat_le, ◌==◌, slice_get, slice_index, slice_index_or, replicate, length}
use Rattle.std.specs.List.{list_all, list_any}
use Rattle.ttx_header.specs.Ids.{Id, IsId, same_id}
use Rattle.ttx_header.specs.Control.{IsControl, c4, c7, c10}
use Rattle.ttx_links.specs.Sets.{LinkSet, no_links}
pub use Rattle.ttx_page.specs.declared.selection.Selection.{Selection}
pub use Rattle.ttx_page.specs.declared.selection.Selection.TheVariants.{Exact, AnySub}
pub use Rattle.ttx_page.specs.declared.item.Item.{Item}
pub use Rattle.ttx_page.specs.declared.item.Item.TheVariants.{Head as TheHead, Row as TheRow, Links as TheLinks}
pub use Rattle.ttx_page.specs.declared.class.Class.{Class}
pub use Rattle.ttx_page.specs.declared.class.Class.TheVariants.{Any, Clearing}

-- A page: its id and control bits, columns 8 to 31 of row 0, rows 1 to 24, the links, and the two bytes of the page CRC.
pub record Page : Type 0 where
  pub id : Id
  pub control : ℕ
  pub head : List ℕ
  pub rows : List (List ℕ)
  pub links : LinkSet
  pub crc : List ℕ

abbrev pub page_at : Id → ℕ → List ℕ → List (List ℕ) → LinkSet → List ℕ → Page
page_at id control head rows links crc = record { id = id; control = control; head = head; rows = rows; links = links; crc = crc }

-- the characters of a row, 1 to 24
abbrev pub page_row : Page → ℕ → List ℕ
page_row p number = slice_index_or p.rows (number - 1) []

-- 40 characters below 128
pub record IsRow (row : List ℕ) : Type 0 where
  pub length : length row ≡ 40
  pub codes : (c : ℕ) → slice_index row c < 128

-- 24 characters of row 0 and 24 rows of 40, all below 128; not page FF, not subcode 3F7F, and no erase bit (C4)
pub record IsPage (p : Page) : Type 0 where
  pub id : IsId p.id
  pub page : p.id.page ≢ 0xff
  pub sub : p.id.sub ≢ 0x3f7f
  pub control : IsControl p.control
  pub no_erase : c4 p.control ≡ false
  pub head_length : length p.head ≡ 24
  pub head_codes : (c : ℕ) → slice_index p.head c < 128
  pub row_count : length p.rows ≡ 24
  pub rows : (r : ℕ) → 1 ≤ r → r ≤ 24 → IsRow (page_row p r)

-- the magazine that a receiver listens to
abbrev pub selected_mag : Selection → ℕ
selected_mag (Exact id) = id.mag
selected_mag (AnySub mag page) = mag

-- a header of the id itself, or of any subpage of a page number
abbrev pub matches : Selection → Id → Bool
matches (Exact id) other = same_id id other
matches (AnySub mag page) other = (mag == other.mag) && (page == other.page)

-- a page of the same number with another subcode
abbrev pub is_other_subpage : Page → Page → Bool
is_other_subpage p q = (q.id.mag == p.id.mag) && (q.id.page == p.id.page) && not (q.id.sub == p.id.sub)

-- no other page of the list has the page's number
abbrev pub IsAlone : List Page → Page → Type 0
IsAlone pages p = (n : ℕ) (q : Page) → slice_get pages n ≡ Some q → is_other_subpage p q ≡ false

-- the selection fits this page of the list
abbrev pub Fits : List Page → Page → Selection → Type 0
Fits pages p (Exact id) = id ≡ p.id
Fits pages p (AnySub mag page) = (mag ≡ p.id.mag) × (page ≡ p.id.page) × IsAlone pages p

-- a row of spaces
abbrev pub blank_row : List ℕ
blank_row = replicate 40 32

-- the row holds the code for double height, 0D (12.2)
abbrev pub has_double_height : List ℕ → Bool
has_double_height row = list_any (λ c. c == 13) row

-- the rows in which the height codes have an effect: 1 to 22 (profile)
abbrev pub is_tall : ℕ → Bool
is_tall number = nat_le 1 number && nat_le number 22

-- A row 1 to 22 that is not hidden itself and holds the code for double height hides the next row.
abbrev pub is_hidden : (ℕ → List ℕ) → ℕ → Bool
is_hidden row zero = false
is_hidden row (suc above) = is_tall above && not (is_hidden row above) && has_double_height (row above)

-- What a viewer sees: the links; row 0 unless the header is suppressed (C7); rows that are not hidden, unless display is inhibited
-- (C10); row 24 only where the links show it.
abbrev pub needed : Page → Item → Bool
needed p TheLinks = true
needed p TheHead = not (c7 p.control)
needed p (TheRow number) =
    nat_le 1 number && nat_le number 24 && not (c10 p.control)
    && (if number == 24 then p.links.show24 else not (is_hidden (page_row p) number))

-- a row of spaces, or no links and no row 24: what need not be sent to a receiver that clears the page
abbrev pub IsBlank : Page → Item → Type 0
IsBlank p TheHead = ⊥
IsBlank p (TheRow number) = page_row p number ≡ blank_row
IsBlank p TheLinks = p.links ≡ no_links

abbrev pub is_blank : Page → Item → Bool
is_blank p TheHead = false
is_blank p (TheRow number) = list_all (λ c. c == 32) (page_row p number)
is_blank p TheLinks = list_all is_none p.links.six && not p.links.show24
