-- Laws of the display.
--
--   AttributesAreInForce, HeldIsFromLatest      where attributes and held mosaics come from, as relations
--   ContentsDecide                              a View depends only on rows, control bits and links
--   ShowingIsSeeing                             a memory that shows a page has the page's View
--   IsLetter, IsOwn         the letters A and B; cells that show their own code
--   LetterIsShown, LetterIsSeen         a letter shows where its code is, and nowhere else
--   row_item, ShowsBut, WrongLetterIsSeen        so one wrong letter in a needed item is seen
--   is_control, ArePrinted, ViewsArePrinted     no cell of a View shows a control character
use Rattle.std.specs.Prelude.{◌≡◌, ◌≢◌, ◌<◌, ◌⊎◌, ◌↔◌, ℕ, zero, suc, Bool, true, false, ◌&&◌, ◌||◌, nat_lt, nat_le, List, length}
use Rattle.std.specs.List.{AllByRecursion}
use Rattle.ttx_page.specs.Memories.{Memory, IsMemory, Holds, Shows, memory_of_page, char_at}
use Rattle.ttx_page.specs.Pages.{Page, needed}
use Rattle.ttx_page.specs.declared.item.Item.{Item}
use Rattle.ttx_page.specs.declared.item.Item.TheVariants.{Head as TheHead, Row as TheRow}
use Rattle.ttx_render.specs.declared.cells.Cell.{Cell}
use Rattle.ttx_render.specs.declared.cells.Glyph.{Glyph}
use Rattle.ttx_render.specs.declared.cells.Glyph.TheVariants.{Char, Mosaic}
use Rattle.ttx_render.specs.Attributes.{IsEachInForce}
use Rattle.ttx_render.specs.Mosaics.{IsHeldFromLatest}
use Rattle.ttx_render.specs.View.{view_of, is_shown, is_below}
use Rattle.ttx_render.specs.Comparison.{cell_in, IsCompared, SameButClock}

-- each attribute at a column has the value of the last code that sets it and already acts there
abbrev pub AttributesAreInForce : Type 0
AttributesAreInForce = (tall : Bool) (row : List ℕ) (c : ℕ) → IsEachInForce tall row c

-- the held mosaic at a column is that of the latest column before it that shows one, if mode and height have stayed; otherwise a space
abbrev pub HeldIsFromLatest : Type 0
HeldIsFromLatest = (tall : Bool) (row : List ℕ) (c : ℕ) → IsHeldFromLatest tall row c

-- memories with the same rows, control bits and links have the same View
abbrev pub ContentsDecide : Type 0
ContentsDecide = (m n : Memory) → m.rows ≡ n.rows → m.control ≡ n.control → m.links ≡ n.links → view_of m ≡ view_of n

-- a memory that has a page's control bits and needed items has the page's View
abbrev pub ShowingIsSeeing : Type 0
ShowingIsSeeing = (p : Page) (m : Memory) → length p.head ≡ 24 → Shows p m → SameButClock (view_of m) (view_of (memory_of_page p))

-- A or B, which every national set shows at this code only
abbrev pub IsLetter : ℕ → Type 0
IsLetter letter = (letter ≡ 0x41) ⊎ (letter ≡ 0x42)

-- a compared cell of a row that is shown and not hidden
abbrev pub IsOwn : Memory → ℕ → ℕ → Type 0
IsOwn m number c = IsCompared number c × (is_shown m number ≡ true) × (is_below m number ≡ false)

-- such a cell shows the letter if and only if its code is that of the letter
abbrev pub LetterIsShown : Type 0
LetterIsShown =
    (m : Memory) (number c letter : ℕ) → IsLetter letter → IsOwn m number c → char_at m number c < 128 →
    ((cell_in (view_of m) number c).glyph ≡ Char letter) ↔ (char_at m number c ≡ letter)

-- so two memories have different Views if one has the letter in such a cell and the other does not
abbrev pub LetterIsSeen : Type 0
LetterIsSeen =
    (m n : Memory) (number c letter : ℕ) → IsLetter letter → IsOwn m number c → IsOwn n number c →
    char_at m number c < 128 → char_at n number c < 128 →
    char_at m number c ≡ letter → char_at n number c ≢ letter → ¬ SameButClock (view_of m) (view_of n)

-- the item to which a row belongs
abbrev pub row_item : ℕ → Item
row_item zero = TheHead
row_item (suc above) = TheRow (suc above)

-- the memory holds all that a viewer sees of the page, except perhaps one item
pub record ShowsBut (p : Page) (m : Memory) (but : Item) : Type 0 where
  pub control : m.control ≡ p.control
  pub links : m.links ≡ p.links
  pub items : (item : Item) → item ≢ but → needed p item ≡ true → Holds p m item

-- a memory that has the letter in place of another character of a needed row does not have the page's View
abbrev pub WrongLetterIsSeen : Type 0
WrongLetterIsSeen =
    (p : Page) (m : Memory) (number c letter : ℕ) → IsLetter letter → IsCompared number c → needed p (row_item number) ≡ true →
    ShowsBut p m (row_item number) → char_at m number c ≡ letter → char_at (memory_of_page p) number c < 128 →
    char_at (memory_of_page p) number c ≢ letter → ¬ SameButClock (view_of m) (view_of (memory_of_page p))

-- the control characters of Unicode: 00 to 1F, and 7F to 9F
abbrev pub is_control : ℕ → Bool
is_control code = nat_lt code 0x20 || (nat_le 0x7f code && nat_le code 0x9f)

abbrev pub IsPrinted : Glyph → Type 0
IsPrinted (Char code) = is_control code ≡ false
IsPrinted (Mosaic blocks separated) = Unit {0}

-- rows of cells that show no control character
abbrev pub ArePrinted : List (List Cell) → Type 0
ArePrinted rows = AllByRecursion (λ cells. AllByRecursion (λ (cell : Cell). IsPrinted cell.glyph) cells) rows

abbrev pub ViewsArePrinted : Type 0
ViewsArePrinted = (m : Memory) → IsMemory m → ArePrinted (view_of m).cells
