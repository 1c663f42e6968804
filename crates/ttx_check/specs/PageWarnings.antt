-- The warnings about a page, in their order.
--
--   leads_to, is_dead, link_warnings        links to no page of the service
--   has_stray, is_stray_tab, is_stray_break codes that do nothing where they stand
--   sign_warnings, place_warnings    those about the characters of a row, and about where it stands
--   row_warnings, row_warnings_to    the warnings about rows 1 to 24
--   has_box, lacks_box      two start box codes; a page that shows only boxed text, and has no box
--   key_warnings, own_warnings    those about `row24`, `number` and `sub`; those about a page's rows and keys
--   order_warnings          those about a page that comes directly behind another
--   page_warnings, pages_from       those about a page, and about all pages
use Rattle.std.specs.Prelude.{ℕ, zero, suc, ◌+◌, ◌/◌, ◌%◌, nat_lt, Bool, false, not, ◌&&◌, ◌||◌, ◌==◌, if◌then◌else◌, List, [], ◌∷◌, ◌++◌, Option, Some, None}
use Rattle.std.specs.List.{list_any}
use Rattle.ttx_header.specs.Control.{c5, c6, option_of}
use Rattle.ttx_header.specs.Ids.{Id}
use Rattle.ttx_page.specs.declared.item.Item.TheVariants.{Row as TheRow}
use Rattle.ttx_page.specs.Pages.{Page, page_row, is_hidden, is_blank}
use Rattle.ttx_check.specs.declared.entries.Entry.{Entry}
use Rattle.ttx_check.specs.declared.warning.Warning.{Warning}
use Rattle.ttx_check.specs.declared.warning.Warning.TheVariants.{DeadLink, HiddenRow, UnshownRow, StrayTab, StrayBreak, NoBox, BehindSubpage}
use Rattle.ttx_check.specs.declared.warning.Warning.TheVariants.{OtherSign, LiteralEscape, OpenBox, EmptyRow, LetterNumber, LetterSubcode}
use Rattle.ttx_check.specs.RowSigns.{OtherCode, other_code, has_escape, is_open}
use Rattle.ttx_check.specs.declared.warning.Warning.TheVariants.{BehindItself}

-- a link leads to a page of its number and subcode; 3F7F hexadecimal is any subcode
abbrev pub leads_to : Id → Entry → Bool
leads_to target e = (target.mag == e.id.mag) && (target.page == e.id.page) && ((target.sub == 16255) || (target.sub == e.id.sub))

-- a link that leads to no page
abbrev pub is_dead : List Entry → Option Id → Bool
is_dead entries None = false
is_dead entries (Some target) = not (list_any (leads_to target) entries)

-- those links of a page that lead to no page; the first link of the list has this number
abbrev pub link_warnings : List Entry → Id → ℕ → List (Option Id) → List Warning
link_warnings entries id n [] = []
link_warnings entries id n (link ∷ links) = (if is_dead entries link then DeadLink id n ∷ [] else []) ++ link_warnings entries id (n + 1) links

-- the row has the code before any opener
abbrev pub has_stray : ℕ → ℕ → List ℕ → Bool
has_stray code opener [] = false
has_stray code opener (c ∷ row) = (c == code) || (not (c == opener) && has_stray code opener row)

-- 09, steady, before any 08, flash: each row begins steady (12.2)
abbrev pub is_stray_tab : List ℕ → Bool
is_stray_tab row = has_stray 9 8 row

-- 0A, end box, before any 0B, start box: each row begins outside boxes (12.2)
abbrev pub is_stray_break : List ℕ → Bool
is_stray_break row = has_stray 10 11 row

-- a row that is not blank, below a row in double height
abbrev pub is_lost : Page → ℕ → Bool
is_lost p number = is_hidden (page_row p) number && not (is_blank p (TheRow number))

-- row 24, not blank, on a page whose links do not ask for it
abbrev pub is_unshown : Page → ℕ → Bool
is_unshown p number = (number == 24) && not p.links.show24 && not (is_blank p (TheRow number))

abbrev pub only_if : Bool → Warning → List Warning
only_if holds warning = if holds then warning ∷ [] else []

abbrev pub other_warnings : Id → ℕ → ℕ → Option OtherCode → List Warning
other_warnings id number option None = []
other_warnings id number option (Some at) = OtherSign id number at.0 at.1 at.2 option ∷ []

-- those about the characters of the row with this number; 0 is `head`
unfoldable pub sign_warnings : Page → ℕ → List ℕ → List Warning
sign_warnings p number row =
    other_warnings p.id number (option_of p.control) (other_code (option_of p.control) row)
    ++ only_if (has_escape row) (LiteralEscape p.id number) ++ only_if (is_open row) (OpenBox p.id number)

unfoldable pub place_warnings : Page → ℕ → List Warning
place_warnings p number =
    only_if (is_lost p number) (HiddenRow p.id number) ++ only_if (is_unshown p number) (UnshownRow p.id)
    ++ only_if (is_stray_tab (page_row p number)) (StrayTab p.id number) ++ only_if (is_stray_break (page_row p number)) (StrayBreak p.id number)

unfoldable pub row_warnings : Page → ℕ → List Warning
row_warnings p number = place_warnings p number ++ sign_warnings p number (page_row p number)

-- those about rows 1 to n
unfoldable pub row_warnings_to : Page → ℕ → List Warning
row_warnings_to p zero = []
row_warnings_to p (suc n) = row_warnings_to p n ++ row_warnings p (suc n)

-- two start box codes, 0B, next to each other, as box codes count; the flag: one stands before (12.2)
abbrev pub has_box_after : Bool → List ℕ → Bool
has_box_after started [] = false
has_box_after started (c ∷ row) = (started && (c == 11)) || has_box_after (c == 11) row

abbrev pub has_box : List ℕ → Bool
has_box row = has_box_after false row

-- a newsflash or subtitle page without a box, of which nothing is shown
abbrev pub lacks_box : Page → Bool
lacks_box p = (c5 p.control || c6 p.control) && not (has_box p.head || list_any has_box p.rows)

-- row 24 is asked for, and blank
abbrev pub is_asked_for : Page → Bool
is_asked_for p = p.links.show24 && is_blank p (TheRow 24)

-- a hexadecimal digit above 9
abbrev pub is_letter : ℕ → Bool
is_letter digit = nat_lt 9 digit

-- no remote control dials the digits A to F (profile)
abbrev pub has_letter_number : Id → Bool
has_letter_number id = is_letter (id.page / 16) || is_letter (id.page % 16)

abbrev pub has_letter_subcode : Id → Bool
has_letter_subcode id =
    (is_letter (id.sub / 4096) || is_letter (id.sub / 256 % 16)) || (is_letter (id.sub / 16 % 16) || is_letter (id.sub % 16))

unfoldable pub key_warnings : Page → List Warning
key_warnings p =
    only_if (is_asked_for p) (EmptyRow p.id) ++ only_if (has_letter_number p.id) (LetterNumber p.id)
    ++ only_if (has_letter_subcode p.id) (LetterSubcode p.id)

-- those about its rows and keys
abbrev pub own_warnings : Page → List Warning
own_warnings p = sign_warnings p 0 p.head ++ row_warnings_to p 24 ++ key_warnings p ++ only_if (lacks_box p) (NoBox p.id)

abbrev pub order_warnings : ℕ → ℕ → Id → List Warning
order_warnings subpages copies id = only_if (not (subpages == 0)) (BehindSubpage id) ++ only_if (not (copies == 0)) (BehindItself id copies)

-- Those about the page at this place of the service. Two functions give how often a page is sent directly behind another subpage,
-- and directly behind itself.
abbrev pub page_warnings : List Entry → (ℕ → ℕ) → (ℕ → ℕ) → ℕ → Page → List Warning
page_warnings entries subpages copies place p =
    link_warnings entries p.id 1 p.links.six ++ own_warnings p
    ++ order_warnings (subpages place) (copies place) p.id

abbrev pub pages_from : List Entry → (ℕ → ℕ) → (ℕ → ℕ) → ℕ → List Page → List Warning
pages_from entries subpages copies place [] = []
pages_from entries subpages copies place (p ∷ pages) =
    page_warnings entries subpages copies place p ++ pages_from entries subpages copies (place + 1) pages
