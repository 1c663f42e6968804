-- A memory that holds what a page needs has the page's View.
use Rattle.std.proofs.Common.{◌≡◌, ℕ, zero, suc, ◌-◌, ◌<◌, ◌≤◌, Bool, true, false, not, ◌==◌, List, [], ◌++◌, length, map, drop, replicate, get_or}
use Rattle.std.proofs.Common.{refl, ap, sym, ◌∙◌, arith, nat_le, get_or-drop}
use Rattle.std.proofs.Math.ListN.{get_or-append}
use Rattle.ttx_header.specs.Control.{c10, option_of}
use Rattle.ttx_links.specs.Sets.{LinkSet}
use Rattle.ttx_page.specs.Memories.{Memory, memory_row, memory_of_page, Shows}
use Rattle.ttx_page.specs.Pages.{is_hidden, has_double_height, Page, page_row, needed, is_tall}
use Rattle.ttx_page.specs.declared.item.Item.TheVariants.{Head as TheHead, Row as TheRow, Links as TheLinks}
use Rattle.ttx_render.specs.Cells.{cell_at, space_cell}
use Rattle.ttx_render.specs.Comparison.{IsCompared, cell_in}
use Rattle.ttx_render.specs.Laws.{ShowingIsSeeing}
use Rattle.ttx_render.specs.View.{is_shown, codes_of, is_below, own_cells, view_row, lower, has_boxes, view_of}
use Rattle.ttx_render.specs.declared.cells.Cell.{Cell}
use Rattle.ttx_render.proofs.ViewRows.{view_row-own, view_row-below, above, rows_to-at}
use Rattle.ttx_render.proofs.Columns.{cells_to-at}
use Rattle.ttx_render.proofs.Prefix.{cell_at-same}
use Rattle.ttx_render.proofs.ShownRows.{and-left, step-shut, is_shown-suc, codes_of-shown, codes_of-not_shown, tall-not24, shown-bool, codes_of-head}
use Rattle.ttx_render.proofs.ShownRows.{front-same, at_most, needed-bool, page_row-suc, is_hidden-same}

-- rows of a page that are shown and not hidden

module _ (p : Page) where
  -- where rows are shown, the rows hidden by the displayed codes are those hidden by the page's own rows
  open-row : (k : ℕ) → not (c10 p.control) ≡ true → is_tall k ≡ true → codes_of (memory_of_page p) k ≡ page_row p k
  open-row zero o t = cc
  open-row (suc d) o t = codes_of-shown (memory_of_page p) d
      (is_shown-suc (memory_of_page p) d ∙ shown-bool _ _ _ o (tall-not24 (suc d) t)) ∙ page_row-suc p d

  pub hidden-same : (n : ℕ) → not (c10 p.control) ≡ true → is_below (memory_of_page p) n ≡ is_hidden (page_row p) n
  hidden-same n o = is_hidden-same (codes_of (memory_of_page p)) (page_row p) n (λ k t. open-row k o t)

  -- a row of the page that is shown and not hidden is needed
  pub row-needed : (d : ℕ) → d < 24 → is_shown (memory_of_page p) (suc d) ≡ true → is_below (memory_of_page p) (suc d) ≡ false →
      needed p (TheRow (suc d)) ≡ true
  row-needed d l shown e =
      let s = sym (is_shown-suc (memory_of_page p) d) ∙ shown in
      needed-bool (nat_le 1 (suc d)) (nat_le (suc d) 24) (not (c10 p.control)) (suc d == 24) p.links.show24 (is_hidden (page_row p) (suc d))
      (at_most 1 (suc d) (omega arith)) (at_most (suc d) 24 (omega arith)) s
      (λ _. sym (hidden-same (suc d) (and-left _ _ s)) ∙ e)

-- a memory that has the page's control bits, its links, and the needed rows above some row

module _ (p : Page) (m : Memory) (control : m.control ≡ p.control) (links : m.links ≡ p.links) (top : ℕ) (fits : top ≤ 25)
    (rows : (k : ℕ) → k < top → needed p (TheRow k) ≡ true → memory_row m k ≡ page_row p k) where
  pub is_shown-same : (n : ℕ) → is_shown m n ≡ is_shown (memory_of_page p) n
  is_shown-same n = rw (control, links)

  codes-by : (d : ℕ) (b : Bool) → suc d < top → is_shown (memory_of_page p) (suc d) ≡ b → is_below (memory_of_page p) (suc d) ≡ false →
      codes_of m (suc d) ≡ codes_of (memory_of_page p) (suc d)
  codes-by d false l s e =
      codes_of-not_shown m (suc d) (is_shown-same (suc d) ∙ s) ∙ sym (codes_of-not_shown (memory_of_page p) (suc d) s)
  codes-by d true l s e =
      codes_of-shown m d (is_shown-same (suc d) ∙ s) ∙ rows (suc d) l (row-needed p d (omega arith) s e) ∙ sym (page_row-suc p d)
      ∙ sym (codes_of-shown (memory_of_page p) d s)

  pub codes-same : (d : ℕ) → suc d < top → is_below (memory_of_page p) (suc d) ≡ false → codes_of m (suc d) ≡ codes_of (memory_of_page p) (suc d)
  codes-same d l e = codes-by d (is_shown (memory_of_page p) (suc d)) l refl e

  pub open-codes : (k : ℕ) → k < top → is_tall k ≡ true → is_below (memory_of_page p) k ≡ false → codes_of m k ≡ codes_of (memory_of_page p) k
  open-codes zero l t e = cc
  open-codes (suc d) l t e = codes-same d l e

  -- the same rows are hidden
  pub is_below-same : (n : ℕ) → n ≤ top → is_below m n ≡ is_below (memory_of_page p) n
  is_below-same zero l = refl
  is_below-same (suc k) l =
      step-shut (is_tall k) (is_below m k) (is_below (memory_of_page p) k) (has_double_height (codes_of m k))
      (has_double_height (codes_of (memory_of_page p) k))
      (is_below-same k (omega arith)) (λ t e. ap has_double_height (open-codes k (omega arith) t e))

-- a memory that shows the page

module _ (p : Page) (m : Memory) (shows : Shows p m) where
  links-held : m.links ≡ p.links
  links-held = shows.items TheLinks refl

  rows-held : (k : ℕ) → k < 25 → needed p (TheRow k) ≡ true → memory_row m k ≡ page_row p k
  rows-held k l n = shows.items (TheRow k) n

  shown : (n : ℕ) → is_shown m n ≡ is_shown (memory_of_page p) n
  shown n = is_shown-same p m shows.control links-held 25 (omega arith) rows-held n

  hidden : (n : ℕ) → n < 25 → is_below m n ≡ is_below (memory_of_page p) n
  hidden n l = is_below-same p m shows.control links-held 25 (omega arith) rows-held n (omega arith)

  codes : (d : ℕ) → suc d < 25 → is_below (memory_of_page p) (suc d) ≡ false → codes_of m (suc d) ≡ codes_of (memory_of_page p) (suc d)
  codes d l e = codes-same p m shows.control links-held 25 (omega arith) rows-held d l e

  tall-codes : (k : ℕ) → k < 25 → is_tall k ≡ true → is_below (memory_of_page p) k ≡ false → codes_of m k ≡ codes_of (memory_of_page p) k
  tall-codes k l t e = open-codes p m shows.control links-held 25 (omega arith) rows-held k l t e

  own-same : (n : ℕ) → codes_of m n ≡ codes_of (memory_of_page p) n → own_cells m n ≡ own_cells (memory_of_page p) n
  unfolding own_cells
  own-same n e = rw (e, shows.control)

  row-by : (d : ℕ) (b : Bool) → suc d < 25 → is_below (memory_of_page p) (suc d) ≡ b → view_row m (suc d) ≡ view_row (memory_of_page p) (suc d)
  row-by d false l e =
      view_row-own m (suc d) (hidden (suc d) l ∙ e) ∙ own-same (suc d) (codes d l e) ∙ sym (view_row-own (memory_of_page p) (suc d) e)
  row-by d true l e =
      let i : suc d - 1 ≡ d = omega arith in
      let upper : is_below (memory_of_page p) d ≡ false = ap (is_below (memory_of_page p)) (sym i) ∙ (above (memory_of_page p) (suc d) e).1 in
      let tall : is_tall d ≡ true = and-left _ _ (and-left _ _ e) in
      let own : own_cells m d ≡ own_cells (memory_of_page p) d = own-same d (tall-codes d (omega arith) tall upper) in
      view_row-below m (suc d) (hidden (suc d) l ∙ e)
      ∙ ap (λ (k : ℕ). map lower (own_cells m k)) i ∙ ap (map lower) own ∙ ap (λ (k : ℕ). map lower (own_cells (memory_of_page p) k)) (sym i)
      ∙ sym (view_row-below (memory_of_page p) (suc d) e)

  pub row-same : (d : ℕ) → suc d < 25 → view_row m (suc d) ≡ view_row (memory_of_page p) (suc d)
  row-same d l = row-by d (is_below (memory_of_page p) (suc d)) l refl

  -- row 0
  head-by : (b : Bool) → length p.head ≡ 24 → is_shown (memory_of_page p) 0 ≡ b → (k : ℕ) → k < 32 → get_or (codes_of m 0) k 0
      ≡ get_or (codes_of (memory_of_page p) 0) k 0
  head-by false long s k l = ap (λ (row : List ℕ). get_or row k 0)
      (codes_of-not_shown m 0 (shown 0 ∙ s) ∙ sym (codes_of-not_shown (memory_of_page p) 0 s))
  head-by true long s k l =
      let held = shows.items TheHead s in
      ap (λ (row : List ℕ). get_or row k 0) (codes_of-head m (shown 0 ∙ s))
      ∙ front-same 8 (drop 8 (memory_row m 0)) (p.head ++ replicate 8 0x20) k
      (λ i e. get_or-drop 8 (memory_row m 0) i 0 ∙ held i (omega arith) ∙ sym (get_or-append p.head (replicate 8 0x20) 0 i (omega arith)))
      ∙ ap (λ (row : List ℕ). get_or row k 0) (sym (codes_of-head (memory_of_page p) s))

  pub head-same : length p.head ≡ 24 → (c : ℕ) (d : Cell) → c < 32 → get_or (view_row m 0) c d ≡ get_or (view_row (memory_of_page p) 0) c d
  unfolding own_cells
  head-same long c d l =
      ap (λ (row : List Cell). get_or row c d) (view_row-own m 0 refl)
      ∙ cells_to-at false (codes_of m 0) (option_of m.control) (has_boxes m.control) 40 c d (omega arith)
      ∙ cell_at-same false (codes_of m 0) (codes_of (memory_of_page p) 0) 32 (head-by (is_shown (memory_of_page p) 0) long refl)
      (option_of m.control) (has_boxes m.control) c l
      ∙ ap (λ (k : ℕ). cell_at false (codes_of (memory_of_page p) 0) (option_of k) (has_boxes k) c) shows.control
      ∙ sym (cells_to-at false (codes_of (memory_of_page p) 0) (option_of p.control) (has_boxes p.control) 40 c d (omega arith))
      ∙ ap (λ (row : List Cell). get_or row c d) (sym (view_row-own (memory_of_page p) 0 refl))

  by_number : (long : length p.head ≡ 24) (number c : ℕ) → IsCompared number c → get_or (view_row m number) c space_cell
      ≡ get_or (view_row (memory_of_page p) number) c space_cell
  by_number long zero c is = head-same long c space_cell (is.2 refl).1
  by_number long (suc d) c is = ap (λ (row : List Cell). get_or row c space_cell) (row-same d is.0)

  cells-same : length p.head ≡ 24 → (number c : ℕ) → IsCompared number c → cell_in (view_of m) number c
      ≡ cell_in (view_of (memory_of_page p)) number c
  cells-same long number c is =
      ap (λ (row : List Cell). get_or row c space_cell) (rows_to-at m 25 number [] is.0)
      ∙ by_number long number c is
      ∙ ap (λ (row : List Cell). get_or row c space_cell) (sym (rows_to-at (memory_of_page p) 25 number [] is.0))

pub showing_is_seeing_lem : ShowingIsSeeing
showing_is_seeing_lem p m long shows = record {
  links = ap (λ (set : LinkSet). set.six) (links-held p m shows);
  cells = cells-same p m shows long;
}
