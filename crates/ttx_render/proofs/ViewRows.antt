-- From one row of the View to the next.
use Rattle.std.proofs.Common.{◌≡◌, ℕ, zero, suc, ◌+◌, ◌-◌, ◌<◌, Bool, true, false, not, ◌&&◌, List, [], ◌∷◌, ◌++◌, length, map, take, get_or, refl}
use Rattle.std.proofs.Common.{ap, sym, ◌∙◌, arith, add-one, set}
use Rattle.std.proofs.lemmas.List.{get_or-take, take_more_set}
use Rattle.std.proofs.lemmas.List.FromFn.{map-range_with_len_more, get_or-map-range_with_len, length-map-range_with_len}
use Rattle.ttx_header.specs.Control.{option_of}
use Rattle.ttx_page.specs.Memories.{Memory, memory_at}
use Rattle.ttx_page.specs.Pages.{has_double_height, is_tall}
use Rattle.std.specs.List.{range_with_len}
use Rattle.ttx_render.specs.declared.cells.Cell.{Cell}
use Rattle.ttx_render.specs.Cells.{cells_to}
use Rattle.ttx_render.specs.Laws.{ContentsDecide}
use Rattle.ttx_render.specs.Mosaics.{same}
use Rattle.ttx_render.specs.View.{rows_to, view_row, is_below, own_cells, lower, codes_of, has_boxes}

module _ (m : Memory) where
  pub rows_to-none : rows_to m 0 ≡ []
  unfolding rows_to
  rows_to-none = refl

  pub rows_to-more : (n : ℕ) → rows_to m (n + 1) ≡ rows_to m n ++ view_row m n ∷ []
  unfolding rows_to
  rows_to-more n = map-range_with_len_more (λ number. view_row m number) 0 n n (omega arith)

  pub rows_to-at : (n r : ℕ) (d : List Cell) → r < n → get_or (rows_to m n) r d ≡ view_row m r
  unfolding rows_to
  rows_to-at n r d l = get_or-map-range_with_len (λ number. view_row m number) 0 n r r d l (omega arith)

  pub rows_to-length : (n : ℕ) → length (rows_to m n) ≡ n
  unfolding rows_to
  rows_to-length n = length-map-range_with_len (λ number. view_row m number) 0 n

  pub view_row-own : (n : ℕ) → is_below m n ≡ false → view_row m n ≡ own_cells m n
  unfolding view_row
  view_row-own n e = rw e

  pub view_row-below : (n : ℕ) → is_below m n ≡ true → view_row m n ≡ map lower (own_cells m (n - 1))
  unfolding view_row
  view_row-below n e = rw e

  not-both : (a b c : Bool) → a && not b && c ≡ true → b ≡ false
  not-both true false true e = refl
  not-both true false false e = refl
  not-both true true c e = cc
  not-both false b c e = cc

  -- there is a row above a hidden row, and it is not hidden
  pub above : (n : ℕ) → is_below m n ≡ true → (0 < n) × (is_below m (n - 1) ≡ false)
  above zero e = cc
  above (suc d) e = (
    omega arith,
    let i : suc d - 1 ≡ d = omega arith
        in rw i (not-both (is_tall d) (is_below m d) (has_double_height (codes_of m d)) e),
  )

  -- so a hidden row is made from the row above it
  pub view_row-lower : (n : ℕ) → is_below m n ≡ true → view_row m n ≡ map lower (view_row m (n - 1))
  view_row-lower n e = view_row-below n e ∙ ap (map lower) (sym (view_row-own (n - 1) (above n e).1))

  and-not : (a b c : Bool) → b ≡ true → a && not b && c ≡ false
  and-not true b c e = rw e
  and-not false b c e = refl

  pub is_below-after : (n : ℕ) → is_below m n ≡ true → is_below m (n + 1) ≡ false
  is_below-after n e = ap (is_below m) (add-one n) ∙ and-not (is_tall n) (is_below m n) (has_double_height (codes_of m n)) e

  and-own : (a b c : Bool) → b ≡ false → a && not b && c ≡ a && c
  and-own true b c e = rw e
  and-own false b c e = refl

  pub is_below-own : (n : ℕ) → is_below m n ≡ false → is_below m (n + 1) ≡ is_tall n && has_double_height (codes_of m n)
  is_below-own n e = ap (is_below m) (add-one n) ∙ and-own (is_tall n) (is_below m n) (has_double_height (codes_of m n)) e

  -- the row above, among the rows made so far
  pub made : (rows : List (List Cell)) (n : ℕ) → take n rows ≡ rows_to m n → 0 < n → get_or rows (n - 1) [] ≡ view_row m (n - 1)
  made rows n e l =
      let low : n - 1 < n = omega arith in
      sym (get_or-take n rows (n - 1) [] low) ∙ ap (λ rs. get_or rs (n - 1) []) e ∙ rows_to-at n (n - 1) [] low

  pub done-more : (rows : List (List Cell)) (n : ℕ) (x : List Cell) → n < length rows → take n rows ≡ rows_to m n → x ≡ view_row m n →
      take (n + 1) (set rows n x) ≡ rows_to m (n + 1)
  done-more rows n x l e i = take_more_set rows n x l ∙ rw (e, i) (sym (rows_to-more n))

  pub own-row : (n : ℕ) (codes : List ℕ) (tall : Bool) (option : ℕ) (boxes : Bool) → is_below m n ≡ false → codes ≡ codes_of m n → tall
      ≡ is_tall n → option ≡ option_of m.control → boxes ≡ has_boxes m.control
      → cells_to tall codes 40 option boxes ≡ view_row m n
  unfolding own_cells
  own-row n codes tall option boxes e i j k h = rw (i, j, k, h) (sym (view_row-own n e))

-- what a View depends on

-- the memory reduced to what is shown
contents_of : Memory → Memory
contents_of m = memory_at m.rows m.control m.links false 0 false

view_row-contents : (m : Memory) (k : ℕ) → view_row m k ≡ view_row (contents_of m) k
unfolding contents_of view_row own_cells codes_of
view_row-contents m k = refl

view_row-same : (m n : Memory) → m.rows ≡ n.rows → m.control ≡ n.control → m.links ≡ n.links → (k : ℕ) → view_row m k ≡ view_row n k
unfolding contents_of
view_row-same m n rows control links k =
    view_row-contents m k ∙ (λ i. view_row (memory_at (rows i) (control i) (links i) false 0 false) k) ∙ sym (view_row-contents n k)

rows_to-same : (m n : Memory) → ((k : ℕ) → view_row m k ≡ view_row n k) → (count : ℕ) → rows_to m count ≡ rows_to n count
unfolding rows_to
rows_to-same m n same count = λ i. map (λ number. same number i) (range_with_len 0 count)

pub contents_decide_lem : ContentsDecide
contents_decide_lem m n rows control links = λ i. record {
  cells = rows_to-same m n (view_row-same m n rows control links) 25 i;
  links = (links i).six;
}

pub ruleset view_row_known = (view_row-own, view_row-below, above)

pub ruleset is_below_known = (is_below-after, is_below-own)
