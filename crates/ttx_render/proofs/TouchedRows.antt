-- Changing a row changes that row of the View, and the rows below it as far as the change of hidden rows reaches.
use Rattle.std.proofs.Common.{◌≡◌, ℕ, zero, suc, ◌-◌, ◌<◌, ◌≤◌, Bool, true, false, Option, List, [], length, get_or, map, refl, ap, sym, ◌∙◌, arith}
use Rattle.std.proofs.Common.{inl, inr, ◌⊎◌}
use Rattle.ttx_header.specs.Ids.{Id}
use Rattle.ttx_page.specs.Memories.{Memory}
use Rattle.ttx_page.specs.Pages.{has_double_height, is_tall}
use Rattle.ttx_render.specs.Mosaics.{same}
use Rattle.ttx_render.specs.Touch.{DiffersAt, IsView}
use Rattle.ttx_render.specs.View.{codes_of, own_cells, is_below, view_row, lower, rows_to, view_of}
use Rattle.std.proofs.Math.Nat.{eq-or-lt_of_le}
use Rattle.std.proofs.lemmas.List.{ext_get_or}
use Rattle.ttx_render.specs.declared.cells.Cell.{Cell}
use Rattle.ttx_render.proofs.ViewRows.{view_row-own, view_row-below, rows_to-at, rows_to-length}
use Rattle.ttx_render.proofs.ShownRows.{step-same}
use Rattle.ttx_render.proofs.InForce.{split}

module _ (m n : Memory) (r : ℕ) (control : m.control ≡ n.control) (others : (k : ℕ) → (k ≡ r → ⊥) → codes_of m k ≡ codes_of n k) where
  own-local : (k : ℕ) → (k ≡ r → ⊥) → own_cells m k ≡ own_cells n k
  unfolding own_cells
  own-local k away = rw (others k away, control)

  step : (k : ℕ) → (k ≡ r → ⊥) → is_below m k ≡ is_below n k → is_below m (suc k) ≡ is_below n (suc k)
  step k away e = step-same (is_tall k) (is_below m k) (is_below n k) (has_double_height (codes_of m k))
      (has_double_height (codes_of n k)) e (λ _. ap has_double_height (others k away))

  -- rows up to the changed one are hidden as before
  pub below-upper : (k : ℕ) → k ≤ r → is_below m k ≡ is_below n k
  below-upper zero l = refl
  below-upper (suc k) l = step k (λ e. omega arith) (below-upper k (omega arith))

  row-by : (k : ℕ) (b : Bool) → is_below n k ≡ b → is_below m k ≡ is_below n k → (k ≡ r → ⊥) → (b ≡ true → k - 1 ≡ r → ⊥) → view_row m k
      ≡ view_row n k
  row-by k false e same away up = view_row-own m k (same ∙ e) ∙ own-local k away ∙ sym (view_row-own n k e)
  row-by k true e same away up = view_row-below m k (same ∙ e) ∙ ap (map lower) (own-local (k - 1) (up refl)) ∙ sym (view_row-below n k e)

  -- rows above the changed one stay the same
  pub upper-stays : (k : ℕ) → k < r → view_row m k ≡ view_row n k
  upper-stays k l = row-by k (is_below n k) refl (below-upper k (omega arith)) (λ e. omega arith) (λ _ e. omega arith)

  module _ (stop : ℕ) (after : r < stop) (before_shows : is_below m stop ≡ false) (now_shows : is_below n stop ≡ false) where
    below-lower : (k : ℕ) → stop ≤ k → is_below m k ≡ is_below n k
    below-lower zero l = refl
    below-lower (suc k) l =
        elim (split stop (suc k) l) [
          | inl low ↦ step k (λ e. omega arith) (below-lower k (omega arith))
          | inr q ↦ ap (is_below m) (sym q) ∙ before_shows ∙ sym now_shows ∙ ap (is_below n) q
        ]

    not-first : (k : ℕ) → stop ≤ k → is_below n k ≡ true → k - 1 ≡ r → ⊥
    not-first k l e q =
        let here : stop ≡ k = omega arith in
        let shows : is_below n k ≡ false = ap (is_below n) (sym here) ∙ now_shows in
        cc

    -- so do all rows from the first one below it that is hidden neither before nor after
    pub lower-stays : (k : ℕ) → stop ≤ k → view_row m k ≡ view_row n k
    lower-stays k l = row-by k (is_below n k) refl (below-lower k l) (λ e. omega arith) (not-first k l)

-- the same for memories that differ in one row

module _ (m n : Memory) (r : ℕ) (differs : DiffersAt m n r) where
  codes-local : (k : ℕ) → (k ≡ r → ⊥) → codes_of m k ≡ codes_of n k
  unfolding codes_of
  codes-local k away = rw (differs.control, differs.show24, differs.others k away)

  pub touched-below : is_below m r ≡ is_below n r
  touched-below = below-upper m n r differs.control codes-local r (omega arith)

  pub touched-upper : (k : ℕ) → k < r → view_row m k ≡ view_row n k
  touched-upper k l = upper-stays m n r differs.control codes-local k l

  pub touched-lower : (stop k : ℕ) → r < stop → is_below m stop ≡ false → is_below n stop ≡ false → stop ≤ k → view_row m k ≡ view_row n k
  touched-lower stop k l e f h = lower-stays m n r differs.control codes-local stop l e f k h

-- Views as lists

pub cut : (k n : ℕ) → (k < n) ⊎ (n ≤ k)
cut k zero = inr (omega arith)
cut k (suc n) = elim (cut k n) [ inl l ↦ inl (omega arith) | inr l ↦ elim (eq-or-lt_of_le l) [ inl e ↦ inl (omega arith) | inr h ↦ inr h ] ]

pub rows_to-IsView : (m : Memory) (cells : List (List Cell)) → IsView m cells → cells ≡ rows_to m 25
rows_to-IsView m cells is =
    let long : length cells ≡ 25 = is.size in
    ext_get_or [] cells (rows_to m 25) (long ∙ sym (rows_to-length m 25))
    (λ k l. let low : k < 25 = omega arith in is.rows k low ∙ sym (rows_to-at m 25 k [] low))

pub IsView-rows_to : (m : Memory) (cells : List (List Cell)) → cells ≡ rows_to m 25 → IsView m cells
IsView-rows_to m cells e = record {
  size = ap length e ∙ rows_to-length m 25;
  rows = λ k l. ap (λ (rs : List (List Cell)). get_or rs k []) e ∙ rows_to-at m 25 k [] l;
}

pub view_of-IsView : (m : Memory) (cells : List (List Cell)) (links : List (Option Id)) → IsView m cells → links ≡ m.links.six →
    record { cells = cells; links = links } ≡ view_of m
view_of-IsView m cells links is same = λ i. record { cells = rows_to-IsView m cells is i; links = same i }
