-- The cell of a column depends only on the codes up to that column.
use Rattle.std.proofs.Common.{◌≡◌, ℕ, zero, suc, ◌+◌, ◌<◌, Bool, true, false, ◌==◌, List, refl, ap, get_or, arith, sym, ◌∙◌}
use Rattle.ttx_render.specs.declared.spacing.Spacing.{Spacing}
use Rattle.ttx_render.specs.declared.spacing.Spacing.TheVariants.{EndBox, StartBox, NormalHeight, DoubleHeight}
use Rattle.ttx_render.specs.declared.attributes.Attributes.{Attributes}
use Rattle.ttx_render.specs.declared.held_mosaic.Held.{Held}
use Rattle.ttx_render.specs.declared.cells.Glyph.{Glyph}
use Rattle.ttx_render.specs.Attributes.{spacing_at, attributes_at}
use Rattle.ttx_render.specs.Cells.{cell_at, cell_of}
use Rattle.ttx_render.specs.Columns.{attributes_in, attributes_left, attributes_after, held_left, held_after, held_in}
use Rattle.ttx_render.specs.Mosaics.{held_at}
use Rattle.ttx_render.specs.Spacing.{spacing_in, spacing_of}
use Rattle.ttx_render.proofs.Columns.{attributes_in-left, attributes_after-at, held_in-left, held_after-at}

-- a box code acts from the next column on, so its own column does not depend on whether it counts
pub at_of-box : (tall b c : Bool) (s : Spacing) (a : Attributes) → attributes_in (spacing_in tall b s) a ≡ attributes_in (spacing_in tall c s) a
at_of-box tall true true s a = refl
at_of-box tall false false s a = refl
at_of-box tall true false StartBox a = refl
at_of-box tall true false EndBox a = refl
at_of-box tall true false NormalHeight a = refl
at_of-box tall true false DoubleHeight a = refl
at_of-box tall true false _ a = refl
at_of-box tall false true StartBox a = refl
at_of-box tall false true EndBox a = refl
at_of-box tall false true NormalHeight a = refl
at_of-box tall false true DoubleHeight a = refl
at_of-box tall false true _ a = refl

module _ (tall : Bool) (xs ys : List ℕ) (n : ℕ) (agree : (k : ℕ) → k < n → get_or xs k 0 ≡ get_or ys k 0) where
  pub sets-same : (d : ℕ) → suc d < n → spacing_at tall xs d ≡ spacing_at tall ys d
  sets-same d l =
      let here : get_or xs d 0 ≡ get_or ys d 0 = agree d (omega arith) in
      let next : get_or xs (d + 1) 0 ≡ get_or ys (d + 1) 0 = agree (d + 1) (omega arith) in
      rw (here, next)

  pub now-from_left : (c : ℕ) → c < n → attributes_left tall xs c ≡ attributes_left tall ys c → attributes_at tall xs c ≡ attributes_at tall ys c
  now-from_left c l e =
      let here : get_or xs c 0 ≡ get_or ys c 0 = agree c l in
      sym (attributes_in-left tall xs c)
      ∙ at_of-box tall (get_or xs c 0 == get_or xs (c + 1) 0) (get_or ys c 0 == get_or ys (c + 1) 0) (spacing_of (get_or xs c 0))
      (attributes_left tall xs c)
      ∙ ap (λ (k : ℕ). attributes_in (spacing_in tall (get_or ys c 0 == get_or ys (c + 1) 0) (spacing_of k)) (attributes_left tall xs c)) here
      ∙ ap (attributes_in (spacing_at tall ys c)) e
      ∙ attributes_in-left tall ys c

  pub left-same : (c : ℕ) → c < n → attributes_left tall xs c ≡ attributes_left tall ys c
  left-same zero l = refl
  left-same (suc d) l =
      let e : attributes_at tall xs d ≡ attributes_at tall ys d = now-from_left d (omega arith) (left-same d (omega arith)) in
      sym (attributes_after-at tall xs d) ∙ ap (λ (s : Spacing). attributes_after s (attributes_at tall xs d)) (sets-same d l)
      ∙ ap (attributes_after (spacing_at tall ys d)) e ∙ attributes_after-at tall ys d

  pub now-same : (c : ℕ) → c < n → attributes_at tall xs c ≡ attributes_at tall ys c
  now-same c l = now-from_left c l (left-same c l)

  pub held_before-same : (d : ℕ) → d < n → held_at tall xs d ≡ held_at tall ys d → held_left tall xs (suc d) ≡ held_left tall ys (suc d)
  held_before-same d l e =
      sym (held_after-at tall xs d)
      ∙ ap (λ (a : Attributes). held_after a (get_or xs d 0) (held_at tall xs d)) (now-same d l)
      ∙ ap (λ (k : ℕ). held_after (attributes_at tall ys d) k (held_at tall xs d)) (agree d l)
      ∙ ap (held_after (attributes_at tall ys d) (get_or ys d 0)) e
      ∙ held_after-at tall ys d

  pub held-same : (c : ℕ) → c < n → held_at tall xs c ≡ held_at tall ys c
  held-same zero l = refl
  held-same (suc d) l =
      let before : held_left tall xs (suc d) ≡ held_left tall ys (suc d) = held_before-same d (omega arith) (held-same d (omega arith)) in
      sym (held_in-left tall xs (suc d))
      ∙ ap (λ (h : Held). held_in h (attributes_at tall xs (suc d))) before
      ∙ ap (held_in (held_left tall ys (suc d))) (now-same (suc d) l)
      ∙ held_in-left tall ys (suc d)

  pub cell_at-same : (option : ℕ) (boxes : Bool) (c : ℕ) → c < n → cell_at tall xs option boxes c ≡ cell_at tall ys option boxes c
  cell_at-same option boxes c l =
      ap (λ (a : Attributes). cell_of a (held_at tall xs c) option boxes (get_or xs c 0)) (now-same c l)
      ∙ ap (λ (g : Glyph). cell_of (attributes_at tall ys c) g option boxes (get_or xs c 0)) (held-same c l)
      ∙ ap (cell_of (attributes_at tall ys c) (held_at tall ys c) option boxes) (agree c l)
