-- Mosaic mode along a row.
use Rattle.std.proofs.Common.{◌≡◌, ◌∙◌, ℕ, zero, suc, ◌+◌, ◌≤◌, Bool, true, false, List, [], ◌∷◌, ◌++◌, take, get_or, length, refl, sym, ap, arith, ◌==◌}
use Rattle.std.proofs.Math.Seq.{take-suc}
use Rattle.ttx_render.specs.declared.spacing.Spacing.{Spacing}
use Rattle.ttx_render.specs.declared.spacing.Spacing.TheVariants.{AlphaColour, MosaicColour, StartBox, EndBox, NormalHeight, DoubleHeight}
use Rattle.ttx_render.specs.Spacing.{spacing_of, spacing_in, on_mosaic}
use Rattle.ttx_render.specs.Attributes.{value_at, value_after, value_left, spacing_at, mosaic_at}
use Rattle.ttx_author.specs.Rows.{mode_after}

-- the mode that codes leave
abbrev pub mode_left : List ℕ → Bool → Bool
mode_left [] mosaic = mosaic
mode_left (code ∷ codes) mosaic = mode_left codes (mode_after code mosaic)

pub mode_left-push : (codes : List ℕ) (code : ℕ) (mosaic : Bool) → mode_left (codes ++ code ∷ []) mosaic ≡ mode_after code (mode_left codes mosaic)
mode_left-push [] code mosaic = refl
mode_left-push (first ∷ codes) code mosaic = mode_left-push codes code (mode_after first mosaic)

pub mode_left-append : (front codes : List ℕ) (mosaic : Bool) → mode_left (front ++ codes) mosaic ≡ mode_left codes (mode_left front mosaic)
mode_left-append [] codes mosaic = refl
mode_left-append (first ∷ front) codes mosaic = mode_left-append front codes (mode_after first mosaic)

-- colours act from the next column on
at-column : (sets : Spacing) (mosaic : Bool) → value_at (on_mosaic sets) mosaic ≡ mosaic
at-column (AlphaColour fore) mosaic = refl
at-column (MosaicColour fore) mosaic = refl
at-column _ mosaic = refl

-- neither the row nor the neighbour of a code changes its mode
in-row : (tall paired : Bool) (sets : Spacing) (mosaic : Bool) → value_after (on_mosaic (spacing_in tall paired sets)) mosaic ≡ value_after (on_mosaic sets) mosaic
in-row tall true StartBox mosaic = refl
in-row tall false StartBox mosaic = refl
in-row tall true EndBox mosaic = refl
in-row tall false EndBox mosaic = refl
in-row true paired NormalHeight mosaic = refl
in-row false paired NormalHeight mosaic = refl
in-row true paired DoubleHeight mosaic = refl
in-row false paired DoubleHeight mosaic = refl
in-row tall paired (AlphaColour fore) mosaic = refl
in-row tall paired (MosaicColour fore) mosaic = refl
in-row tall paired _ mosaic = refl

module _ (tall : Bool) (row : List ℕ) where
  left-at : (c : ℕ) → c ≤ length row → value_left (λ d. on_mosaic (spacing_at tall row d)) false c ≡ mode_left (take c row) false
  left-at zero inside = refl
  left-at (suc d) inside =
      in-row tall (get_or row d 0 == get_or row (d + 1) 0) (spacing_of (get_or row d 0)) _
      ∙ ap (mode_after (get_or row d 0)) (left-at d (omega arith))
      ∙ sym (mode_left-push (take d row) (get_or row d 0) false)
      ∙ ap (λ codes. mode_left codes false) (sym (take-suc row d 0 (omega arith)))

  -- the mode in force at a column is the one that the codes before it leave
  pub mosaic_at-left : (c : ℕ) → c ≤ length row → mosaic_at tall row c ≡ mode_left (take c row) false
  mosaic_at-left c inside = at-column (spacing_at tall row c) _ ∙ left-at c inside
