-- The attributes in force at each column of a row (EN 300 706, 12.2). Each attribute looks back for the last code that sets it.
--
--   ActsAt, IsInForce               the value in force at a column, as a relation
--   value_left, value_in_force      the same as functions
--   start                           the attributes in which a row starts
--   spacing_at                      what the code at a column sets
--   fore_at .. hold_at              each attribute at a column
--   attributes_at                   all of them
--   IsEachInForce                   each of these functions returns the value in force
use Rattle.std.specs.Prelude.{◌≡◌, ◌<◌, ◌≤◌, ◌⊎◌, ℕ, zero, suc, ◌+◌, Bool, false, ◌==◌, List, slice_index}
use Rattle.ttx_render.specs.declared.colour.Colour.{Colour}
use Rattle.ttx_render.specs.declared.colour.Colour.TheVariants.{Black, White}
use Rattle.ttx_render.specs.declared.spacing.Spacing.{Spacing}
use Rattle.ttx_render.specs.declared.attributes.Attributes.{Attributes}
use Rattle.ttx_render.specs.Spacing.{Effect, Leaves, SetAt, SetAfter, spacing_of, spacing_in, on_fore, on_back, on_flash}
use Rattle.ttx_render.specs.Spacing.{on_boxed, on_double, on_concealed, on_mosaic, on_separated, on_hold}

-- the code at column d sets the attribute to this value, and already acts at column c
abbrev pub ActsAt : {A : Type 0} → (ℕ → Effect A) → ℕ → ℕ → A → Type 0
ActsAt effects c d value = ((effects d ≡ SetAt value) × (d ≤ c)) ⊎ ((effects d ≡ SetAfter value) × (d < c))

-- the value of the last code that acts at column c; without one, the start value of the row
abbrev pub IsInForce : {A : Type 0} → (ℕ → Effect A) → A → ℕ → A → Type 0
IsInForce {A} effects start c value =
    ((d : ℕ) × ActsAt effects c d value × ((e : ℕ) (other : A) → d < e → ¬ ActsAt effects c e other))
    ⊎ ((value ≡ start) × ((e : ℕ) (other : A) → ¬ ActsAt effects c e other))

abbrev pub value_after : {A : Type 0} → Effect A → A → A
value_after Leaves before = before
value_after (SetAt value) before = value
value_after (SetAfter value) before = value

abbrev pub value_at : {A : Type 0} → Effect A → A → A
value_at Leaves before = before
value_at (SetAt value) before = value
value_at (SetAfter value) before = before

-- the value that the columns before c leave: going back, the first one that is set, or the start value
abbrev pub value_left : {A : Type 0} → (ℕ → Effect A) → A → ℕ → A
value_left effects start zero = start
value_left effects start (suc d) = value_after (effects d) (value_left effects start d)

-- the value in force at column c
abbrev pub value_in_force : {A : Type 0} → (ℕ → Effect A) → A → ℕ → A
value_in_force effects start c = value_at (effects c) (value_left effects start c)

-- alphanumeric, white on black, steady, unboxed, normal height, not concealed, contiguous, release
abbrev pub start : Attributes
start = record {
  fore = White;
  back = Black;
  flash = false;
  boxed = false;
  double = false;
  concealed = false;
  mosaic = false;
  separated = false;
  hold = false;
}

-- A row of 40 codes, and whether its height codes have an effect. Beyond column 39 codes read as 0, so a box code in column 39 never counts.
module _ (tall : Bool) (row : List ℕ) where
  abbrev pub spacing_at : ℕ → Spacing
  spacing_at c = spacing_in tall (slice_index row c == slice_index row (c + 1)) (spacing_of (slice_index row c))

  abbrev pub fore_at : ℕ → Colour
  fore_at c = value_in_force (λ d. on_fore (spacing_at d)) start.fore c

  -- new background at column d takes the foreground in force at d
  abbrev pub back_at : ℕ → Colour
  back_at c = value_in_force (λ d. on_back (fore_at d) (spacing_at d)) start.back c

  abbrev pub flash_at : ℕ → Bool
  flash_at c = value_in_force (λ d. on_flash (spacing_at d)) start.flash c

  abbrev pub boxed_at : ℕ → Bool
  boxed_at c = value_in_force (λ d. on_boxed (spacing_at d)) start.boxed c

  abbrev pub double_at : ℕ → Bool
  double_at c = value_in_force (λ d. on_double (spacing_at d)) start.double c

  abbrev pub concealed_at : ℕ → Bool
  concealed_at c = value_in_force (λ d. on_concealed (spacing_at d)) start.concealed c

  abbrev pub mosaic_at : ℕ → Bool
  mosaic_at c = value_in_force (λ d. on_mosaic (spacing_at d)) start.mosaic c

  abbrev pub separated_at : ℕ → Bool
  separated_at c = value_in_force (λ d. on_separated (spacing_at d)) start.separated c

  abbrev pub hold_at : ℕ → Bool
  hold_at c = value_in_force (λ d. on_hold (spacing_at d)) start.hold c

  abbrev pub attributes_at : ℕ → Attributes
  attributes_at c = record {
    fore = fore_at c;
    back = back_at c;
    flash = flash_at c;
    boxed = boxed_at c;
    double = double_at c;
    concealed = concealed_at c;
    mosaic = mosaic_at c;
    separated = separated_at c;
    hold = hold_at c;
  }

  -- each attribute at column c has the value in force there
  pub record IsEachInForce (c : ℕ) : Type 0 where
    pub fore : IsInForce (λ d. on_fore (spacing_at d)) White c (fore_at c)
    pub back : IsInForce (λ d. on_back (fore_at d) (spacing_at d)) Black c (back_at c)
    pub flash : IsInForce (λ d. on_flash (spacing_at d)) false c (flash_at c)
    pub boxed : IsInForce (λ d. on_boxed (spacing_at d)) false c (boxed_at c)
    pub double : IsInForce (λ d. on_double (spacing_at d)) false c (double_at c)
    pub concealed : IsInForce (λ d. on_concealed (spacing_at d)) false c (concealed_at c)
    pub mosaic : IsInForce (λ d. on_mosaic (spacing_at d)) false c (mosaic_at c)
    pub separated : IsInForce (λ d. on_separated (spacing_at d)) false c (separated_at c)
    pub hold : IsInForce (λ d. on_hold (spacing_at d)) false c (hold_at c)
