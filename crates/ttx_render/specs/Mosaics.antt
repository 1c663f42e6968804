-- Mosaics, and the held mosaic that a spacing code shows (EN 300 706, 12.2). Bits are counted from 1, the lowest.
--
--   has_blocks, mosaic_of           which codes are mosaics, and which mosaic
--   shows_mosaic                    whether a column shows one
--   IsLatestMosaic, HasStayed       where the held mosaic at a column comes from, as relations
--   held_at                         the held mosaic as a function
--   IsHeldFromLatest                this function meets the relations
use Rattle.std.specs.Prelude.{◌≡◌, ◌<◌, ◌≤◌, ℕ, zero, suc, ◌+◌, ◌*◌, ◌/◌, ◌%◌, Bool, true, false, not, ◌&&◌, ◌==◌, if◌then◌else◌, List, slice_index}
use Rattle.ttx_render.specs.declared.cells.Glyph.{Glyph}
use Rattle.ttx_render.specs.declared.cells.Glyph.TheVariants.{Char, Mosaic}
use Rattle.ttx_render.specs.Attributes.{mosaic_at, double_at, separated_at}

-- the codes with bit 6 (value 20) set: 20 to 3F and 60 to 7F
abbrev pub has_blocks : ℕ → Bool
has_blocks code = code / 32 % 2 == 1

-- Bits 1 to 5 and 7 are the blocks: top left, top right, middle left, middle right, bottom left, bottom right.
abbrev pub mosaic_of : ℕ → Bool → Glyph
mosaic_of code separated = Mosaic (code % 32 + 32 * (code / 64 % 2)) separated

abbrev pub same : Bool → Bool → Bool
same true b = b
same false b = not b

module _ (tall : Bool) (row : List ℕ) where
  abbrev pub shows_mosaic : ℕ → Bool
  shows_mosaic c = mosaic_at tall row c && has_blocks (slice_index row c)

  -- column d is the latest before c that shows a mosaic
  abbrev pub IsLatestMosaic : ℕ → ℕ → Type 0
  IsLatestMosaic d c = (d < c) × (shows_mosaic d ≡ true) × ((e : ℕ) → d < e → e < c → shows_mosaic e ≡ false)

  -- mode and height are the same at all columns from d to c
  abbrev pub HasStayed : ℕ → ℕ → Type 0
  HasStayed d c =
      (e : ℕ) → d ≤ e → e < c → (mosaic_at tall row (e + 1) ≡ mosaic_at tall row e) × (double_at tall row (e + 1) ≡ double_at tall row e)

  -- mode and height at column d + 1 are those at column d
  abbrev pub stays : ℕ → Bool
  stays d = same (mosaic_at tall row (suc d)) (mosaic_at tall row d) && same (double_at tall row (suc d)) (double_at tall row d)

  -- the held mosaic at a column
  abbrev pub held_at : ℕ → Glyph
  held_at zero = Char 0x20
  held_at (suc d) =
      if stays d then (if shows_mosaic d then mosaic_of (slice_index row d) (separated_at tall row d) else held_at d) else Char 0x20

  -- It is the latest mosaic, contiguous or separated as it was there, if mode and height have stayed since; otherwise a space (profile).
  pub record IsHeldFromLatest (c : ℕ) : Type 0 where
    pub stayed : (d : ℕ) → IsLatestMosaic d c → HasStayed d c → held_at c ≡ mosaic_of (slice_index row d) (separated_at tall row d)
    pub changed : (d : ℕ) → IsLatestMosaic d c → ¬ HasStayed d c → held_at c ≡ Char 0x20
    pub none : ((d : ℕ) → d < c → shows_mosaic d ≡ false) → held_at c ≡ Char 0x20
