-- Under each option and in each mode, no two codes have the same character.
use Rattle.std.proofs.Common.{◌≡◌, ℕ, ◌+◌, ◌-◌, ◌<◌, ◌≤◌, Bool, true, false, ◌&&◌, not, Option, Some, None, refl, ap, arith, subst, ◌==◌, eqb}
use Rattle.std.proofs.lemmas.Bool.{agree_below, agree_below_at, eqb-true, and_parts, not-true}
use Rattle.ttx_charset.specs.Glyphs.{glyph, national_set}
use Rattle.ttx_author.specs.Signs.{block_character, sign, code_of}

abbrev finds : Option ℕ → ℕ → Bool
finds None code = false
finds (Some found) code = eqb found code

-- the character of a code stands for this code only, and is no brace
abbrev stands : Bool → ℕ → ℕ → Bool
stands mosaic option n = finds (code_of mosaic option (sign mosaic option (n + 0x20))) (n + 0x20) && not (sign mosaic option (n + 0x20) == 0x7b)

abbrev all_stand : Bool → ℕ → Bool
all_stand mosaic option = agree_below (stands mosaic option) (λ _. true) 96

letters-stand : agree_below (all_stand false) (λ _. true) 8 ≡ true
unfolding code_of sign block_character glyph national_set
letters-stand = refl

mosaics-stand : agree_below (all_stand true) (λ _. true) 8 ≡ true
unfolding code_of sign block_character glyph national_set
mosaics-stand = refl

found-same : (found : Option ℕ) (code : ℕ) → finds found code ≡ true → found ≡ Some code
found-same None code e = cc
found-same (Some x) code e = ap Some (eqb-true x code e)

standing : (mosaic : Bool) → agree_below (all_stand mosaic) (λ _. true) 8 ≡ true
standing false = letters-stand
standing true = mosaics-stand

pub sign-stands : (mosaic : Bool) (option code : ℕ) → option < 8 → 0x20 ≤ code → code < 128 →
    (code_of mosaic option (sign mosaic option code) ≡ Some code) × ((sign mosaic option code == 0x7b) ≡ false)
sign-stands mosaic option code o low high =
    let same : code - 0x20 + 0x20 ≡ code = omega arith in
    let here : stands mosaic option (code - 0x20) ≡ true =
    agree_below_at (stands mosaic option) (λ _. true) 96 (code - 0x20) (agree_below_at (all_stand mosaic) (λ _. true) 8 option (standing mosaic) o) (omega arith) in
    subst (λ n. (code_of mosaic option (sign mosaic option n) ≡ Some n) × ((sign mosaic option n == 0x7b) ≡ false)) same
    (let parts = and_parts (finds (code_of mosaic option (sign mosaic option (code - 0x20 + 0x20))) (code - 0x20 + 0x20)) (not (sign mosaic option (code - 0x20 + 0x20) == 0x7b)) here in (
      found-same (code_of mosaic option (sign mosaic option (code - 0x20 + 0x20))) (code - 0x20 + 0x20) parts.0,
      not-true (sign mosaic option (code - 0x20 + 0x20) == 0x7b) parts.1,
    ))
