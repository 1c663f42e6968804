-- The table of hexadecimal digits holds what the definition says. Computed over all its entries.
use Rattle.std.proofs.Common.{◌≡◌, ◌∙◌, ◌&&◌, ◌<◌, ◌≤◌, ℕ, Bool, Option, Some, None, true, refl, sym, ap, arith, eqb, ltb, get_or}
use Rattle.std.proofs.lemmas.Bool.{agree_below, agree_below_at, and_parts, eqb-true, ltb-true}
use Rattle.ttx_digits.specs.Digits.{hex_in}
use Rattle.ttx_digits.specs.declared.hexadecimals.TheConstants.{VALUES}

abbrev is_entry : Option ℕ → ℕ → Bool
is_entry None value = eqb value 16
is_entry (Some n) value = eqb n value && ltb value 16

table : agree_below (λ b. is_entry (hex_in b) (get_or VALUES b 0)) (λ _. true) 256 ≡ true
unfolding hex_in
table = refl

from_entry : (digit : Option ℕ) (value : ℕ) → is_entry digit value ≡ true → (value < 16 → Some value ≡ digit) × (16 ≤ value → None ≡ digit)
from_entry None value e = let none : value ≡ 16 = eqb-true _ _ e in (λ low. absurd (omega arith), λ _. refl)
from_entry (Some n) value e =
    let parts = and_parts (eqb n value) (ltb value 16) e in
    let same : n ≡ value = eqb-true _ _ parts.0 in
    let low : value < 16 = ltb-true _ _ parts.1 in
    (λ _. ap Some (sym same), λ high. absurd (omega arith))

-- a byte whose entry is this is this digit, if it is one
pub entry_of : (b value : ℕ) → b < 256 → get_or VALUES b 0 ≡ value → (value < 16 → Some value ≡ hex_in b) × (16 ≤ value → None ≡ hex_in b)
entry_of b value byte e = from_entry (hex_in b) value
    (ap (is_entry (hex_in b)) (sym e) ∙ agree_below_at (λ b. is_entry (hex_in b) (get_or VALUES b 0)) (λ _. true) 256 b table byte)
