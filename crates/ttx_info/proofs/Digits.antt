-- Numbers from their digits, each as a half byte, and characters from their bytes.
use Rattle.std.proofs.Common.{◌≡◌, ℕ, suc, ◌%◌, ◌<◌, ◌&&◌, Bool, true, false, nat_le, List, [], ◌∷◌, All, map, refl, ap₂, arith}
use Rattle.std.specs.List.{list_all}
use Rattle.std.proofs.lemmas.Bool.{le-leb}
use Rattle.ttx_code.specs.Words.{is_odd, odd_byte}
use Rattle.ttx_code.specs.Laws.{OddBytesHoldTheirCodes}
use Rattle.ttx_info.specs.Infos.{is_half_digit, value_of, half_byte, date_halves, time_halves}

pub both : (a b : Bool) → a ≡ true → b ≡ true → (a && b) ≡ true
both true b e f = f
both false b e f = e

half_is_digit : (n unit : ℕ) → is_half_digit (half_byte n unit) ≡ true
half_is_digit n unit = both (nat_le 1 (half_byte n unit)) (nat_le (half_byte n unit) 10) (le-leb _ _ (omega arith)) (le-leb _ _ (omega arith))

pub date_is_digits : (mjd : ℕ) → list_all is_half_digit (date_halves mjd) ≡ true
date_is_digits n =
    both _ _ (half_is_digit n 10000)
    (both _ _ (half_is_digit n 1000)
    (both _ _ (half_is_digit n 100) (both _ _ (half_is_digit n 10) (both _ _ (half_is_digit n 1) refl))))

pub time_is_digits : (utc : ℕ) → list_all is_half_digit (time_halves utc) ≡ true
time_is_digits n = both _ _ (half_is_digit n 100000) (date_is_digits n)

pub date_value : (mjd : ℕ) → mjd < 100000 → value_of (date_halves mjd) ≡ mjd
date_value n l = omega arith

pub time_value : (utc : ℕ) → utc < 1000000 → value_of (time_halves utc) ≡ utc
time_value n l = omega arith

module _ (holds : OddBytesHoldTheirCodes) where
  pub codes_of_bytes : (text : List ℕ) → All (λ c. c < 128) text → map (λ b. b % 128) (map odd_byte text) ≡ text
  codes_of_bytes [] small = refl
  codes_of_bytes (c ∷ text) small =
      let (odd, code, byte) = holds c (small 0 0 (omega arith)) in
      ap₂ (λ x xs. x ∷ xs) code (codes_of_bytes text (λ k d l. small (suc k) d (omega arith)))

  pub bytes_are_odd : (text : List ℕ) → All (λ c. c < 128) text → list_all is_odd (map odd_byte text) ≡ true
  bytes_are_odd [] small = refl
  bytes_are_odd (c ∷ text) small =
      let (odd, code, byte) = holds c (small 0 0 (omega arith)) in
      both (is_odd (odd_byte c)) (list_all is_odd (map odd_byte text)) odd (bytes_are_odd text (λ k d l. small (suc k) d (omega arith)))
