-- Numbers are read as they are written.
use Rattle.std.proofs.Common.{◌≡◌, ℕ, zero, suc, ◌^◌, ◌<◌, ◌≤◌, ◌==◌, true, not, ◌&&◌, ◌||◌, List, [], ◌∷◌, length}
use Rattle.std.proofs.Common.{slice_index, Some, None, nat_le, refl, sym, ap, ◌∙◌, arith, rules}
use Rattle.std.specs.Fmt.{decimal}
use Rattle.std.specs.List.{list_all}
use Rattle.std.proofs.lemmas.Bool.{and_from, and_parts, cond-true}
use Rattle.std.proofs.lemmas.Option.{cond_some}
use Rattle.std.proofs.lemmas.Bool.Decides.{nat_tests}
use Rattle.std.proofs.lemmas.Fmt.{decimal-digits_value, digits_decimal, digits_value-decimal, length-decimal-le}
use Rattle.std.proofs.lemmas.Fmt.{decimal_nonempty, first_decimal, decimal_digit}
use Rattle.std.proofs.lemmas.Str.Parse.{IsNumeralModel, numerals_by_fold, digits_value_short}
use Rattle.ttx_digits.specs.Digits.{are_digits, decimal_after, is_between, is_number}
use Rattle.ttx_digits.specs.Laws.{WrittenNumbersAreRead, ReadNumbersAreWritten, NumbersHoldNoSeparator}

-- digits without a leading zero are the text of their number
own : IsNumeralModel (λ ds. are_digits ds ≡ true) (decimal_after 0)
own = numerals_by_fold _ (search rules) decimal_after (search rules)

number_word : (word : List ℕ) → is_number word ≡ true → decimal (decimal_after 0 word) ≡ word
number_word word is =
    let last = (and_parts (are_digits word && nat_le 1 (length word) && nat_le (length word) 7)
    (length word == 1 || not (slice_index word 0 == 48)) is).1 in
    let three = (and_parts (are_digits word && nat_le 1 (length word) && nat_le (length word) 7)
    (length word == 1 || not (slice_index word 0 == 48)) is).0 in
    let most = (and_parts (are_digits word && nat_le 1 (length word)) (nat_le (length word) 7) three).1 in
    let two = (and_parts (are_digits word && nat_le 1 (length word)) (nat_le (length word) 7) three).0 in
    let one = (and_parts (are_digits word) (nat_le 1 (length word)) two).1 in
    let digits = (and_parts (are_digits word) (nat_le 1 (length word)) two).0 in
    let few : length word ≤ 7 = grind (arith, nat_tests) in
    let some : 0 < length word = grind (arith, nat_tests) in
    let small : decimal_after 0 word < 10 ^ 7 = digits_value_short own word 7 digits few in
    decimal-digits_value own word digits some (λ lead. grind (arith, nat_tests)) (omega arith)

pub number_is : ReadNumbersAreWritten
number_is word n is = let read = cond_some (is_number word) (decimal_after 0 word) n is in sym (number_word word read.0) ∙ ap decimal read.1

decimal_digits : (n : ℕ) → n < 10000000 → are_digits (decimal n) ≡ true
decimal_digits n small = digits_decimal own n (omega arith)

lead : (n : ℕ) → n < 10000000 → (length (decimal n) == 1 || not (slice_index (decimal n) 0 == 48)) ≡ true
lead zero small = rw (decimal_digit 0 (omega arith)) refl
lead (suc n) small = let first : 48 < slice_index (decimal (suc n)) 0 = first_decimal (suc n) (omega arith) (omega arith) in grind (arith, nat_tests)

-- the text of a number is read as the number
pub number_read : WrittenNumbersAreRead
number_read n small =
    let some : 0 < length (decimal n) = decimal_nonempty n (omega arith) in
    let few : length (decimal n) ≤ 7 = length-decimal-le 7 n (omega arith) (omega arith) (omega arith) in
    let a : nat_le 1 (length (decimal n)) ≡ true = grind (arith, nat_tests) in
    let b : nat_le (length (decimal n)) 7 ≡ true = grind (arith, nat_tests) in
    let is : is_number (decimal n) ≡ true = and_from
    (are_digits (decimal n) && nat_le 1 (length (decimal n)) && nat_le (length (decimal n)) 7)
    (length (decimal n) == 1 || not (slice_index (decimal n) 0 == 48))
    (and_from (are_digits (decimal n) && nat_le 1 (length (decimal n))) (nat_le (length (decimal n)) 7)
    (and_from (are_digits (decimal n)) (nat_le 1 (length (decimal n))) (decimal_digits n small) a) b) (lead n small) in
    let value : decimal_after 0 (decimal n) ≡ n = digits_value-decimal own n (omega arith) in
    cond-true (is_number (decimal n)) (Some (decimal_after 0 (decimal n))) None is ∙ ap Some value

digits_high : (ds : List ℕ) → are_digits ds ≡ true → list_all (nat_le 47) ds ≡ true
digits_high [] are = refl
digits_high (d ∷ ds) are =
    let parts = and_parts (is_between 48 57 d) (are_digits ds) are in
    let digit = parts.0 in
    let here : nat_le 47 d ≡ true = grind (arith, nat_tests) in
    and_from (nat_le 47 d) (list_all (nat_le 47) ds) here (digits_high ds parts.1)

-- digits are not separators
pub numbers_free : NumbersHoldNoSeparator
numbers_free n small = digits_high (decimal n) (decimal_digits n small)
