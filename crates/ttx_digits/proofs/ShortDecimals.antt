-- The decimals of the numbers below 100, in a text that has two digits for each.
use Rattle.std.proofs.Common.{◌≡◌, ℕ, ◌+◌, ◌-◌, ◌*◌, ◌<◌, ◌≤◌, List, [], ◌∷◌, true, nat_lt, refl, arith, subst}
use Rattle.std.specs.Fmt.{decimal, digits}
use Rattle.std.specs.List.{list_all, slice_range}
use Rattle.std.specs.Prelude.{codes}
use Rattle.std.specs.Str.{bytes_eq, IsAscii}
use Rattle.std.proofs.lemmas.Bool.{agree_below_at, and_parts}
use Rattle.std.proofs.lemmas.Bool.Decides.{nat_tests}
use Rattle.std.proofs.lemmas.Slice.Eq.{bytes_eq-Decides}
use Rattle.std.proofs.lemmas.Str.Ascii.{IsAscii-nil, IsAscii-cons}

abbrev pub pair_codes : List ℕ
pair_codes =
    codes "00010203040506070809101112131415161718192021222324252627282930313233343536373839404142434445464748495051525354555657585960616263646566676869707172737475767778798081828384858687888990919293949596979899"

ascii_from_test : (bs : List ℕ) → list_all (λ b. nat_lt b 128) bs ≡ true → IsAscii bs
ascii_from_test [] h = IsAscii-nil
ascii_from_test (b ∷ bs) h =
    let (here, more) = and_parts (nat_lt b 128) (list_all (λ b. nat_lt b 128) bs) h in
    let small : b < 128 = grind (arith, nat_tests) in
    IsAscii-cons b bs small (ascii_from_test bs more)

pub pairs_are_ascii : IsAscii pair_codes
pairs_are_ascii = ascii_from_test pair_codes refl

pub one_digit_is : (n : ℕ) → n < 10 → slice_range pair_codes (2 * n + 1) (2 * n + 2) ≡ decimal n
unfolding digits
one_digit_is n small =
    (bytes_eq-Decides (slice_range pair_codes (2 * n + 1) (2 * n + 2)) (decimal n)).0
    (agree_below_at (λ n. bytes_eq (slice_range pair_codes (2 * n + 1) (2 * n + 2)) (decimal n)) (λ _. true) 10 n refl small)

tens : (k : ℕ) → k < 90 → slice_range pair_codes (2 * (10 + k)) (2 * (10 + k) + 2) ≡ decimal (10 + k)
unfolding digits
tens k small =
    (bytes_eq-Decides (slice_range pair_codes (2 * (10 + k)) (2 * (10 + k) + 2)) (decimal (10 + k))).0
    (agree_below_at (λ k. bytes_eq (slice_range pair_codes (2 * (10 + k)) (2 * (10 + k) + 2)) (decimal (10 + k))) (λ _. true) 90 k refl small)

pub two_digits_are : (n : ℕ) → 10 ≤ n → n < 100 → slice_range pair_codes (2 * n) (2 * n + 2) ≡ decimal n
two_digits_are n low high =
    subst (λ m. slice_range pair_codes (2 * m) (2 * m + 2) ≡ decimal m) (omega (arith, low)) (tens (n - 10) (omega (arith, low, high)))
