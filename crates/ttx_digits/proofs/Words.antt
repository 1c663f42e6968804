-- The numbers that words of digits stand for, and the digits in the word of an id.
use Rattle.std.proofs.Common.{◌≡◌, ℕ, zero, suc, ◌^◌, ◌<◌, ◌≤◌, Bool, true, false, ◌&&◌, ◌++◌, List, [], ◌∷◌, length}
use Rattle.std.proofs.Common.{◌==◌, ◌+◌, ◌-◌, ◌*◌, slice_index, Some, None, if◌then◌else◌, refl, sym, ap, ◌∙◌, inl, inr, arith}
use Rattle.std.proofs.lemmas.Bool.{and_from, and_parts, cases_Bool}
use Rattle.std.proofs.lemmas.Option.{cond_some}
use Rattle.std.proofs.lemmas.Bool.Decides.{nat_tests}
use Rattle.ttx_header.specs.Ids.{id_at}
use Rattle.ttx_digits.specs.Digits.{decimal_after, is_between, is_hex, hex_value, hex_in, hex_pair, joined_digits, two_digits, four_digits}
use Rattle.ttx_digits.specs.PageIds.{is_id_word, id_in_word}

power_le : (i : ℕ) → i < 7 → 10 ^ i ≤ 1000000
power_le zero lt = omega arith
power_le (suc zero) lt = omega arith
power_le (suc (suc zero)) lt = omega arith
power_le (suc (suc (suc zero))) lt = omega arith
power_le (suc (suc (suc (suc zero)))) lt = omega arith
power_le (suc (suc (suc (suc (suc zero))))) lt = omega arith
power_le (suc (suc (suc (suc (suc (suc zero)))))) lt = omega arith
power_le (suc (suc (suc (suc (suc (suc (suc i))))))) lt = absurd (omega arith)

-- ten times a number of fewer than seven digits, plus a digit, has at most seven digits
pub number_fits : (n i : ℕ) → n < 10 ^ i → i < 7 → n < 1000000
number_fits n i small lt = let p = power_le i lt in omega arith

-- one digit more
pub decimal_after_push : (n : ℕ) (digits : List ℕ) (digit : ℕ) →
    decimal_after n (digits ++ digit ∷ []) ≡ 10 * decimal_after n digits + (digit - 48)
decimal_after_push n [] digit = refl
decimal_after_push n (first ∷ digits) digit = decimal_after_push (10 * n + (first - 48)) digits digit

pub record IdWord (word : List ℕ) : Type 0 where
  pub magazine : is_between 49 56 (slice_index word 0) ≡ true
  pub tens : is_hex (slice_index word 1) ≡ true
  pub units : is_hex (slice_index word 2) ≡ true
  pub first : is_hex (slice_index word 4) ≡ true
  pub second : is_hex (slice_index word 5) ≡ true
  pub third : is_hex (slice_index word 6) ≡ true
  pub fourth : is_hex (slice_index word 7) ≡ true
  pub length : (length word == 8) ≡ true
  pub stroke : (slice_index word 3 == 47) ≡ true

all_nine : (a b c d e f g h i : Bool) → (a && b && c && d && e && f && g && h && i) ≡ true →
    record { a : a ≡ true; b : b ≡ true; c : c ≡ true; d : d ≡ true; e : e ≡ true; f : f ≡ true; g : g ≡ true; h : h ≡ true; i : i ≡ true }
all_nine a b c d e f g h i all =
    let eight = (and_parts (a && b && c && d && e && f && g && h) i all).0 in
    let seven = (and_parts (a && b && c && d && e && f && g) h eight).0 in
    let six = (and_parts (a && b && c && d && e && f) g seven).0 in
    let five = (and_parts (a && b && c && d && e) f six).0 in
    let four = (and_parts (a && b && c && d) e five).0 in
    let three = (and_parts (a && b && c) d four).0 in
    let two = (and_parts (a && b) c three).0 in
    record {
      a = (and_parts a b two).0;
      b = (and_parts a b two).1;
      c = (and_parts (a && b) c three).1;
      d = (and_parts (a && b && c) d four).1;
      e = (and_parts (a && b && c && d) e five).1;
      f = (and_parts (a && b && c && d && e) f six).1;
      g = (and_parts (a && b && c && d && e && f) g seven).1;
      h = (and_parts (a && b && c && d && e && f && g) h eight).1;
      i = (and_parts (a && b && c && d && e && f && g && h) i all).1;
    }

-- the digits of the word of an id
pub id_word : (word : List ℕ) → is_id_word word ≡ true → IdWord word
id_word word is =
    let all = all_nine (length word == 8) (is_between 49 56 (slice_index word 0)) (is_hex (slice_index word 1))
    (is_hex (slice_index word 2)) (slice_index word 3 == 47)
    (is_hex (slice_index word 4)) (is_hex (slice_index word 5)) (is_hex (slice_index word 6)) (is_hex (slice_index word 7)) is in
    record {
      magazine = all.b;
      tens = all.c;
      units = all.d;
      first = all.f;
      second = all.g;
      third = all.h;
      fourth = all.i;
      length = all.a;
      stroke = all.e;
    }

-- the magazine of an id is a digit
pub magazine_digit : (word : List ℕ) → is_id_word word ≡ true → 48 ≤ slice_index word 0
magazine_digit word is = let here = (id_word word is).magazine in grind (arith, nat_tests)

-- a word that is not an id
pub no_id : (word : List ℕ) → (is_id_word word ≡ true → ⊥) → None ≡ id_in_word word
no_id word is_none = elim (cases_Bool (is_id_word word)) [
  | inl is ↦ absurd (is_none is)
  | inr other ↦ rw other refl
]

both : (weight x y : ℕ) (a b : Bool) → joined_digits weight (if a then Some x else None) (if b then Some y else None)
    ≡ (if a && b then Some (weight * x + y) else None)
both weight x y true true = refl
both weight x y true false = refl
both weight x y false b = refl

-- two hexadecimal digits, from the tests of each
pub two_by_tests : (text : List ℕ) (at : ℕ) → two_digits text at
    ≡ (if is_hex (slice_index text at) && is_hex (slice_index text (at + 1)) then Some (hex_pair text at) else None)
unfolding two_digits hex_in
two_by_tests text at = both 16 (hex_value (slice_index text at)) (hex_value (slice_index text (at + 1))) (is_hex (slice_index text at))
    (is_hex (slice_index text (at + 1)))

-- four hexadecimal digits, from the tests of each
pub four_by_tests : (text : List ℕ) (at : ℕ) → four_digits text at ≡
    (if (is_hex (slice_index text at) && is_hex (slice_index text (at + 1)))
    && (is_hex (slice_index text (at + 2)) && is_hex (slice_index text (at + 2 + 1)))
    then Some (256 * hex_pair text at + hex_pair text (at + 2)) else None)
unfolding four_digits
four_by_tests text at = ap (λ high. joined_digits 256 high (two_digits text (at + 2))) (two_by_tests text at)
    ∙ ap (λ low. joined_digits 256
    (if is_hex (slice_index text at) && is_hex (slice_index text (at + 1)) then Some (hex_pair text at) else None) low)
    (two_by_tests text (at + 2))
    ∙ both 256 (hex_pair text at) (hex_pair text (at + 2)) (is_hex (slice_index text at) && is_hex (slice_index text (at + 1)))
    (is_hex (slice_index text (at + 2)) && is_hex (slice_index text (at + 2 + 1)))

-- the number in the four digits of the word of an id
pub four_of_id : (word : List ℕ) → is_id_word word ≡ true → four_digits word 4 ≡ Some (256 * hex_pair word 4 + hex_pair word 6)
four_of_id word is = let parts = id_word word is in four_by_tests word 4 ∙ rw (parts.first, parts.second, parts.third, parts.fourth) refl

pub nine : (a b c d e f g h i : Bool) → a ≡ true → b ≡ true → c ≡ true → d ≡ true → e ≡ true → f ≡ true → g ≡ true → h ≡ true → i
    ≡ true → (a && b && c && d && e && f && g && h && i) ≡ true
nine a b c d e f g h i pa pb pc pd pe pf pg ph pi =
    and_from (a && b && c && d && e && f && g && h) i
    (and_from (a && b && c && d && e && f && g) h (and_from (a && b && c && d && e && f) g (and_from (a && b && c && d && e) f
    (and_from (a && b && c && d) e (and_from (a && b && c) d (and_from (a && b) c (and_from a b pa pb) pc) pd) pe) pf) pg) ph) pi

-- the id of a word, from its digits
pub id_of_digits : (word : List ℕ) (page sub : ℕ) → (length word == 8) ≡ true → is_between 49 56 (slice_index word 0) ≡ true →
    (slice_index word 3 == 47) ≡ true → Some page ≡ two_digits word 1 → Some sub ≡ four_digits word 4 →
    Some (id_at (slice_index word 0 - 48) page sub) ≡ id_in_word word
id_of_digits word page sub long magazine stroke page_is sub_is =
    let two = cond_some (is_hex (slice_index word 1) && is_hex (slice_index word 2)) (hex_pair word 1) page (sym (page_is ∙ two_by_tests word 1)) in
    let four = cond_some ((is_hex (slice_index word 4) && is_hex (slice_index word 5))
    && (is_hex (slice_index word 6) && is_hex (slice_index word 7))) (256 * hex_pair word 4 + hex_pair word 6) sub
    (sym (sub_is ∙ four_by_tests word 4)) in
    let high = (and_parts _ _ four.0).0 in
    let low = (and_parts _ _ four.0).1 in
    let is : is_id_word word ≡ true = nine (length word == 8) (is_between 49 56 (slice_index word 0)) (is_hex (slice_index word 1))
    (is_hex (slice_index word 2)) (slice_index word 3 == 47)
    (is_hex (slice_index word 4)) (is_hex (slice_index word 5)) (is_hex (slice_index word 6)) (is_hex (slice_index word 7))
    long magazine ((and_parts _ _ two.0).0) ((and_parts _ _ two.0).1) stroke ((and_parts _ _ high).0) ((and_parts _ _ high).1)
    ((and_parts _ _ low).0) ((and_parts _ _ low).1) in
    rw is (ap (λ p. Some (id_at (slice_index word 0 - 48) p sub)) (sym two.1)
    ∙ ap (λ s. Some (id_at (slice_index word 0 - 48) (hex_pair word 1) s)) (sym four.1))
