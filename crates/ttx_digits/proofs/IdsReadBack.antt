-- Page ids are read as they are written.
use Rattle.std.proofs.Common.{◌≡◌, ℕ, ◌+◌, ◌-◌, ◌*◌, ◌/◌, ◌%◌, ◌<◌, ◌≤◌, ◌==◌, true, ◌++◌, List, [], ◌∷◌, length}
use Rattle.std.proofs.Common.{slice_index, Some, None, nat_le, refl, sym, ap, ◌∙◌, arith, eqb-true}
use Rattle.std.specs.List.{list_all}
use Rattle.std.proofs.lemmas.Bool.{and_from, cond-true}
use Rattle.std.proofs.lemmas.Option.{cond_some}
use Rattle.std.proofs.lemmas.Bool.Decides.{nat_tests}
use Rattle.ttx_header.specs.Ids.{id_at}
use Rattle.ttx_digits.specs.Digits.{hex_byte, hex_digit, hex_pair, hex_value, is_between, is_hex}
use Rattle.ttx_digits.specs.PageIds.{id_in_word, id_text, is_id_word}
use Rattle.ttx_digits.specs.Laws.{WrittenIdsAreRead, ReadIdsAreWritten, IdsHoldNoSeparator}
use Rattle.ttx_digits.proofs.Words.{id_word, magazine_digit, nine}

-- a hexadecimal digit is that of its value
hex_back : (b : ℕ) → is_hex b ≡ true → (hex_digit (hex_value b) ≡ b) × (hex_value b < 16)
hex_back b is = grind (arith, nat_tests)

byte_back : (b c : ℕ) → is_hex b ≡ true → is_hex c ≡ true → hex_byte (16 * hex_value b + hex_value c) ≡ b ∷ c ∷ []
byte_back b c is_b is_c =
    let small = (hex_back c is_c).1 in
    let high : (16 * hex_value b + hex_value c) / 16 ≡ hex_value b = omega arith in
    let low : (16 * hex_value b + hex_value c) % 16 ≡ hex_value c = omega arith in
    ap (λ n. hex_digit n ∷ hex_digit ((16 * hex_value b + hex_value c) % 16) ∷ []) high ∙ ap (λ n. hex_digit (hex_value b) ∷ hex_digit n ∷ []) low
    ∙ ap (λ n. n ∷ hex_digit (hex_value c) ∷ []) (hex_back b is_b).0 ∙ ap (λ n. b ∷ n ∷ []) (hex_back c is_c).0

as_eight : (w : List ℕ) → length w ≡ 8 → w ≡ slice_index w 0 ∷ slice_index w 1 ∷ slice_index w 2 ∷ slice_index w 3 ∷ slice_index w 4
    ∷ slice_index w 5 ∷ slice_index w 6 ∷ slice_index w 7 ∷ []
as_eight [] n = absurd (omega arith)
as_eight (a ∷ []) n = absurd (omega arith)
as_eight (a ∷ b ∷ []) n = absurd (omega arith)
as_eight (a ∷ b ∷ c ∷ []) n = absurd (omega arith)
as_eight (a ∷ b ∷ c ∷ d ∷ []) n = absurd (omega arith)
as_eight (a ∷ b ∷ c ∷ d ∷ e ∷ []) n = absurd (omega arith)
as_eight (a ∷ b ∷ c ∷ d ∷ e ∷ f ∷ []) n = absurd (omega arith)
as_eight (a ∷ b ∷ c ∷ d ∷ e ∷ f ∷ g ∷ []) n = absurd (omega arith)
as_eight (a ∷ b ∷ c ∷ d ∷ e ∷ f ∷ g ∷ h ∷ []) n = refl
as_eight (a ∷ b ∷ c ∷ d ∷ e ∷ f ∷ g ∷ h ∷ i ∷ w) n = absurd (omega arith)

-- a word that is an id is the text of that id
id_word_text : (w : List ℕ) → is_id_word w ≡ true → id_text (id_at (slice_index w 0 - 48) (hex_pair w 1) (256 * hex_pair w 4 + hex_pair w 6)) ≡ w
id_word_text w is =
    let parts = id_word w is in
    let digit = magazine_digit w is in
    let magazine : 48 + (slice_index w 0 - 48) ≡ slice_index w 0 = omega arith in
    let page : hex_byte (hex_pair w 1) ≡ slice_index w 1 ∷ slice_index w 2 ∷ [] =
    byte_back (slice_index w 1) (slice_index w 2) parts.tens parts.units in
    let first = (hex_back (slice_index w 6) parts.third).1 in
    let second = (hex_back (slice_index w 7) parts.fourth).1 in
    let above : (256 * hex_pair w 4 + hex_pair w 6) / 256 ≡ hex_pair w 4 = omega arith in
    let below : (256 * hex_pair w 4 + hex_pair w 6) % 256 ≡ hex_pair w 6 = omega arith in
    let high : hex_byte ((256 * hex_pair w 4 + hex_pair w 6) / 256) ≡ slice_index w 4 ∷ slice_index w 5 ∷ [] = ap hex_byte above
    ∙ byte_back (slice_index w 4) (slice_index w 5) parts.first parts.second in
    let low : hex_byte ((256 * hex_pair w 4 + hex_pair w 6) % 256) ≡ slice_index w 6 ∷ slice_index w 7 ∷ [] = ap hex_byte below
    ∙ byte_back (slice_index w 6) (slice_index w 7) parts.third parts.fourth in
    let stroke : slice_index w 3 ≡ 47 = eqb-true (slice_index w 3) 47 parts.stroke in
    ap (λ m. m ∷ hex_byte (hex_pair w 1) ++ 47 ∷ hex_byte ((256 * hex_pair w 4 + hex_pair w 6) / 256)
    ++ hex_byte ((256 * hex_pair w 4 + hex_pair w 6) % 256)) magazine
    ∙ ap (λ p. slice_index w 0 ∷ p ++ 47 ∷ hex_byte ((256 * hex_pair w 4 + hex_pair w 6) / 256)
    ++ hex_byte ((256 * hex_pair w 4 + hex_pair w 6) % 256)) page
    ∙ ap (λ p. slice_index w 0 ∷ slice_index w 1 ∷ slice_index w 2 ∷ 47 ∷ (p ++ hex_byte ((256 * hex_pair w 4 + hex_pair w 6) % 256))) high
    ∙ ap (λ p. slice_index w 0 ∷ slice_index w 1 ∷ slice_index w 2 ∷ 47 ∷ slice_index w 4 ∷ slice_index w 5 ∷ p) low
    ∙ ap (λ s. slice_index w 0 ∷ slice_index w 1 ∷ slice_index w 2 ∷ s ∷ slice_index w 4 ∷ slice_index w 5 ∷ slice_index w 6
    ∷ slice_index w 7 ∷ []) (sym stroke)
    ∙ sym (as_eight w (eqb-true (length w) 8 parts.length))

pub id_is : ReadIdsAreWritten
id_is word id is =
    let read = cond_some (is_id_word word) (id_at (slice_index word 0 - 48) (hex_pair word 1) (256 * hex_pair word 4 + hex_pair word 6)) id is in
    sym (id_word_text word read.0) ∙ ap id_text read.1

-- the digit of a number below 16
hex_there : (n : ℕ) → n < 16 → (is_hex (hex_digit n) ≡ true) × (hex_value (hex_digit n) ≡ n)
hex_there n small = (is, value)
  where
    is : is_hex (hex_digit n) ≡ true
    is = grind (arith, nat_tests)

    value : hex_value (hex_digit n) ≡ n
    value = grind (arith, nat_tests)

pair_value : (a b : ℕ) → a < 16 → b < 16 → 16 * hex_value (hex_digit a) + hex_value (hex_digit b) ≡ 16 * a + b
pair_value a b pa pb = ap (λ x. 16 * x + hex_value (hex_digit b)) (hex_there a pa).1 ∙ ap (λ x. 16 * a + x) (hex_there b pb).1

abbrev id_word_of : ℕ → ℕ → ℕ → ℕ → ℕ → ℕ → ℕ → List ℕ
id_word_of m a b c d e f = (48 + m) ∷ hex_digit a ∷ hex_digit b ∷ 47 ∷ hex_digit c ∷ hex_digit d ∷ hex_digit e ∷ hex_digit f ∷ []

-- the word made of a magazine and six digits is read as their id
id_word_read : (m a b c d e f : ℕ) → 1 ≤ m → m ≤ 8 → a < 16 → b < 16 → c < 16 → d < 16 → e < 16 → f < 16 →
    id_in_word (id_word_of m a b c d e f) ≡ Some (id_at m (16 * a + b) (256 * (16 * c + d) + (16 * e + f)))
id_word_read m a b c d e f low high pa pb pc pd pe pf =
    let mag : is_between 49 56 (48 + m) ≡ true = grind (arith, nat_tests) in
    let value : (48 + m) - 48 ≡ m = omega arith in
    let is : is_id_word (id_word_of m a b c d e f) ≡ true =
    nine (length (id_word_of m a b c d e f) == 8) (is_between 49 56 (48 + m)) (is_hex (hex_digit a)) (is_hex (hex_digit b))
    (47 == 47) (is_hex (hex_digit c)) (is_hex (hex_digit d)) (is_hex (hex_digit e)) (is_hex (hex_digit f))
    refl mag (hex_there a pa).0 (hex_there b pb).0 refl (hex_there c pc).0 (hex_there d pd).0 (hex_there e pe).0 (hex_there f pf).0 in
    cond-true (is_id_word (id_word_of m a b c d e f))
    (Some (id_at (slice_index (id_word_of m a b c d e f) 0 - 48) (hex_pair (id_word_of m a b c d e f) 1)
    (256 * hex_pair (id_word_of m a b c d e f) 4 + hex_pair (id_word_of m a b c d e f) 6))) None is
    ∙ ap (λ x. Some (id_at x (16 * hex_value (hex_digit a) + hex_value (hex_digit b))
    (256 * (16 * hex_value (hex_digit c) + hex_value (hex_digit d))
    + (16 * hex_value (hex_digit e) + hex_value (hex_digit f))))) value
    ∙ ap (λ x. Some (id_at m x (256 * (16 * hex_value (hex_digit c) + hex_value (hex_digit d))
    + (16 * hex_value (hex_digit e) + hex_value (hex_digit f))))) (pair_value a b pa pb)
    ∙ ap (λ x. Some (id_at m (16 * a + b) (256 * x + (16 * hex_value (hex_digit e) + hex_value (hex_digit f))))) (pair_value c d pc pd)
    ∙ ap (λ x. Some (id_at m (16 * a + b) (256 * (16 * c + d) + x))) (pair_value e f pe pf)

-- the text of an id is read as the id
pub id_read : WrittenIdsAreRead
id_read id is =
    let small : id.page < 256 = is.page in
    let sub : id.sub < 16384 = is.sub.top in
    let a : id.page / 16 < 16 = omega arith in
    let b : id.page % 16 < 16 = omega arith in
    let c : id.sub / 256 / 16 < 16 = omega arith in
    let d : id.sub / 256 % 16 < 16 = omega arith in
    let e : id.sub % 256 / 16 < 16 = omega arith in
    let f : id.sub % 256 % 16 < 16 = omega arith in
    let page : 16 * (id.page / 16) + id.page % 16 ≡ id.page = omega arith in
    let whole : 256 * (16 * (id.sub / 256 / 16) + id.sub / 256 % 16) + (16 * (id.sub % 256 / 16) + id.sub % 256 % 16) ≡ id.sub = omega arith in
    id_word_read id.mag (id.page / 16) (id.page % 16) (id.sub / 256 / 16) (id.sub / 256 % 16) (id.sub % 256 / 16)
    (id.sub % 256 % 16) is.mag_from is.mag_to a b c d e f
    ∙ ap (λ p. Some (id_at id.mag p
    (256 * (16 * (id.sub / 256 / 16) + id.sub / 256 % 16) + (16 * (id.sub % 256 / 16) + id.sub % 256 % 16)))) page
    ∙ ap (λ s. Some (id_at id.mag id.page s)) whole

hex_high : (n : ℕ) → n < 16 → nat_le 47 (hex_digit n) ≡ true
hex_high n small = grind (arith, nat_tests)

high_cons : (x : ℕ) (xs : List ℕ) → nat_le 47 x ≡ true → list_all (nat_le 47) xs ≡ true → list_all (nat_le 47) (x ∷ xs) ≡ true
high_cons x xs p q = and_from (nat_le 47 x) (list_all (nat_le 47) xs) p q

word_high : (m a b c d e f : ℕ) → a < 16 → b < 16 → c < 16 → d < 16 → e < 16 → f < 16 → list_all (nat_le 47) (id_word_of m a b c d e f) ≡ true
word_high m a b c d e f pa pb pc pd pe pf =
    let magazine : nat_le 47 (48 + m) ≡ true = grind (arith, nat_tests) in
    let digits : list_all (nat_le 47) (hex_digit c ∷ hex_digit d ∷ hex_digit e ∷ hex_digit f ∷ []) ≡ true
    = high_cons (hex_digit c) (hex_digit d ∷ hex_digit e ∷ hex_digit f ∷ []) (hex_high c pc)
    (high_cons (hex_digit d) (hex_digit e ∷ hex_digit f ∷ []) (hex_high d pd)
    (high_cons (hex_digit e) (hex_digit f ∷ []) (hex_high e pe) (high_cons (hex_digit f) [] (hex_high f pf) refl))) in
    high_cons (48 + m) (hex_digit a ∷ hex_digit b ∷ 47 ∷ hex_digit c ∷ hex_digit d ∷ hex_digit e ∷ hex_digit f ∷ []) magazine
    (high_cons (hex_digit a) (hex_digit b ∷ 47 ∷ hex_digit c ∷ hex_digit d ∷ hex_digit e ∷ hex_digit f ∷ []) (hex_high a pa)
    (high_cons (hex_digit b) (47 ∷ hex_digit c ∷ hex_digit d ∷ hex_digit e ∷ hex_digit f ∷ []) (hex_high b pb)
    (high_cons 47 (hex_digit c ∷ hex_digit d ∷ hex_digit e ∷ hex_digit f ∷ []) refl digits)))

-- the digits and the slash of an id are not separators
pub ids_free : IdsHoldNoSeparator
ids_free id is =
    let small : id.page < 256 = is.page in
    let sub : id.sub < 16384 = is.sub.top in
    word_high id.mag (id.page / 16) (id.page % 16) (id.sub / 256 / 16) (id.sub / 256 % 16) (id.sub % 256 / 16) (id.sub % 256 % 16)
    (omega arith) (omega arith) (omega arith) (omega arith) (omega arith) (omega arith)
