-- Numbers in the words of a line, from the digits at its start.
use Rattle.std.proofs.Common.{◌≡◌, ℕ, ◌+◌, ◌-◌, ◌<◌, ◌≤◌, ◌==◌, ◌&&◌, ◌||◌, not, Bool, true, false, List, [], ◌∷◌, length, slice_index, take, drop}
use Rattle.std.proofs.Common.{Option, Some, None, option_map, nat_lt, nat_le, refl, sym, ap, ◌∙◌, inl, inr, arith}
use Rattle.std.specs.List.{position, position_or_len}
use Rattle.std.proofs.lemmas.Bool.{cases_Bool, true≢false, and_from, and_parts}
use Rattle.std.proofs.lemmas.Bool.Decides.{nat_tests}
use Rattle.std.proofs.lemmas.List.{length-take, length-take-le, get_or-take, take_all}
use Rattle.std.proofs.lemmas.List.Sums.{position_or_len_is, passes_at_first, AllPass-from_list_all}
use Rattle.ttx_digits.specs.Digits.{are_digits, is_between, is_number, number_in_word, decimal_after}
use Rattle.ttx_certificate.specs.CertificateReading.{words_in}
use Rattle.ttx_certificate.specs.WrittenEntries.{first_number}
use Rattle.ttx_certificate.proofs.TextParts.{cut_at, not_cut}

abbrev is_space : ℕ → Bool
is_space b = b == 32

-- no digit is a space
digit_is_no_space : (text : List ℕ) (n k : ℕ) → are_digits (take n text) ≡ true → n ≤ length text → k < n → is_space (slice_index text k) ≡ false
digit_is_no_space text n k digits within lt =
    let long = length-take n text in
    let here : is_between 48 57 (slice_index (take n text) k) ≡ true = AllPass-from_list_all (is_between 48 57) (take n text) digits k 0 (omega arith) in
    let same : slice_index (take n text) k ≡ slice_index text k = get_or-take n text k 0 lt in
    grind (arith, nat_tests)

-- a word of digits that a space ends
pub word_at_space : (text : List ℕ) (n : ℕ) → are_digits (take n text) ≡ true → n < length text → is_space (slice_index text n) ≡ true →
    words_in text ≡ take n text ∷ words_in (take (length text - (n + 1)) (drop (n + 1) text))
word_at_space text n digits within space =
    let at : position_or_len is_space text ≡ n =
    position_or_len_is is_space text n 0 (omega arith) (λ k lt. digit_is_no_space text n k digits (omega arith) lt) (λ _. space) in
    let test : nat_lt n (length text) ≡ true = grind (arith, nat_tests) in
    (cut_at is_space text n (rw (at, test) refl)).1

-- a word of digits that ends the line
pub word_at_end : (text : List ℕ) (n : ℕ) → are_digits (take n text) ≡ true → n ≡ length text → words_in text ≡ take n text ∷ []
word_at_end text n digits all =
    let at : position_or_len is_space text ≡ length text =
    position_or_len_is is_space text (length text) 0 (omega arith) (λ k lt. digit_is_no_space text n k digits (omega arith) (omega arith))
    (λ lt. absurd (omega arith)) in
    let test : nat_lt (length text) (length text) ≡ false = grind (arith, nat_tests) in
    not_cut is_space text (rw (at, test) refl) ∙ ap (λ word. word ∷ []) (sym (take_all n text (omega arith)))

or_right : (a b : Bool) → b ≡ true → (a || b) ≡ true
or_right true b is = refl
or_right false b is = is

-- one digit has no leading zero
pub one_digit : (n first : ℕ) → n ≡ 1 → (n == 1 || not (first == 48)) ≡ true
one_digit n first one = rw one refl

-- nor have digits after another first one
pub other_first : (n first : ℕ) → (first == 48) ≡ false → (n == 1 || not (first == 48)) ≡ true
other_first n first other = or_right (n == 1) (not (first == 48)) (ap not other)

-- a word of digits is a number, unless it is empty or has a leading zero
pub digits_number : (text : List ℕ) (n : ℕ) → are_digits (take n text) ≡ true → n ≤ length text → 0 < n → n ≤ 7 →
    (n == 1 || not (slice_index text 0 == 48)) ≡ true → number_in_word (take n text) ≡ Some (decimal_after 0 (take n text))
digits_number text n digits within some few zero =
    let long = length-take-le n text within in
    let first : slice_index (take n text) 0 ≡ slice_index text 0 = get_or-take n text 0 0 some in
    let low : nat_le 1 (length (take n text)) ≡ true = rw long (let h : nat_le 1 n ≡ true = grind (arith, nat_tests) in h) in
    let high : nat_le (length (take n text)) 7 ≡ true = rw long (let h : nat_le n 7 ≡ true = grind (arith, nat_tests) in h) in
    let last : (length (take n text) == 1 || not (slice_index (take n text) 0 == 48)) ≡ true = rw (long, first) zero in
    let is : is_number (take n text) ≡ true = and_from _ _ (and_from _ _ (and_from _ _ digits low) high) last in
    rw is refl

pub record IsNumber (word : List ℕ) : Type 0 where
  pub digits : are_digits word ≡ true
  pub low : nat_le 1 (length word) ≡ true
  pub high : nat_le (length word) 7 ≡ true
  pub zero : (length word == 1 || not (slice_index word 0 == 48)) ≡ true

number_parts : (word : List ℕ) → is_number word ≡ true → IsNumber word
number_parts word is =
    let three = and_parts (are_digits word && nat_le 1 (length word) && nat_le (length word) 7) _ is in
    let two = and_parts (are_digits word && nat_le 1 (length word)) (nat_le (length word) 7) three.0 in
    let one = and_parts (are_digits word) (nat_le 1 (length word)) two.0 in
    record { digits = one.0; low = one.1; high = two.1; zero = three.1 }

no_number : (word : List ℕ) → (IsNumber word → ⊥) → number_in_word word ≡ None
no_number word none = elim (cases_Bool (is_number word)) [
  | inl is ↦ absurd (none (number_parts word is))
  | inr other ↦ rw other refl
]

-- a word with another byte after its digits, or with more than seven digits
no_number_at : (word : List ℕ) (n : ℕ) → n < length word → n ≤ 7 → (n < 7 → is_between 48 57 (slice_index word n) ≡ false) → number_in_word word ≡ None
no_number_at word n within few other = no_number word (λ is.
    let high = is.high in
    let below : n < 7 = grind (arith, nat_tests) in
    true≢false (sym (AllPass-from_list_all (is_between 48 57) word is.digits n 0 within) ∙ other below))

-- an empty word
pub no_number_empty : (text : List ℕ) (n : ℕ) → n ≡ 0 → number_in_word (take n text) ≡ None
no_number_empty text n none = rw none refl

-- a leading zero
pub no_number_zero : (text : List ℕ) (n : ℕ) → n ≤ length text → 1 < n → (slice_index text 0 == 48) ≡ true → number_in_word (take n text) ≡ None
no_number_zero text n within more zero = no_number (take n text) (λ is.
    let long = length-take-le n text within in
    let first : slice_index (take n text) 0 ≡ slice_index text 0 = get_or-take n text 0 0 (omega arith) in
    let last : (n == 1 || not (slice_index text 0 == 48)) ≡ true = rw (long, first) at is.zero in
    let one : (n == 1) ≡ false = grind (arith, nat_tests) in
    let not_so : false ≡ true = rw (one, zero) at last in
    true≢false (sym not_so))

-- the first number, by the first word
pub first_of : (words rest : List (List ℕ)) (word : List ℕ) (o : Option ℕ) → words ≡ word ∷ rest → number_in_word word ≡ o →
    first_number words ≡ option_map (λ n. (n, rest)) o
first_of words rest word o is same = ap first_number is ∙ ap (λ x. option_map (λ n. (n, rest)) x) same

-- the first word holds the byte that ends the digits
module _ (text : List ℕ) (n : ℕ) (digits : are_digits (take n text) ≡ true) (few : n ≤ 7) (within : n < length text)
    (space : is_space (slice_index text n) ≡ false) (other : n < 7 → is_between 48 57 (slice_index text n) ≡ false) where
  past : n < position_or_len is_space text
  past = elim (cases_Bool (nat_lt n (position_or_len is_space text))) [
    | inl after ↦ grind (arith, nat_tests)
    | inr before ↦
        let m = position_or_len is_space text in
        let le : m ≤ n = grind (arith, nat_tests) in
        let here : is_space (slice_index text m) ≡ true = passes_at_first is_space text 0 (omega arith) in
        elim (cases_Bool (nat_lt m n)) [
          | inl less ↦
              let lt : m < n = grind (arith, nat_tests) in
              absurd (true≢false (sym here ∙ digit_is_no_space text n m digits (omega arith) lt))
          | inr same ↦
              let eq : m ≡ n = grind (arith, nat_tests) in
              let there : is_space (slice_index text n) ≡ true = rw eq at here in
              absurd (true≢false (sym there ∙ space))
        ]
  ]

  pub other_byte : first_number (words_in text) ≡ None
  other_byte = elim (cases_Bool (nat_lt (position_or_len is_space text) (length text))) [
    | inl some ↦
        let m = position_or_len is_space text in
        let found : position is_space text ≡ Some m = rw some refl in
        let cut = cut_at is_space text m found in
        let long = length-take-le m text (omega arith) in
        let at : slice_index (take m text) n ≡ slice_index text n = get_or-take m text n 0 past in
        first_of (words_in text) _ (take m text) None cut.1 (no_number_at (take m text) n (let p = past in omega arith) few (λ lt. ap (is_between 48 57) at ∙ other lt))
    | inr end ↦
        let found : position is_space text ≡ None = rw end refl in
        first_of (words_in text) [] text None (not_cut is_space text found) (no_number_at text n within few other)
  ]
