-- The tables of code words and numbers hold what the definitions say. Computed over all their entries.
use Rattle.std.proofs.Common.{◌≡◌, ℕ, ◌<◌, ◌≤◌, Bool, true, refl, leb, eqb, get_or, arith, sym, ◌∙◌, ap, ◌&&◌, ltb, Option, Some, None, ◌||◌, not}
use Rattle.std.proofs.Common.{false, inl, inr, subst, bit_or, ◌/◌, ◌%◌, is_some, List, [], ◌∷◌}
use Rattle.std.proofs.lemmas.Bool.{cases_lt, agree_below, agree_below_at, eqb-true, eq-eqb, leb-true, le-leb, ltb-true, and_parts}
use Rattle.std.proofs.lemmas.Nat.{xor_comm}
use Rattle.std.specs.Int.Bits.{xor_self}
use Rattle.ttx_code.proofs.Choices.{implied}
use Rattle.ttx_code.specs.Words.{ones, distance, hamming_word, Reads, reading, number_of, is_word}
use Rattle.ttx_code.specs.Laws.{WordsHaveNumbers, WordsAreWords, ReadingsAreNumbers, WordsAreReadUnderOneWrongBit, EachByteIsNearItself}
use Rattle.ttx_code.specs.declared.hamming.TheConstants.{WORDS, PAIRS, NUMBERS, ARE_WORDS}

pub word_at : (n : ℕ) → n < 16 → get_or WORDS n 0 ≡ hamming_word n
unfolding hamming_word
word_at n l = eqb-true _ _ (agree_below_at (λ n. eqb (get_or WORDS n 0) (hamming_word n)) (λ _. true) 16 n refl l)

abbrev is_pair : List ℕ → List ℕ → Bool
is_pair [] ys = false
is_pair (x ∷ []) ys = false
is_pair (x0 ∷ x1 ∷ []) [] = false
is_pair (x0 ∷ x1 ∷ []) (y0 ∷ []) = false
is_pair (x0 ∷ x1 ∷ []) (y0 ∷ y1 ∷ []) = eqb x0 y0 && eqb x1 y1
is_pair (x0 ∷ x1 ∷ []) (y0 ∷ y1 ∷ y2 ∷ ys) = false
is_pair (x0 ∷ x1 ∷ x2 ∷ xs) ys = false

from_is_pair : (xs : List ℕ) (y0 y1 : ℕ) → is_pair xs (y0 ∷ y1 ∷ []) ≡ true → xs ≡ y0 ∷ y1 ∷ []
from_is_pair [] y0 y1 e = cc
from_is_pair (x ∷ []) y0 y1 e = cc
from_is_pair (x0 ∷ x1 ∷ []) y0 y1 e =
    let parts = and_parts (eqb x0 y0) (eqb x1 y1) e in
    λ i. eqb-true x0 y0 parts.0 i ∷ eqb-true x1 y1 parts.1 i ∷ []
from_is_pair (x0 ∷ x1 ∷ x2 ∷ xs) y0 y1 e = cc

pairs_table : agree_below (λ b. is_pair (get_or PAIRS b []) (hamming_word (b % 16) ∷ hamming_word (b / 16) ∷ [])) (λ _. true) 256 ≡ true
unfolding hamming_word
pairs_table = refl

pub pair_at : (b : ℕ) → b < 256 → get_or PAIRS b [] ≡ hamming_word (b % 16) ∷ hamming_word (b / 16) ∷ []
pair_at b l = from_is_pair _ _ _
    (agree_below_at (λ b. is_pair (get_or PAIRS b []) (hamming_word (b % 16) ∷ hamming_word (b / 16) ∷ [])) (λ _. true) 256 b pairs_table l)

-- each byte is at most one bit from the code word of exactly the number that the table gives for it
pub near : ℕ → ℕ → Bool
near b n = leb (distance b (hamming_word n)) 1

pub agrees : ℕ → Bool
agrees b = agree_below (near b) (λ n. eqb (get_or NUMBERS b 0) n) 16

pub all_agree : agree_below agrees (λ _. true) 256 ≡ true
unfolding agrees near ones distance hamming_word
all_agree = refl

pub near_exactly : (b n : ℕ) → b < 256 → n < 16 → leb (distance b (hamming_word n)) 1 ≡ eqb (get_or NUMBERS b 0) n
unfolding near agrees
near_exactly b n lb ln = agree_below_at (near b) (λ n. eqb (get_or NUMBERS b 0) n) 16 n (agree_below_at agrees (λ _. true) 256 b all_agree lb) ln

-- a byte reads as the number in the table
pub number_from_Reads : (b n : ℕ) → b < 256 → Reads b n → get_or NUMBERS b 0 ≡ n
number_from_Reads b n lb r = eqb-true _ _ (sym (near_exactly b n lb r.number) ∙ le-leb _ _ r.near)

-- a byte reads as the number in the table, if that is one
pub Reads-at_number : (b n : ℕ) → b < 256 → n < 16 → get_or NUMBERS b 0 ≡ n → Reads b n
Reads-at_number b n lb ln e = record { number = ln; near = leb-true _ _ (near_exactly b n lb ln ∙ eq-eqb _ _ e) }

-- ---- readings as a function

abbrev pub same_reading : Option ℕ → ℕ → Bool
same_reading None t = eqb t 16
same_reading (Some n) t = eqb n t && ltb t 16

pub readings : agree_below (λ b. same_reading (reading b) (get_or NUMBERS b 0)) (λ _. true) 256 ≡ true
unfolding reading ones distance hamming_word
readings = refl

pub from_same_reading : (o : Option ℕ) (t : ℕ) → same_reading o t ≡ true → (t < 16 → Some t ≡ o) × (16 ≤ t → None ≡ o)
from_same_reading None t e = let at : t ≡ 16 = eqb-true _ _ e in (λ l. absurd (omega arith), λ _. refl)
from_same_reading (Some n) t e =
    let parts = and_parts (eqb n t) (ltb t 16) e in
    let at : n ≡ t = eqb-true _ _ parts.0 in
    let low : t < 16 = ltb-true _ _ parts.1 in
    (λ _. ap Some (sym at), λ h. absurd (omega arith))

pub reading_by_table : (b t : ℕ) → b < 256 → get_or NUMBERS b 0 ≡ t → (t < 16 → Some t ≡ reading b) × (16 ≤ t → None ≡ reading b)
reading_by_table b t l e = from_same_reading (reading b) t
    (ap (same_reading (reading b)) (sym e)
    ∙ agree_below_at (λ b. same_reading (reading b) (get_or NUMBERS b 0)) (λ _. true) 256 b readings l)

---- code words

pub near_itself : agree_below (λ n. leb (distance (hamming_word n) (hamming_word n)) 1) (λ _. true) 16 ≡ true
unfolding ones distance hamming_word
near_itself = refl

pub Reads-word : (b n : ℕ) → n < 16 → b ≡ hamming_word n → Reads b n
Reads-word b n l e = record {
  number = l;
  near = rw e
      (leb-true _ _ (agree_below_at (λ n. leb (distance (hamming_word n) (hamming_word n)) 1) (λ _. true) 16 n near_itself l));
}

---- readings and code words

pub reading-from_Reads : (b n : ℕ) → b < 256 → Reads b n → reading b ≡ Some n
reading-from_Reads b n l r = sym ((reading_by_table b n l (number_from_Reads b n l r)).0 r.number)

pub words_are_bytes : agree_below (λ n. ltb (hamming_word n) 256) (λ _. true) 16 ≡ true
unfolding hamming_word
words_are_bytes = refl

pub hamming_word-lt : (n : ℕ) → n < 16 → hamming_word n < 256
hamming_word-lt n l = ltb-true _ _ (agree_below_at (λ n. ltb (hamming_word n) 256) (λ _. true) 16 n words_are_bytes l)

-- a code word reads as its number
pub reading-word : (n : ℕ) → n < 16 → reading (hamming_word n) ≡ Some n
reading-word n l = reading-from_Reads (hamming_word n) n (hamming_word-lt n l) (Reads-word (hamming_word n) n l refl)

-- ---- one wrong bit

abbrev pub is_reading : Option ℕ → ℕ → Bool
is_reading None n = false
is_reading (Some m) n = eqb m n

from_is_reading : (o : Option ℕ) (n : ℕ) → is_reading o n ≡ true → o ≡ Some n
from_is_reading None n e = cc
from_is_reading (Some m) n e = ap Some (eqb-true m n e)

abbrev pub word_has_number : ℕ → Bool
word_has_number b = not (is_word b) || (is_reading (reading b) (number_of b) && ltb (number_of b) 16)

pub words_have_numbers_table : agree_below word_has_number (λ _. true) 256 ≡ true
unfolding reading ones distance hamming_word
words_have_numbers_table = refl

pub words_have_numbers : WordsHaveNumbers
words_have_numbers b l w =
    let parts = and_parts _ _ (implied _ _ (agree_below_at word_has_number (λ _. true) 256 b words_have_numbers_table l) w) in
    (from_is_reading _ _ parts.0, ltb-true _ _ parts.1, sym (eqb-true _ _ w))

-- the table of code words
words_by_table : agree_below (λ b. get_or ARE_WORDS b false) is_word 256 ≡ true
unfolding reading ones distance hamming_word
words_by_table = refl

pub is_word_by_table : (b : ℕ) → b < 256 → get_or ARE_WORDS b false ≡ is_word b
is_word_by_table b l = agree_below_at (λ b. get_or ARE_WORDS b false) is_word 256 b words_by_table l

pub words_are_words_table : agree_below (λ n. is_word (hamming_word n)) (λ _. true) 16 ≡ true
unfolding reading ones distance hamming_word
words_are_words_table = refl

pub words_are_words : WordsAreWords
words_are_words n l = agree_below_at (λ n. is_word (hamming_word n)) (λ _. true) 16 n words_are_words_table l

pub readings_are_numbers : ReadingsAreNumbers
readings_are_numbers b n l e = go (get_or NUMBERS b 0) (reading_by_table b _ l refl)
  where
    go : (t : ℕ) → (t < 16 → Some t ≡ reading b) × (16 ≤ t → None ≡ reading b) → n < 16
    go t k = elim (cases_lt t 16) as (λ _. n < 16) [
      | inl low ↦ let same : Some t ≡ Some n = k.0 low ∙ e in let at : t ≡ n = cc in omega (arith, low)
      | inr high ↦ let same : None ≡ Some n = k.1 high ∙ e in cc
    ]

pub words_are_read_under_one_wrong_bit : WordsAreReadUnderOneWrongBit
unfolding distance
words_are_read_under_one_wrong_bit sent received ls lr w wrong =
    let k = words_have_numbers sent ls w in
    let close : distance received (hamming_word (number_of sent)) ≤ 1 =
    subst (λ x. distance received x ≤ 1) k.2 (subst (λ x. ones x ≤ 1) (xor_comm sent received) wrong) in
    reading-from_Reads received (number_of sent) lr (record { number = k.1; near = close }) ∙ sym k.0

pub each_byte_is_near_itself : EachByteIsNearItself
unfolding distance ones
each_byte_is_near_itself b = rw (xor_self b) (omega arith)

-- ---- the table without its marks, and the marks alone

numbers_table : agree_below (λ b. eqb (get_or NUMBERS b 0 % 16) (number_of b)) (λ _. true) 256 ≡ true
unfolding reading ones distance hamming_word
numbers_table = refl

pub number_by_table : (b : ℕ) → b < 256 → get_or NUMBERS b 0 % 16 ≡ number_of b
number_by_table b l = eqb-true _ _ (agree_below_at (λ b. eqb (get_or NUMBERS b 0 % 16) (number_of b)) (λ _. true) 256 b numbers_table l)

marks_table : agree_below (λ b. ltb (get_or NUMBERS b 0) 16) (λ b. is_some (reading b)) 256 ≡ true
unfolding reading ones distance hamming_word
marks_table = refl

entries_table : agree_below (λ b. ltb (get_or NUMBERS b 0) 32) (λ _. true) 256 ≡ true
entries_table = refl

unions : agree_below (λ a. agree_below (λ b. ltb (bit_or a b) 16) (λ b. ltb a 16 && ltb b 16) 32) (λ _. true) 256 ≡ true
unions = refl

-- a union has no mark exactly if neither part has one
pub no_mark : (a b : ℕ) → a < 256 → b < 256 → ltb (bit_or a (get_or NUMBERS b 0)) 16 ≡ (ltb a 16 && is_some (reading b))
no_mark a b la lb =
    let entry = get_or NUMBERS b 0 in
    let low : entry < 32 = ltb-true _ _ (agree_below_at (λ b. ltb (get_or NUMBERS b 0) 32) (λ _. true) 256 b entries_table lb) in
    agree_below_at (λ e. ltb (bit_or a e) 16) (λ e. ltb a 16 && ltb e 16) 32 entry
    (agree_below_at (λ a. agree_below (λ b. ltb (bit_or a b) 16) (λ b. ltb a 16 && ltb b 16) 32) (λ _. true) 256 a unions la) low
    ∙ ap (λ t. ltb a 16 && t) (agree_below_at (λ b. ltb (get_or NUMBERS b 0) 16) (λ b. is_some (reading b)) 256 b marks_table lb)
