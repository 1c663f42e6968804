-- Parts of a packet, byte by byte.
use Rattle.std.proofs.Common.{◌≡◌, ℕ, zero, suc, ◌+◌, ◌-◌, ◌<◌, ◌≤◌, Bool, true, false, ◌&&◌, List, [], ◌∷◌, ◌++◌, Option, Some, None, is_some}
use Rattle.std.proofs.Common.{length, get_or, drop, map, refl, ap, subst, ◌∙◌, arith, slice_index, slice_range}
use Rattle.std.specs.List.{list_all}
use Rattle.std.specs.Prelude.{unwrap_or}
use Rattle.std.proofs.lemmas.Bool.{and_parts}
use Rattle.std.proofs.lemmas.List.{get_or-take, get_or-drop, length-take-le, length-drop}
use Rattle.std.proofs.lemmas.List.Sums.{list_all-from_AllPass}
use Rattle.ttx_code.specs.Words.{reading, hamming_word, is_word}
use Rattle.ttx_code.specs.Laws.{ReadingsAreNumbers, WordsAreReadUnderOneWrongBit, WordsAreRead, WordsAreWords}
use Rattle.ttx_packet.specs.Slots.{are_words}
use Rattle.ttx_header.specs.Headers.{ReadsFrom}
use Rattle.ttx_header.specs.Laws.{WordsAreKept, AreNumbers, ReadBytesAreReadable, ReadableBytesHaveNumbers, ReadNumbersAreNumbers}
use Rattle.ttx_header.specs.Laws.{WrittenWordsAreRead}

pub at_range : (s : List ℕ) (a b k : ℕ) (d : ℕ) → k < b - a → get_or (slice_range s a b) k d ≡ get_or s (a + k) d
at_range s a b k d l = get_or-take (b - a) (drop a s) k d l ∙ get_or-drop a s k d

pub length_range : (s : List ℕ) (a b : ℕ) → b ≤ length s → a ≤ b → length (slice_range s a b) ≡ b - a
length_range s a b l m = length-take-le (b - a) (drop a s) (omega (arith, length-drop a s))

-- a test that all elements pass is passed by the element at k
pub passes_at : (test : ℕ → Bool) (xs : List ℕ) (k : ℕ) → list_all test xs ≡ true → k < length xs → test (get_or xs k 0) ≡ true
passes_at test [] k h l = absurd (omega arith)
passes_at test (x ∷ xs) zero h l = (and_parts (test x) (list_all test xs) h).0
passes_at test (x ∷ xs) (suc k) h l = passes_at test xs k (and_parts (test x) (list_all test xs) h).1 (omega arith)

-- a test that all bytes of a part pass is passed by each
pub passes_in : (test : ℕ → Bool) (s : List ℕ) (a b x : ℕ) → b ≤ length s → list_all test (slice_range s a b) ≡ true → a ≤ x → x < b →
    test (slice_index s x) ≡ true
passes_in test s a b x l h low high =
    let inside : x - a < length (slice_range s a b) = omega (arith, length_range s a b l (omega arith)) in
    let there : get_or (slice_range s a b) (x - a) 0 ≡ get_or s x 0 =
    at_range s a b (x - a) 0 (omega arith) ∙ ap (λ k. get_or s k 0) (let e : a + (x - a) ≡ x = omega arith in e) in
    subst (λ y. test y ≡ true) there (passes_at test (slice_range s a b) (x - a) h inside)

module _ (corrected : WordsAreReadUnderOneWrongBit) where
  pub words_are_kept : WordsAreKept
  words_are_kept sent received from to s r l words near x low high =
      corrected _ _ (s.bytes x) (r.bytes x) (passes_in is_word sent from to x (omega (arith, s.size)) words low high) (near x low high)

-- ---- bytes that read as numbers

pub reads_at : (s : List ℕ) (k : ℕ) (ns : List ℕ) → ReadsFrom k s ns → (i : ℕ) → i < length ns → reading (slice_index s (k + i))
    ≡ Some (slice_index ns i)
reads_at s k [] r i l = absurd (omega arith)
reads_at s k (n ∷ ns) r zero l = subst (λ j. reading (slice_index s j) ≡ Some n) (let e : k ≡ k + 0 = omega arith in e) r.0
reads_at s k (n ∷ ns) r (suc i) l =
    subst (λ j. reading (slice_index s j) ≡ Some (slice_index ns i)) (let e : k + 1 + i ≡ k + suc i = omega arith in e)
    (reads_at s (k + 1) ns r.1 i (omega arith))

pub read_bytes_are_readable : ReadBytesAreReadable
read_bytes_are_readable s k ns l r =
    list_all-from_AllPass (λ b. is_some (reading b)) (slice_range s k (k + length ns)) (λ i d m.
    let long : length (slice_range s k (k + length ns)) ≡ length ns = length_range s k (k + length ns) l (omega arith) ∙ omega arith in
    let inside : k + i < length s = omega (arith, long, m) in
    let there : get_or (slice_range s k (k + length ns)) i d ≡ get_or s (k + i) 0 =
    at_range s k (k + length ns) i d (omega (arith, long, m)) ∙ get_or_any s (k + i) d 0 inside in
    ap (λ b. is_some (reading b)) there ∙ ap is_some (reads_at s k ns r i (omega (arith, long, m))))
  where
    get_or_any : (xs : List ℕ) (i d e : ℕ) → i < length xs → get_or xs i d ≡ get_or xs i e
    get_or_any [] i d e l = absurd (omega arith)
    get_or_any (x ∷ xs) zero d e l = refl
    get_or_any (x ∷ xs) (suc i) d e l = get_or_any xs i d e (omega arith)

pub read_numbers_are_numbers : ReadNumbersAreNumbers
read_numbers_are_numbers s k ns r i l = ap (λ o. unwrap_or o 0) (reads_at s k ns r i l)

-- ---- readable bytes

pub some_of : (o : Option ℕ) → is_some o ≡ true → o ≡ Some (unwrap_or o 0)
some_of None e = cc
some_of (Some n) e = refl

module _ (small : ReadingsAreNumbers) where
  pub readable_bytes_have_numbers : ReadableBytesHaveNumbers
  readable_bytes_have_numbers s from to is l readable x low high =
      let read = some_of (reading (slice_index s x)) (passes_in (λ b. is_some (reading b)) s from to x (omega (arith, is.size)) readable low high) in
      (read, small (slice_index s x) _ (is.bytes x) read)

-- ---- written words

at_end : (before : List ℕ) (x : ℕ) (after : List ℕ) → slice_index (before ++ (x ∷ after)) (length before) ≡ x
at_end [] x after = refl
at_end (y ∷ before) x after = at_end before x after

next : (before : List ℕ) (x : ℕ) (after : List ℕ) → (before ++ x ∷ []) ++ after ≡ before ++ (x ∷ after)
next [] x after = refl
next (y ∷ before) x after = ap (λ xs. y ∷ xs) (next before x after)

length_next : (before : List ℕ) (x : ℕ) → length (before ++ x ∷ []) ≡ length before + 1
length_next [] x = refl
length_next (y ∷ before) x = omega (arith, length_next before x)

module _ (read : WordsAreRead) (words : WordsAreWords) where
  read_words : (before ns after : List ℕ) → AreNumbers ns → ReadsFrom (length before) (before ++ (map hamming_word ns ++ after)) ns
  read_words before [] after small = tt
  read_words before (n ∷ ns) after small = (
    ap reading (at_end before (hamming_word n) (map hamming_word ns ++ after)) ∙ read n small.0,
    subst (λ s. ReadsFrom (length before + 1) s ns) (next before (hamming_word n) (map hamming_word ns ++ after))
        (subst (λ k. ReadsFrom k ((before ++ hamming_word n ∷ []) ++ (map hamming_word ns ++ after)) ns) (length_next before (hamming_word n))
        (read_words (before ++ hamming_word n ∷ []) ns after small.1)),
  )

  are_all_words : (ns : List ℕ) → AreNumbers ns → are_words (map hamming_word ns) ≡ true
  are_all_words [] small = refl
  are_all_words (n ∷ ns) small = both (is_word (hamming_word n)) (are_words (map hamming_word ns)) (words n small.0) (are_all_words ns small.1)
    where
      both : (a b : Bool) → a ≡ true → b ≡ true → (a && b) ≡ true
      both true b e f = f
      both false b e f = e

  pub written_words_are_read : WrittenWordsAreRead
  written_words_are_read before ns after small = (read_words before ns after small, are_all_words ns small)
