-- The code words that send a link.
use lib.Pointwise.{pointwise, bytes_decides}
use Rattle.std.proofs.Common.{◌≡◌, ℕ, zero, suc, ◌+◌, ◌-◌, ◌<◌, ◌≤◌, ◌&&◌, ◌↔◌, Bool, true, false, IsTrue, eqb, List, [], ◌∷◌, ◌++◌, Option, Some, is_some}
use Rattle.std.proofs.Common.{length, length-take-le, get_or, take, take-add, take-append-drop, drop, drop-drop, map, refl, sym, ap, subst, ◌∙◌, arith, slice_index, slice_range}
use Rattle.std.specs.List.{list_all}
use Rattle.std.proofs.lemmas.Grind.{same_number_lists}
use Rattle.ttx_code.specs.Words.{reading, hamming_word, is_word}
use Rattle.ttx_code.specs.Laws.{WordsHaveNumbers}
use Rattle.ttx_packet.specs.Slots.{IsSlot, are_readable, are_words}
use Rattle.ttx_header.specs.Headers.{ReadsFrom, number}
use Rattle.ttx_header.specs.Ids.{Id}
use Rattle.ttx_header.specs.Laws.{ReadNumbersAreNumbers, WrittenWordsAreRead}
use Rattle.ttx_links.specs.Sets.{IsLink, SaysLink, link_at, link_bytes, numbers_for}
use Rattle.ttx_links.specs.Laws.{SaidLinkIsRead, ReadLinkIsSaid}
use Rattle.ttx_links.proofs.Receptions.{all_pass, passes_at, at_range, length_range}
use Rattle.ttx_links.proofs.WrittenLinks.{link_is_small, link_written}

mapped : (ns : List ℕ) (i : ℕ) → i < length ns → get_or (map hamming_word ns) i 0 ≡ hamming_word (get_or ns i 0)
mapped [] i l = absurd (omega (arith, l))
mapped (n ∷ ns) zero l = refl
mapped (n ∷ ns) (suc i) l = mapped ns i (omega (arith, l))

length_mapped : (ns : List ℕ) → length (map hamming_word ns) ≡ length ns
length_mapped [] = refl
length_mapped (n ∷ ns) = ap suc (length_mapped ns)

module _ (numbers : WordsHaveNumbers) (s : List ℕ) (k : ℕ) (is : IsSlot s) (inside : k + 6 ≤ 42) where
  long : length (slice_range s k (k + 6)) ≡ 6
  long = length_range s k (k + 6) (omega (arith, is.size, inside)) (omega arith) ∙ (let e : k + 6 - k ≡ 6 = omega arith in e)

  word : are_words (slice_range s k (k + 6)) ≡ true → (i : ℕ) → i < 6 → is_word (slice_index s (k + i)) ≡ true
  word w i l = ap is_word (sym (at_range s k (k + 6) i (omega (arith, l)))) ∙ passes_at is_word (slice_range s k (k + 6)) i w (omega (arith, l, long))

  pub readable : are_words (slice_range s k (k + 6)) ≡ true → are_readable (slice_range s k (k + 6)) ≡ true
  readable w = all_pass (λ b. is_some (reading b)) (slice_range s k (k + 6)) (λ i l.
      ap (λ b. is_some (reading b)) (at_range s k (k + 6) i (omega (arith, l, long)))
      ∙ ap is_some (numbers (slice_index s (k + i)) (is.bytes (k + i)) (word w i (omega (arith, l, long)))).0)

  -- code words that read as these numbers are the code words of these numbers
  pub words_sent : ReadNumbersAreNumbers → (ns : List ℕ) → length ns ≡ 6 → are_words (slice_range s k (k + 6)) ≡ true → ReadsFrom k s ns →
      slice_range s k (k + 6) ≡ map hamming_word ns
  words_sent one_by_one ns six w reads =
      same_number_lists (slice_range s k (k + 6)) (map hamming_word ns) (omega (arith, long, length_mapped ns, six)) (λ i l.
      let low : i < 6 = omega (arith, l, long) in
      let value : number s (k + i) ≡ slice_index ns i = one_by_one s k ns reads i (omega (arith, low, six)) in
      at_range s k (k + 6) i (omega (arith, low)) ∙ (numbers (slice_index s (k + i)) (is.bytes (k + i)) (word w i low)).2
      ∙ ap hamming_word value ∙ sym (mapped ns i (omega (arith, low, six))))

module _ (numbers : WordsHaveNumbers) (written : WrittenWordsAreRead) (one_by_one : ReadNumbersAreNumbers) (said : SaidLinkIsRead) (read : ReadLinkIsSaid) where
  -- six bytes are code words that send a link that leads somewhere exactly if they are the bytes that are written for it
  pub link_sent : (mag : ℕ) (id : Id) (s : List ℕ) (k : ℕ) → IsLink (Some id) → IsSlot s → k + 6 ≤ 42 →
      (slice_range s k (k + 6) ≡ link_bytes mag (Some id)) ↔ ((are_words (slice_range s k (k + 6)) ≡ true) × (link_at mag s k ≡ Some id))
  link_sent mag id s k target is inside = (
    (λ same.
        let rest = drop 6 (drop k s) in
        let six : k + 6 - k ≡ 6 = omega arith in
        let middle : slice_range s k (k + 6) ++ rest ≡ drop k s = ap (λ n. take n (drop k s) ++ rest) six ∙ take-append-drop 6 (drop k s) in
        let whole : take k s ++ (link_bytes mag (Some id) ++ rest) ≡ s =
        ap (λ t. take k s ++ (t ++ rest)) (sym same) ∙ ap (λ t. take k s ++ t) middle ∙ take-append-drop k s in
        let says : SaysLink mag (Some id) s k =
        subst (λ n. SaysLink mag (Some id) s n) (length-take-le k s (omega (arith, is.size, inside)))
        (subst (λ t. SaysLink mag (Some id) t (length (take k s))) whole (link_written written mag (Some id) (take k s) rest target)) in (
          subst (λ t. are_words t ≡ true) (sym same) (written [] (numbers_for mag (Some id)) [] (link_is_small mag (Some id) target)).1,
          (said mag (Some id) s k target says (omega (arith, is.size, inside))).0,
        )),
    (λ (w, e). words_sent numbers s k is inside one_by_one (numbers_for mag (Some id)) refl w
        (subst (λ link. SaysLink mag link s k) e (read mag s k is inside (readable numbers s k is inside w)).1)),
  )

  -- the test of the code runs over these bytes
  pub is_sent : (mag : ℕ) (link : Option Id) (id : Id) (s : List ℕ) (k : ℕ) (r : Bool) (ws : List ℕ) → link ≡ Some id → IsLink link → IsSlot s →
      k + 6 ≤ 42 → ws ≡ link_bytes mag link → r ≡ pointwise eqb (slice_range s k (k + 6)) ws →
      IsTrue r ↔ ((are_words (slice_range s k (k + 6)) ≡ true) × (link_at mag s k ≡ link))
  is_sent mag link id s k r ws leads target is inside written_as equal =
      let here : ws ≡ link_bytes mag (Some id) = written_as ∙ ap (link_bytes mag) leads in
      let sent = link_sent mag id s k (subst IsLink leads target) is inside in
      let tests = bytes_decides (slice_range s k (k + 6)) ws in (
        (λ t. let (w, e) = sent.0 (tests.0 (sym equal ∙ t) ∙ here) in (w, e ∙ sym leads)),
        (λ (w, e). equal ∙ tests.1 (sent.1 (w, e ∙ leads) ∙ sym here)),
      )

-- ---- parts of a packet side by side

and_assoc : (a b c : Bool) → ((a && b) && c) ≡ (a && (b && c))
and_assoc true b c = refl
and_assoc false b c = refl

all_append : (xs ys : List ℕ) → list_all is_word (xs ++ ys) ≡ (list_all is_word xs && list_all is_word ys)
all_append [] ys = refl
all_append (x ∷ xs) ys = ap (λ t. is_word x && t) (all_append xs ys) ∙ sym (and_assoc (is_word x) _ _)

pub words_beside : (s : List ℕ) (a n m : ℕ) → are_words (take (n + m) (drop a s)) ≡ (are_words (take n (drop a s)) && are_words (take m (drop (a + n) s)))
words_beside s a n m =
    ap are_words (take-add n m (drop a s)) ∙ all_append (take n (drop a s)) (take m (drop n (drop a s)))
    ∙ ap (λ t. are_words (take n (drop a s)) && are_words (take m t)) (drop-drop n a s)

and_true : (a : Bool) → (a && true) ≡ a
and_true true = refl
and_true false = refl

single : (xs : List ℕ) → length xs ≡ 1 → are_words xs ≡ is_word (get_or xs 0 0)
single [] l = absurd (omega (arith, l))
single (x ∷ []) l = and_true (is_word x)
single (x ∷ y ∷ ys) l = absurd (omega (arith, l))

pub exact_parts : (s : List ℕ) → IsSlot s → are_words (slice_range s 3 40) ≡ (are_words (slice_range s 3 39) && is_word (slice_index s 39))
exact_parts s is =
    words_beside s 3 36 1
    ∙ ap (λ t. are_words (slice_range s 3 39) && t)
    (single (slice_range s 39 40) (length_range s 39 40 (omega (arith, is.size)) (omega arith)) ∙ ap is_word (at_range s 39 40 0 (omega arith)))

pub six_parts : (s : List ℕ) → are_words (slice_range s 3 39)
    ≡ (are_words (slice_range s 3 9) && (are_words (slice_range s 9 15) && (are_words (slice_range s 15 21)
    && (are_words (slice_range s 21 27) && (are_words (slice_range s 27 33) && are_words (slice_range s 33 39))))))
six_parts s =
    words_beside s 3 6 30
    ∙ ap (λ t. are_words (slice_range s 3 9) && t) (words_beside s 9 6 24
    ∙ ap (λ t. are_words (slice_range s 9 15) && t) (words_beside s 15 6 18
    ∙ ap (λ t. are_words (slice_range s 15 21) && t) (words_beside s 21 6 12 ∙ ap (λ t. are_words (slice_range s 21 27) && t) (words_beside s 27 6 6))))
