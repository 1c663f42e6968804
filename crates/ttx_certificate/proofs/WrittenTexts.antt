-- The text of a certificate is read as the certificate. free s xs: the byte s is not in xs; 10 ends a line, and 32 a word. NAME_free: the text
-- of NAME has neither; NAME_read: it is read back.
use Rattle.std.proofs.Common.{◌≡◌, ℕ, ◌+◌, ◌/◌, ◌%◌, ◌<◌, ◌≤◌, ◌==◌, Bool, true, not, ◌&&◌, ◌++◌, List, [], ◌∷◌}
use Rattle.std.proofs.Common.{map, codes, Option, Some, None, option_map, Ok, Err, if◌then◌else◌, nat_lt, nat_le, refl, sym, ap}
use Rattle.std.proofs.Common.{◌∙◌, arith, append_assoc, append-nil, eq-eqb}
use Rattle.std.proofs.lemmas.Bool.{and_from, not-true}
use Rattle.std.specs.Fmt.{decimal}
use Rattle.std.specs.List.{list_all, onto_first, AllByRecursion}
use Rattle.std.specs.Str.{bytes_eq}
use Rattle.std.proofs.lemmas.Slice.Eq.{bytes_eq-Decides}
use Rattle.std.proofs.lemmas.Bool.Decides.{nat_tests}
use Rattle.std.proofs.lemmas.List.Splits.{slice_split-cons_yes, slice_split-cons_no}
use Rattle.ttx_header.specs.Ids.{Id, IsId}
use Rattle.ttx_page.specs.declared.item.Item.{Item}
use Rattle.ttx_page.specs.declared.item.Item.TheVariants.{Head as TheHead, Row as TheRow, Links as TheLinks}
use Rattle.ttx_page.specs.declared.class.Class.{Class}
use Rattle.ttx_page.specs.declared.class.Class.TheVariants.{Any, Clearing}
use Rattle.ttx_certificate.specs.Entries.{EntryFields, IsEntry, entry_at, CertificateFields, IsCertificateFields, certificate_fields_at, place_of}
use Rattle.ttx_certificate.specs.Entries.{entry_places, is_item, is_page_id, is_above, are_starts, rises, rises_above, are_numbers}
use Rattle.ttx_digits.specs.Digits.{is_between}
use Rattle.ttx_digits.specs.PageIds.{id_text}
use Rattle.ttx_certificate.specs.CertificateTexts.{item_text, starts_text, entry_text, entries_text, class_text, number_text}
use Rattle.ttx_certificate.specs.CertificateTexts.{certificate_text}
use Rattle.ttx_certificate.specs.CertificateReading.{parts_at, lines_in, words_in}
use Rattle.ttx_certificate.specs.CertificateReading.{is_id, is_in_range, is_in_order, item_in}
use Rattle.ttx_certificate.specs.CertificateReading.{before_numbers, numbers_in, starts_in_words, with_starts, with_item, entry_in, read_entry}
use Rattle.ttx_certificate.specs.CertificateReading.{read_entries, ranged, only_number, number_in, line_at, number_line, read_numbers, read_clearing}
use Rattle.ttx_certificate.specs.CertificateReading.{read_class, read_version, read_title, read_text, ◌>>=◌}
use Rattle.ttx_certificate.specs.declared.certificate_faults.CertFault.TheVariants.{Line, Range, Order}
use Rattle.std.proofs.lemmas.Bool.{and_parts, cond-true, cond-false, true≢false}
use Rattle.ttx_certificate.proofs.AcceptedTexts.{item_words, numbers_text, whole}
use Rattle.ttx_digits.specs.Laws.{WrittenIdsAreRead, WrittenNumbersAreRead, IdsHoldNoSeparator, NumbersHoldNoSeparator}
use Rattle.ttx_certificate.proofs.LineShapes.{ended_line, entries_step}

-- no byte of the list is the separator
abbrev free : ℕ → List ℕ → Bool
free separator xs = list_all (λ b. not (b == separator)) xs

free_join : (s : ℕ) (xs ys : List ℕ) → free s xs ≡ true → free s ys ≡ true → free s (xs ++ ys) ≡ true
free_join s [] ys p q = q
free_join s (x ∷ xs) ys p q = and_from (not (x == s)) (free s (xs ++ ys)) ((and_parts (not (x == s)) (free s xs) p).0)
    (free_join s xs ys ((and_parts (not (x == s)) (free s xs) p).1) q)

-- the part before a separator
part_before : (s : ℕ) (xs rest : List ℕ) → free s xs ≡ true → parts_at s (xs ++ (s ∷ rest)) ≡ xs ∷ parts_at s rest
part_before s [] rest p = slice_split-cons_yes (λ b. b == s) s rest (eq-eqb s s refl)
part_before s (x ∷ xs) rest p =
    slice_split-cons_no (λ b. b == s) x (xs ++ (s ∷ rest)) (not-true (x == s) ((and_parts (not (x == s)) (free s xs) p).0))
    ∙ ap (onto_first x) (part_before s xs rest ((and_parts (not (x == s)) (free s xs) p).1))

-- the last part
last_part : (s : ℕ) (xs : List ℕ) → free s xs ≡ true → parts_at s xs ≡ xs ∷ []
last_part s [] p = refl
last_part s (x ∷ xs) p =
    slice_split-cons_no (λ b. b == s) x xs (not-true (x == s) ((and_parts (not (x == s)) (free s xs) p).0))
    ∙ ap (onto_first x) (last_part s xs ((and_parts (not (x == s)) (free s xs) p).1))

-- a separator is below the stroke
low_free : (s : ℕ) (xs : List ℕ) → s < 47 → list_all (nat_le 47) xs ≡ true → free s xs ≡ true
low_free s [] low above = refl
low_free s (x ∷ xs) low above =
    let parts = and_parts (nat_le 47 x) (list_all (nat_le 47) xs) above in
    let first = parts.0 in
    let here : not (x == s) ≡ true = grind (arith, nat_tests) in
    and_from (not (x == s)) (free s xs) here (low_free s xs low parts.1)

abbrev are_small : List ℕ → Bool
are_small ss = list_all (λ s. nat_lt s 65536) ss

-- the first number of a list of small ones
small_first : (s : ℕ) (ss : List ℕ) → are_small (s ∷ ss) ≡ true → s < 10000000
small_first s ss small = let here : nat_lt s 65536 ≡ true = (and_parts (nat_lt s 65536) (are_small ss) small).0 in grind (arith, nat_tests)

row_small : (n : ℕ) → is_item (TheRow n) ≡ true → n < 10000000
row_small n is = grind (arith, nat_tests)

starts_small : (ss : List ℕ) → are_starts ss ≡ true → are_small ss ≡ true
starts_small [] are = refl
starts_small (s ∷ ss) are = (and_parts (are_small (s ∷ ss)) (rises (s ∷ ss)) are).0

id_in_range : (id : Id) → IsId id → is_id id ≡ true
id_in_range id is =
    let low : 1 ≤ id.mag = is.mag_from in let high : id.mag ≤ 8 = is.mag_to in let sub : id.sub < 16384 = is.sub.top in
    let mag : is_between 1 8 id.mag ≡ true = grind (arith, nat_tests) in
    let top : nat_lt id.sub 16384 ≡ true = grind (arith, nat_tests) in
    and_from (is_between 1 8 id.mag && nat_lt id.sub 16384) (id.sub / 128 % 2 == 0)
    (and_from (is_between 1 8 id.mag) (nat_lt id.sub 16384) mag top) (eq-eqb (id.sub / 128 % 2) 0 is.sub.gap)

entry_in_range : (e : EntryFields) → IsEntry e → is_in_range e ≡ true
entry_in_range e is = and_from (is_id e.page && is_page_id e.page && is_item e.item) (are_small e.starts)
    (and_from (is_id e.page && is_page_id e.page) (is_item e.item)
    (and_from (is_id e.page) (is_page_id e.page) (id_in_range e.page is.id) is.page) is.item)
    (starts_small e.starts is.starts)

entry_accepted : (n : ℕ) (low : Option ℕ) (e : EntryFields) → IsEntry e → is_above low (place_of e.page e.item) ≡ true →
    read_entry n low (Some e) ≡ Ok e
entry_accepted n low e is above =
    cond-false (not (is_in_range e)) (Err (Range n)) (if is_in_order low e then Ok e else Err (Order n)) (ap not (entry_in_range e is))
    ∙ cond-true (is_in_order low e) (Ok e) (Err (Order n)) (and_from (are_starts e.starts) (is_above low (place_of e.page e.item)) is.starts above)

pub record Numbers (w : CertificateFields) : Type 0 where
  pub lines : is_between 1 32 w.lines ≡ true
  pub few_lines : w.lines < 10000000
  pub repeat : is_between 1 8 w.repeat ≡ true
  pub few_repeats : w.repeat < 10000000
  pub deadline : is_between 1 1000000 w.deadline ≡ true
  pub few_fields : w.deadline < 10000000

numbers_of : (w : CertificateFields) → are_numbers w.lines w.repeat w.deadline ≡ true → Numbers w
numbers_of w is =
    let a = nat_le 1 w.lines in let b = nat_le w.lines 32 in let c = nat_le 1 w.repeat in let d = nat_le w.repeat 8 in let e =
    nat_le 1 w.deadline in let f = nat_le w.deadline 1000000 in
    let last : nat_le w.deadline 1000000 ≡ true = (and_parts (a && b && c && d && e) f is).1 in
    let five = (and_parts (a && b && c && d && e) f is).0 in
    let four = (and_parts (a && b && c && d) e five).0 in
    let three = (and_parts (a && b && c) d four).0 in
    let two = (and_parts (a && b) c three).0 in
    let eight : nat_le w.repeat 8 ≡ true = (and_parts (a && b && c) d four).1 in
    let most : nat_le w.lines 32 ≡ true = (and_parts a b two).1 in
    record {
      lines = two;
      few_lines = grind (arith, nat_tests);
      repeat = and_from c d ((and_parts (a && b) c three).1) eight;
      few_repeats = grind (arith, nat_tests);
      deadline = and_from e f ((and_parts (a && b && c && d) e five).1) last;
      few_fields = grind (arith, nat_tests);
    }

-- the first line, and what follows it
first_read : (first rest : List ℕ) → free 10 first ≡ true → read_text (first ++ (10 ∷ rest)) ≡ read_version first (lines_in rest)
first_read first rest p = ap (λ lines. read_title (line_at 1 lines)) (part_before 10 first rest p) ∙ ap read_title (ended_line 1 10 first rest)

class_read : (class : Class) (rest : List ℕ) (w : CertificateFields) → ((n : ℕ) → read_numbers class n (lines_in rest) ≡ Ok w) →
    read_text (class_text class ++ rest) ≡ Ok w
class_read Any rest w read = first_read (codes "ttx certificate 1") rest refl ∙ read 2
class_read Clearing rest w read =
    first_read (codes "ttx certificate 2") (codes "class clearing" ++ (10 ∷ rest)) refl
    ∙ ap read_class (part_before 10 (codes "class clearing") rest refl)
    ∙ ap (λ r. r >>= read_clearing) (ended_line 2 10 (codes "class clearing") rest) ∙ read 3

-- the texts of ids and numbers are words, which are read as these
module _ (id_read : WrittenIdsAreRead) (number_decimal : WrittenNumbersAreRead) (ids_free : IdsHoldNoSeparator)
    (numbers_free : NumbersHoldNoSeparator) where
  decimal_free : (s n : ℕ) → s < 47 → n < 10000000 → free s (decimal n) ≡ true
  decimal_free s n low small = low_free s (decimal n) low (numbers_free n small)

  id_free : (s : ℕ) (id : Id) → s < 47 → IsId id → free s (id_text id) ≡ true
  id_free s id low is = low_free s (id_text id) low (ids_free id is)

  numbers_read : (ss : List ℕ) → are_small ss ≡ true → numbers_in (map decimal ss) ≡ Some ss
  numbers_read [] small = refl
  numbers_read (s ∷ ss) small =
      ap (λ o. before_numbers o (numbers_in (map decimal ss))) (number_decimal s (small_first s ss small))
      ∙ ap (before_numbers (Some s)) (numbers_read ss ((and_parts (nat_lt s 65536) (are_small ss) small).1))

  words_of_starts : (x ss : List ℕ) → free 32 x ≡ true → are_small ss ≡ true → words_in (x ++ starts_text ss) ≡ x ∷ map decimal ss
  words_of_starts x [] p small = ap words_in (append-nil x) ∙ last_part 32 x p
  words_of_starts x (s ∷ ss) p small =
      part_before 32 x (decimal s ++ starts_text ss) p
      ∙ ap (λ ws. x ∷ ws) (words_of_starts (decimal s) ss (decimal_free 32 s (omega arith) (small_first s ss small))
      ((and_parts (nat_lt s 65536) (are_small ss) small).1))

  words_of_entry : (page : List ℕ) (item : Item) (ss : List ℕ) → free 32 page ≡ true → is_item item ≡ true → are_small ss ≡ true →
      words_in (page ++ item_text item ++ starts_text ss) ≡ page ∷ (item_words item ++ map decimal ss)
  words_of_entry page TheHead ss p is small =
      ap words_in (append_assoc page (codes " head") (starts_text ss)) ∙ part_before 32 page (codes "head" ++ starts_text ss) p
      ∙ ap (λ ws. page ∷ ws) (words_of_starts (codes "head") ss refl small)
  words_of_entry page (TheRow n) ss p is small =
      ap words_in (append_assoc page (codes " row " ++ decimal n) (starts_text ss))
      ∙ part_before 32 page (codes "row" ++ (32 ∷ (decimal n ++ starts_text ss))) p
      ∙ ap (λ ws. page ∷ ws) (part_before 32 (codes "row") (decimal n ++ starts_text ss) refl
      ∙ ap (λ ws. codes "row" ∷ ws) (words_of_starts (decimal n) ss (decimal_free 32 n (omega arith) (row_small n is)) small))
  words_of_entry page TheLinks ss p is small =
      ap words_in (append_assoc page (codes " links") (starts_text ss)) ∙ part_before 32 page (codes "links" ++ starts_text ss) p
      ∙ ap (λ ws. page ∷ ws) (words_of_starts (codes "links") ss refl small)

  item_read : (item : Item) (words : List (List ℕ)) → is_item item ≡ true → item_in (item_words item ++ words) ≡ Some (item, words)
  item_read TheHead words is = refl
  item_read (TheRow n) words is = ap (option_map (λ n. (TheRow n, words))) (number_decimal n (row_small n is))
  item_read TheLinks words is = refl

  starts_read : (ss : List ℕ) → are_starts ss ≡ true → starts_in_words (map decimal ss) ≡ Some ss
  starts_read [] are = absurd (true≢false (sym are ∙ refl))
  starts_read (s ∷ ss) are = numbers_read (s ∷ ss) ((and_parts (are_small (s ∷ ss)) (rises (s ∷ ss)) are).0)

  -- the line of an entry is read as the entry
  entry_read : (e : EntryFields) → IsEntry e → entry_in (words_in (entry_text e)) ≡ Some e
  entry_read e is =
      ap entry_in (words_of_entry (id_text e.page) e.item e.starts (id_free 32 e.page (omega arith) is.id) is.item (starts_small e.starts is.starts))
      ∙ ap (λ o. with_item o (item_words e.item ++ map decimal e.starts)) (id_read e.page is.id)
      ∙ ap (with_starts e.page) (item_read e.item (map decimal e.starts) is.item)
      ∙ ap (option_map (λ starts. entry_at e.page e.item starts)) (starts_read e.starts is.starts)

  starts_free : (ss : List ℕ) → are_small ss ≡ true → free 10 (starts_text ss) ≡ true
  starts_free [] small = refl
  starts_free (s ∷ ss) small = free_join 10 (32 ∷ decimal s) (starts_text ss) (decimal_free 10 s (omega arith) (small_first s ss small))
      (starts_free ss ((and_parts (nat_lt s 65536) (are_small ss) small).1))

  item_free : (item : Item) → is_item item ≡ true → free 10 (item_text item) ≡ true
  item_free TheHead is = refl
  item_free (TheRow n) is = free_join 10 (codes " row ") (decimal n) refl (decimal_free 10 n (omega arith) (row_small n is))
  item_free TheLinks is = refl

  entry_free : (e : EntryFields) → IsEntry e → free 10 (entry_text e) ≡ true
  entry_free e is = free_join 10 (id_text e.page ++ item_text e.item) (starts_text e.starts)
      (free_join 10 (id_text e.page) (item_text e.item) (id_free 10 e.page (omega arith) is.id) (item_free e.item is.item))
      (starts_free e.starts (starts_small e.starts is.starts))

  -- the text of entries is read as the entries
  entries_read : (n : ℕ) (low : Option ℕ) (es : List EntryFields) → AllByRecursion IsEntry es → rises_above low (entry_places es)
      ≡ true → read_entries n low (lines_in (entries_text es)) ≡ Ok es
  entries_read n low [] all up = refl
  entries_read n low (e ∷ es) all up =
      ap (λ t. read_entries n low (lines_in t)) (append_assoc (entry_text e) (10 ∷ []) (entries_text es))
      ∙ ap (read_entries n low) (part_before 10 (entry_text e) (entries_text es) (entry_free e all.0))
      ∙ entries_step n low (entry_text e ∷ lines_in (entries_text es)) (entry_text e) (lines_in (entries_text es))
      (sym (ended_line n 10 (entry_text e) (entries_text es)))
      ∙ ap (λ r. r >>= (λ e. read_entries (n + 1) (Some (place_of e.page e.item)) (lines_in (entries_text es)) >>= (λ es. Ok (e ∷ es))))
      (ap (read_entry n low) (entry_read e all.0)
      ∙ entry_accepted n low e all.0
      ((and_parts (is_above low (place_of e.page e.item))
      (rises_above (Some (place_of e.page e.item)) (entry_places es)) up).0))
      ∙ ap (λ r. r >>= (λ es. Ok (e ∷ es)))
      (entries_read (n + 1) (Some (place_of e.page e.item)) es all.1
      ((and_parts (is_above low (place_of e.page e.item))
      (rises_above (Some (place_of e.page e.item)) (entry_places es)) up).1))

  -- the line of a number is read as the number
  number_read : (n : ℕ) (key : List ℕ) (most v : ℕ) (rest : List ℕ) → free 32 key ≡ true → free 10 key ≡ true → v < 10000000 →
      is_between 1 most v ≡ true →
      number_line n key most (lines_in (number_text key v ++ rest)) ≡ Ok (v, lines_in rest)
  number_read n key most v rest no_space no_end small within =
      let line_free : free 10 (key ++ 32 ∷ decimal v) ≡ true = free_join 10 key (32 ∷ decimal v) no_end (decimal_free 10 v (omega arith) small) in
      let words : words_in (key ++ 32 ∷ decimal v) ≡ key ∷ decimal v ∷ [] = part_before 32 key (decimal v) no_space
      ∙ ap (λ ws. key ∷ ws) (last_part 32 (decimal v) (decimal_free 32 v (omega arith) small)) in
      let same : bytes_eq key key ≡ true = (bytes_eq-Decides key key).1 refl in
      let read : number_in n key most (words_in (key ++ 32 ∷ decimal v)) ≡ Ok v = ap (number_in n key most) words
      ∙ cond-true (bytes_eq key key) (only_number n most (decimal v ∷ [])) (Err (Line n)) same
      ∙ ap (ranged n most) (number_decimal v small) ∙ cond-true (is_between 1 most v) (Ok v) (Err (Range n)) within in
      ap (λ t. number_line n key most (lines_in t)) (append_assoc (key ++ 32 ∷ decimal v) (10 ∷ []) rest)
      ∙ ap (number_line n key most) (part_before 10 (key ++ 32 ∷ decimal v) rest line_free)
      ∙ ap (λ r. r >>= (λ p. number_in n key most (words_in p.0) >>= (λ value. Ok (value, p.1)))) (ended_line n 10 (key ++ 32 ∷ decimal v) rest)
      ∙ ap (λ r. r >>= (λ value. Ok (value, lines_in rest))) read

  -- the text of the numbers and the entries is read as these
  numbers_text_read : (n : ℕ) (w : CertificateFields) → IsCertificateFields w → read_numbers w.class n (lines_in (numbers_text w)) ≡ Ok w
  unfolding read_numbers
  numbers_text_read n w is =
      let numbers = numbers_of w is.numbers in
      let deadline_text = number_text (codes "deadline") w.deadline ++ entries_text w.entries in
      let repeat_text = number_text (codes "repeat") w.repeat ++ (number_text (codes "deadline") w.deadline ++ entries_text w.entries) in
      ap (λ q. q >>= (λ l. number_line (n + 1) (codes "repeat") 8 l.1 >>=
      (λ r. number_line (n + 2) (codes "deadline") 1000000 r.1 >>=
      (λ d. read_entries (n + 3) None d.1 >>= (λ es. Ok (certificate_fields_at l.0 r.0 d.0 es w.class))))))
      (number_read n (codes "lines") 32 w.lines repeat_text refl refl numbers.few_lines numbers.lines)
      ∙ ap (λ q. q >>= (λ r. number_line (n + 2) (codes "deadline") 1000000 r.1 >>=
      (λ d. read_entries (n + 3) None d.1 >>= (λ es. Ok (certificate_fields_at w.lines r.0 d.0 es w.class)))))
      (number_read (n + 1) (codes "repeat") 8 w.repeat deadline_text refl refl numbers.few_repeats numbers.repeat)
      ∙ ap (λ q. q >>= (λ d. read_entries (n + 3) None d.1 >>= (λ es. Ok (certificate_fields_at w.lines w.repeat d.0 es w.class))))
      (number_read (n + 2) (codes "deadline") 1000000 w.deadline (entries_text w.entries) refl refl numbers.few_fields numbers.deadline)
      ∙ ap (λ q. q >>= (λ es. Ok (certificate_fields_at w.lines w.repeat w.deadline es w.class)))
      (entries_read (n + 3) None w.entries is.entries is.rising)

  pub written_is_accepted : (w : CertificateFields) → IsCertificateFields w → read_text (certificate_text w) ≡ Ok w
  written_is_accepted w is = ap read_text (sym (whole w)) ∙ class_read w.class (numbers_text w) w (λ n. numbers_text_read n w is)
