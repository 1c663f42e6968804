-- A text that is read is the text of its certificate.
use Rattle.std.proofs.Common.{◌≡◌, ℕ, ◌+◌, ◌==◌, ◌++◌, List, [], ◌∷◌, length, map}
use Rattle.std.proofs.Common.{codes, Option, Some, None, option_map, Result, Ok, Err, refl, sym, ap, ◌∙◌, subst}
use Rattle.std.proofs.Common.{arith, rules, append_assoc, append-nil, eqb-true}
use Rattle.std.specs.Fmt.{decimal}
use Rattle.std.specs.List.{join_with_byte}
use Rattle.std.specs.Str.{bytes_eq}
use Rattle.std.proofs.lemmas.List.Splits.{join_with_byte-slice_split}
use Rattle.std.proofs.lemmas.Slice.Eq.{bytes_eq-Decides}
use Rattle.ttx_header.specs.Ids.{Id}
use Rattle.ttx_page.specs.declared.item.Item.{Item}
use Rattle.ttx_page.specs.declared.item.Item.TheVariants.{Head as TheHead, Row as TheRow, Links as TheLinks}
use Rattle.ttx_page.specs.declared.class.Class.{Class}
use Rattle.ttx_page.specs.declared.class.Class.TheVariants.{Any, Clearing}
use Rattle.ttx_certificate.specs.Entries.{EntryFields, entry_at, CertificateFields, certificate_fields_at, place_of}
use Rattle.ttx_digits.specs.Digits.{is_between, number_in_word}
use Rattle.ttx_digits.specs.PageIds.{id_in_word, id_text}
use Rattle.ttx_certificate.specs.CertificateTexts.{item_text, starts_text, entry_text, entries_text, class_text}
use Rattle.ttx_certificate.specs.CertificateTexts.{number_text, certificate_text}
use Rattle.ttx_certificate.specs.CertificateReading.{lines_in, words_in}
use Rattle.ttx_certificate.specs.CertificateReading.{row_in, item_in, before_numbers, numbers_in}
use Rattle.ttx_certificate.specs.CertificateReading.{starts_in_words, with_starts, with_item, entry_in, read_entry, read_entries, ranged, only_number}
use Rattle.ttx_certificate.specs.CertificateReading.{number_in, line_at, number_line, read_numbers, read_class, read_title, read_text, ◌>>=◌}
use Rattle.ttx_certificate.specs.declared.certificate_faults.CertFault.{CertFault}
use Rattle.ttx_certificate.specs.declared.certificate_faults.CertFault.TheVariants.{Title, Line, Range}
use Rattle.std.proofs.lemmas.Bool.{cond_both}
use Rattle.ttx_digits.specs.Laws.{ReadIdsAreWritten, ReadNumbersAreWritten}
use Rattle.std.proofs.lemmas.Option.{none-some, same_Some}
use Rattle.ttx_certificate.proofs.ReadEntries.{no_value, value_or, entry_ok}

abbrev pub item_words : Item → List (List ℕ)
item_words TheHead = codes "head" ∷ []
item_words (TheRow n) = codes "row" ∷ decimal n ∷ []
item_words TheLinks = codes "links" ∷ []

abbrev pub entry_words : EntryFields → List (List ℕ)
entry_words e = id_text e.page ∷ (item_words e.item ++ map decimal e.starts)

-- words, joined by spaces
join_starts : (x : List ℕ) (ss : List ℕ) → join_with_byte 32 (x ∷ map decimal ss) ≡ x ++ starts_text ss
join_starts x [] = sym (append-nil x)
join_starts x (s ∷ ss) = ap (λ t. x ++ (32 ∷ t)) (join_starts (decimal s) ss)

join_entry : (page : List ℕ) (item : Item) (ss : List ℕ) → join_with_byte 32 (page ∷ (item_words item ++ map decimal ss)) ≡ page
    ++ item_text item ++ starts_text ss
join_entry page TheHead ss = ap (λ t. page ++ (32 ∷ t)) (join_starts (codes "head") ss) ∙ sym (append_assoc page (codes " head") (starts_text ss))
join_entry page (TheRow n) ss =
    ap (λ t. page ++ (32 ∷ (codes "row" ++ (32 ∷ t)))) (join_starts (decimal n) ss)
    ∙ sym (append_assoc page (codes " row " ++ decimal n) (starts_text ss))
join_entry page TheLinks ss = ap (λ t. page ++ (32 ∷ t)) (join_starts (codes "links") ss) ∙ sym (append_assoc page (codes " links") (starts_text ss))

abbrev pub numbers_text : CertificateFields → List ℕ
numbers_text w = number_text (codes "lines") w.lines
    ++ (number_text (codes "repeat") w.repeat ++ (number_text (codes "deadline") w.deadline ++ entries_text w.entries))

pub whole : (w : CertificateFields) → class_text w.class ++ numbers_text w ≡ certificate_text w
whole w = search (rules, append_assoc)

-- words that are read as ids and numbers are the texts of these
module _ (id_is : ReadIdsAreWritten) (number_is : ReadNumbersAreWritten) where
  row_with : (word x : List ℕ) (words : List (List ℕ)) (p : Item × List (List ℕ)) (o : Option ℕ) → word ≡ codes "row" → number_in_word x
      ≡ o → option_map (λ n. (TheRow n, words)) o ≡ Some p → word ∷ x ∷ words ≡ item_words p.0 ++ p.1
  row_with word x words p None is same h = absurd (none-some p h)
  row_with word x words p (Some n) is same h =
      subst (λ (q : Item × List (List ℕ)). word ∷ x ∷ words ≡ item_words q.0 ++ q.1) (same_Some (TheRow n, words) p h)
      (ap (λ w. w ∷ x ∷ words) is ∙ ap (λ y. codes "row" ∷ y ∷ words) (number_is x n same))

  row_is : (word : List ℕ) (words : List (List ℕ)) (p : Item × List (List ℕ)) → word ≡ codes "row" → row_in words ≡ Some p → word
      ∷ words ≡ item_words p.0 ++ p.1
  row_is word [] p is h = absurd (none-some p h)
  row_is word (x ∷ words) p is h = row_with word x words p (number_in_word x) is refl h

  -- an item and what follows it, by its words
  item_is : (words : List (List ℕ)) (p : Item × List (List ℕ)) → item_in words ≡ Some p → words ≡ item_words p.0 ++ p.1
  item_is [] p is = absurd (none-some p is)
  item_is (w ∷ ws) p is =
      cond_both (bytes_eq w (codes "head")) (Some (TheHead, ws)) _ (λ o. o ≡ Some p → w ∷ ws ≡ item_words p.0 ++ p.1)
      (λ head h. subst (λ (q : Item × List (List ℕ)). w ∷ ws ≡ item_words q.0 ++ q.1) (same_Some (TheHead, ws) p h)
      (ap (λ x. x ∷ ws) ((bytes_eq-Decides w (codes "head")).0 head)))
      (λ _. cond_both (bytes_eq w (codes "links")) (Some (TheLinks, ws)) _ (λ o. o ≡ Some p → w ∷ ws ≡ item_words p.0 ++ p.1)
      (λ links h. subst (λ (q : Item × List (List ℕ)). w ∷ ws ≡ item_words q.0 ++ q.1) (same_Some (TheLinks, ws) p h)
      (ap (λ x. x ∷ ws) ((bytes_eq-Decides w (codes "links")).0 links)))
      (λ _. cond_both (bytes_eq w (codes "row")) (row_in ws) None (λ o. o ≡ Some p → w ∷ ws ≡ item_words p.0 ++ p.1)
      (λ row h. row_is w ws p ((bytes_eq-Decides w (codes "row")).0 row) h)
      (λ _ h. absurd (none-some p h))))
      is

  numbers_with : (word : List ℕ) (words : List (List ℕ)) (ns : List ℕ) (o : Option ℕ) (q : Option (List ℕ)) → number_in_word word ≡ o →
      ((ms : List ℕ) → q ≡ Some ms → words ≡ map decimal ms) → before_numbers o q ≡ Some ns → word ∷ words ≡ map decimal ns
  numbers_with word words ns None q same more h = absurd (none-some ns h)
  numbers_with word words ns (Some n) None same more h = absurd (none-some ns h)
  numbers_with word words ns (Some n) (Some ms) same more h =
      subst (λ ns. word ∷ words ≡ map decimal ns) (same_Some (n ∷ ms) ns h)
      (ap (λ w. w ∷ words) (number_is word n same) ∙ ap (λ ws. decimal n ∷ ws) (more ms refl))

  numbers_are : (words : List (List ℕ)) (ns : List ℕ) → numbers_in words ≡ Some ns → words ≡ map decimal ns
  numbers_are [] ns is = subst (λ ns. [] ≡ map decimal ns) (same_Some [] ns is) refl
  numbers_are (word ∷ words) ns is = numbers_with word words ns (number_in_word word) (numbers_in words) refl
      (λ ms same. numbers_are words ms same) is

  starts_are : (words : List (List ℕ)) (ns : List ℕ) → starts_in_words words ≡ Some ns → words ≡ map decimal ns
  starts_are [] ns is = absurd (none-some ns is)
  starts_are (word ∷ words) ns is = numbers_are (word ∷ words) ns is

  with_starts_is : (words : List (List ℕ)) (page : Id) (p : Item × List (List ℕ)) (e : EntryFields) (s : Option (List ℕ)) →
      starts_in_words p.1 ≡ s → words ≡ item_words p.0 ++ p.1 → option_map (λ starts. entry_at page p.0 starts) s ≡ Some e →
      (id_text page ∷ words) ≡ entry_words e
  with_starts_is words page p e None same is h = absurd (none-some e h)
  with_starts_is words page p e (Some starts) same is h =
      subst (λ e. (id_text page ∷ words) ≡ entry_words e) (same_Some (entry_at page p.0 starts) e h)
      (ap (λ ws. id_text page ∷ ws) (is ∙ ap (λ ws. item_words p.0 ++ ws) (starts_are p.1 starts same)))

  with_item_is : (words : List (List ℕ)) (page : Id) (e : EntryFields) (q : Option (Item × List (List ℕ))) → item_in words ≡ q →
      with_starts page q ≡ Some e → (id_text page ∷ words) ≡ entry_words e
  with_item_is words page e None same h = absurd (none-some e h)
  with_item_is words page e (Some p) same h = with_starts_is words page p e (starts_in_words p.1) refl (item_is words p same) h

  with_id_is : (word : List ℕ) (words : List (List ℕ)) (e : EntryFields) (o : Option Id) → id_in_word word ≡ o → with_item o words
      ≡ Some e → word ∷ words ≡ entry_words e
  with_id_is word words e None same h = absurd (none-some e h)
  with_id_is word words e (Some page) same h = ap (λ w. w ∷ words) (id_is word page same) ∙ with_item_is words page e (item_in words) refl h

  -- an entry, by the words of its line
  entry_is : (words : List (List ℕ)) (e : EntryFields) → entry_in words ≡ Some e → words ≡ entry_words e
  entry_is [] e is = absurd (none-some e is)
  entry_is (word ∷ words) e is = with_id_is word words e (id_in_word word) refl is

  line_is : (line : List ℕ) (e : EntryFields) → entry_in (words_in line) ≡ Some e → line ≡ entry_text e
  line_is line e is = sym (join_with_byte-slice_split 32 line) ∙ ap (join_with_byte 32) (entry_is (words_in line) e is)
      ∙ join_entry (id_text e.page) e.item e.starts

  module _ (n : ℕ) (low : Option ℕ) (es : List EntryFields) (others : EntryFields → Result (List EntryFields) CertFault) (line rest : List ℕ)
      (more : (e : EntryFields) (es' : List EntryFields) → others e ≡ Ok es' → rest ≡ entries_text es') where
    text_after : (e : EntryFields) → line ≡ entry_text e → (r : Result (List EntryFields) CertFault) → others e ≡ r →
        (r >>= (λ es. Ok (e ∷ es))) ≡ Ok es → line ++ (10 ∷ rest) ≡ entries_text es
    text_after e is (Ok es') same h = subst (λ es. line ++ (10 ∷ rest) ≡ entries_text es) (ap (value_or []) h)
        (ap (λ l. l ++ (10 ∷ rest)) is ∙ ap (λ t. entry_text e ++ (10 ∷ t)) (more e es' same)
        ∙ sym (append_assoc (entry_text e) (10 ∷ []) (entries_text es')))
    text_after e is (Err fault) same h = absurd (no_value fault es h)

    text_with : (r : Result EntryFields CertFault) → read_entry n low (entry_in (words_in line)) ≡ r →
        (r >>= (λ e. others e >>= (λ es. Ok (e ∷ es)))) ≡ Ok es → line ++ (10 ∷ rest) ≡ entries_text es
    text_with (Ok e) same h = text_after e (line_is line e (entry_ok n low (entry_in (words_in line)) e same).is) (others e) refl h
    text_with (Err fault) same h = absurd (no_value fault es h)

  -- the lines of entries are their text
  entries_are : (n : ℕ) (low : Option ℕ) (lines : List (List ℕ)) (es : List EntryFields) → read_entries n low lines ≡ Ok es →
      join_with_byte 10 lines ≡ entries_text es
  entries_are n low [] es is = absurd (no_value (Line n) es is)
  entries_are n low (line ∷ []) es is =
      cond_both (length line == 0) (Ok []) (Err (Line n)) (λ r. r ≡ Ok es → line ≡ entries_text es)
      (λ none h. subst (λ es. line ≡ entries_text es) (ap (value_or []) h) (nothing line (eqb-true (length line) 0 none)))
      (λ _ h. absurd (no_value (Line n) es h))
      is
    where
      nothing : (line : List ℕ) → length line ≡ 0 → line ≡ []
      nothing [] none = refl
      nothing (x ∷ line) none = absurd (omega arith)
  entries_are n low (line ∷ next ∷ more) es is =
      text_with n low es (λ e. read_entries (n + 1) (Some (place_of e.page e.item)) (next ∷ more)) line (join_with_byte 10 (next ∷ more))
      (λ e es' same. entries_are (n + 1) (Some (place_of e.page e.item)) (next ∷ more) es' same) (read_entry n low (entry_in (words_in line))) refl is

  -- a number after its word
  ranged_is : (n most v : ℕ) (o : Option ℕ) → ranged n most o ≡ Ok v → o ≡ Some v
  ranged_is n most v None is = absurd (no_value (Line n) v is)
  ranged_is n most v (Some x) is =
      cond_both (is_between 1 most x) (Ok x) (Err (Range n)) (λ r. r ≡ Ok v → Some x ≡ Some v) (λ _ h. ap Some (ap (value_or x) h))
      (λ _ h. absurd (no_value (Range n) v h)) is

  only_is : (n most v : ℕ) (words : List (List ℕ)) → only_number n most words ≡ Ok v → words ≡ decimal v ∷ []
  only_is n most v [] is = absurd (no_value (Line n) v is)
  only_is n most v (word ∷ []) is = ap (λ w. w ∷ []) (number_is word v (ranged_is n most v (number_in_word word) is))
  only_is n most v (word ∷ next ∷ more) is = absurd (no_value (Line n) v is)

  number_line_is : (n : ℕ) (key : List ℕ) (most v : ℕ) (words : List (List ℕ)) → number_in n key most words ≡ Ok v → words ≡ key ∷ decimal v ∷ []
  number_line_is n key most v [] is = absurd (no_value (Line n) v is)
  number_line_is n key most v (word ∷ words) is =
      cond_both (bytes_eq word key) (only_number n most words) (Err (Line n)) (λ r. r ≡ Ok v → word ∷ words ≡ key ∷ decimal v ∷ [])
      (λ same h. ap (λ w. w ∷ words) ((bytes_eq-Decides word key).0 same) ∙ ap (λ ws. key ∷ ws) (only_is n most v words h))
      (λ _ h. absurd (no_value (Line n) v h)) is

  after_number : (n : ℕ) (key : List ℕ) (most : ℕ) (line : List ℕ) (rest : List (List ℕ)) (p : ℕ × List (List ℕ))
      (r : Result ℕ CertFault) → number_in n key most (words_in line) ≡ r → (r >>= (λ value. Ok (value, rest))) ≡ Ok p →
      line ++ (10 ∷ join_with_byte 10 rest) ≡ number_text key p.0 ++ join_with_byte 10 p.1
  after_number n key most line rest p (Err fault) same h = absurd (no_value fault p h)
  after_number n key most line rest p (Ok v) same h =
      subst (λ (p : ℕ × List (List ℕ)). line ++ (10 ∷ join_with_byte 10 rest) ≡ number_text key p.0 ++ join_with_byte 10 p.1) (ap (value_or p) h)
      (ap (λ l. l ++ (10 ∷ join_with_byte 10 rest))
      (sym (join_with_byte-slice_split 32 line) ∙ ap (join_with_byte 32) (number_line_is n key most v (words_in line) same))
      ∙ sym (append_assoc (key ++ 32 ∷ decimal v) (10 ∷ []) (join_with_byte 10 rest)))

  -- the line of a number
  number_text_is : (n : ℕ) (key : List ℕ) (most : ℕ) (lines : List (List ℕ)) (p : ℕ × List (List ℕ)) → number_line n key most lines
      ≡ Ok p → join_with_byte 10 lines ≡ number_text key p.0 ++ join_with_byte 10 p.1
  number_text_is n key most [] p is = absurd (no_value (Line n) p is)
  number_text_is n key most (line ∷ []) p is = absurd (no_value (Line n) p is)
  number_text_is n key most (line ∷ next ∷ more) p is = after_number n key most line (next ∷ more) p (number_in n key most (words_in line)) refl is

  module _ (class : Class) (n : ℕ) (text : List ℕ) (w : CertificateFields) where
    with_entries : (l r d : ℕ) (rest : List (List ℕ)) (q : Result (List EntryFields) CertFault) → read_entries (n + 3) None rest ≡ q →
        (q >>= (λ es. Ok (certificate_fields_at l r d es class))) ≡ Ok w →
        (number_text (codes "lines") l ++
        (number_text (codes "repeat") r ++ (number_text (codes "deadline") d ++ join_with_byte 10 rest)) ≡ numbers_text w)
        × (class ≡ w.class)
    with_entries l r d rest (Err fault) same h = absurd (no_value fault w h)
    with_entries l r d rest (Ok es) same h =
        subst (λ (w : CertificateFields).
        (number_text (codes "lines") l
        ++ (number_text (codes "repeat") r ++ (number_text (codes "deadline") d ++ join_with_byte 10 rest)) ≡ numbers_text w)
        × (class ≡ w.class)) (ap (value_or w) h) (
          ap (λ t. number_text (codes "lines") l ++ (number_text (codes "repeat") r ++ (number_text (codes "deadline") d ++ t)))
              (entries_are (n + 3) None rest es same),
          refl,
        )

    with_deadline : (l r : ℕ) (rest : List (List ℕ)) (q : Result (ℕ × List (List ℕ)) CertFault) →
        number_line (n + 2) (codes "deadline") 1000000 rest ≡ q →
        (q >>= (λ d. read_entries (n + 3) None d.1 >>= (λ es. Ok (certificate_fields_at l r d.0 es class)))) ≡ Ok w →
        (number_text (codes "lines") l ++ (number_text (codes "repeat") r ++ join_with_byte 10 rest) ≡ numbers_text w) × (class ≡ w.class)
    with_deadline l r rest (Err fault) same h = absurd (no_value fault w h)
    with_deadline l r rest (Ok d) same h =
        let more = with_entries l r d.0 d.1 (read_entries (n + 3) None d.1) refl h in (
          ap (λ t. number_text (codes "lines") l ++ (number_text (codes "repeat") r ++ t))
              (number_text_is (n + 2) (codes "deadline") 1000000 rest d same) ∙ more.0,
          more.1,
        )

    with_repeat : (l : ℕ) (rest : List (List ℕ)) (q : Result (ℕ × List (List ℕ)) CertFault) → number_line (n + 1) (codes "repeat") 8 rest ≡ q →
        (q >>= (λ r. number_line (n + 2) (codes "deadline") 1000000 r.1 >>=
        (λ d. read_entries (n + 3) None d.1 >>= (λ es. Ok (certificate_fields_at l r.0 d.0 es class))))) ≡ Ok w →
        (number_text (codes "lines") l ++ join_with_byte 10 rest ≡ numbers_text w) × (class ≡ w.class)
    with_repeat l rest (Err fault) same h = absurd (no_value fault w h)
    with_repeat l rest (Ok r) same h =
        let more = with_deadline l r.0 r.1 (number_line (n + 2) (codes "deadline") 1000000 r.1) refl h in
        (ap (λ t. number_text (codes "lines") l ++ t) (number_text_is (n + 1) (codes "repeat") 8 rest r same) ∙ more.0, more.1)

    with_lines : (lines : List (List ℕ)) (q : Result (ℕ × List (List ℕ)) CertFault) → number_line n (codes "lines") 32 lines ≡ q →
        (q >>= (λ l. number_line (n + 1) (codes "repeat") 8 l.1 >>=
        (λ r. number_line (n + 2) (codes "deadline") 1000000 r.1 >>=
        (λ d. read_entries (n + 3) None d.1 >>= (λ es. Ok (certificate_fields_at l.0 r.0 d.0 es class)))))) ≡ Ok w →
        (join_with_byte 10 lines ≡ numbers_text w) × (class ≡ w.class)
    with_lines lines (Err fault) same h = absurd (no_value fault w h)
    with_lines lines (Ok l) same h =
        let more = with_repeat l.0 l.1 (number_line (n + 1) (codes "repeat") 8 l.1) refl h in
        (number_text_is n (codes "lines") 32 lines l same ∙ more.0, more.1)

  -- the lines of the numbers and of the entries
  numbers_are_text : (class : Class) (n : ℕ) (lines : List (List ℕ)) (w : CertificateFields) → read_numbers class n lines ≡ Ok w →
      (join_with_byte 10 lines ≡ numbers_text w) × (class ≡ w.class)
  unfolding read_numbers
  numbers_are_text class n lines w is = with_lines class n [] w lines (number_line n (codes "lines") 32 lines) refl is

  -- after the first line of version 1
  any_is : (first : List ℕ) (rest : List (List ℕ)) (w : CertificateFields) → first ≡ codes "ttx certificate 1" → read_numbers Any 2 rest
      ≡ Ok w → first ++ (10 ∷ join_with_byte 10 rest) ≡ certificate_text w
  any_is first rest w is h =
      let read = numbers_are_text Any 2 rest w h in
      ap (λ l. l ++ (10 ∷ join_with_byte 10 rest)) is ∙ ap (λ t. codes "ttx certificate 1" ++ (10 ∷ t)) read.0
      ∙ ap (λ c. class_text c ++ numbers_text w) read.1 ∙ whole w

  -- and of version 2
  clearing_is : (first : List ℕ) (rest : List (List ℕ)) (w : CertificateFields) → first ≡ codes "ttx certificate 2" → read_class rest
      ≡ Ok w → first ++ (10 ∷ join_with_byte 10 rest) ≡ certificate_text w
  clearing_is first [] w is h = absurd (no_value (Line 2) w h)
  clearing_is first (line ∷ []) w is h = absurd (no_value (Line 2) w h)
  clearing_is first (line ∷ next ∷ more) w is h =
      cond_both (bytes_eq line (codes "class clearing")) (read_numbers Clearing 3 (next ∷ more)) (Err (Line 2))
      (λ r. r ≡ Ok w → first ++ (10 ∷ join_with_byte 10 (line ∷ next ∷ more)) ≡ certificate_text w)
      (λ same h. let read = numbers_are_text Clearing 3 (next ∷ more) w h in
      ap (λ l. l ++ (10 ∷ join_with_byte 10 (line ∷ next ∷ more))) is
      ∙ ap (λ l. codes "ttx certificate 2" ++ (10 ∷ (l ++ (10 ∷ join_with_byte 10 (next ∷ more)))))
      ((bytes_eq-Decides line (codes "class clearing")).0 same)
      ∙ ap (λ t. codes "ttx certificate 2" ++ (10 ∷ (codes "class clearing" ++ (10 ∷ t)))) read.0
      ∙ ap (λ c. class_text c ++ numbers_text w) read.1 ∙ whole w)
      (λ _ h. absurd (no_value (Line 2) w h)) h

  lines_are : (lines : List (List ℕ)) (w : CertificateFields) → read_title (line_at 1 lines) ≡ Ok w → join_with_byte 10 lines ≡ certificate_text w
  lines_are [] w is = absurd (no_value Title w is)
  lines_are (line ∷ []) w is = absurd (no_value Title w is)
  lines_are (line ∷ next ∷ more) w is =
      cond_both (bytes_eq line (codes "ttx certificate 1")) (read_numbers Any 2 (next ∷ more)) _
      (λ r. r ≡ Ok w → line ++ (10 ∷ join_with_byte 10 (next ∷ more)) ≡ certificate_text w)
      (λ same h. any_is line (next ∷ more) w ((bytes_eq-Decides line (codes "ttx certificate 1")).0 same) h)
      (λ _. cond_both (bytes_eq line (codes "ttx certificate 2")) (read_class (next ∷ more)) (Err Title)
      (λ r. r ≡ Ok w → line ++ (10 ∷ join_with_byte 10 (next ∷ more)) ≡ certificate_text w)
      (λ same h. clearing_is line (next ∷ more) w ((bytes_eq-Decides line (codes "ttx certificate 2")).0 same) h)
      (λ _ h. absurd (no_value Title w h)))
      is

  pub accepted_is_written : (bytes : List ℕ) (w : CertificateFields) → read_text bytes ≡ Ok w → bytes ≡ certificate_text w
  accepted_is_written bytes w is = sym (join_with_byte-slice_split 10 bytes) ∙ lines_are (lines_in bytes) w is
