-- Entries that are read one after another.
use Rattle.std.proofs.Common.{◌≡◌, ◌⊎◌, inl, inr, ℕ, ◌+◌, ◌<◌, ◌==◌, true, not, ◌++◌, List, [], ◌∷◌, length, Option, Some, None, Result}
use Rattle.std.proofs.Common.{Ok, Err, if◌then◌else◌, refl, sym, ap, ◌∙◌, subst, arith, append_assoc, eqb-true}
use Rattle.std.proofs.lemmas.Bool.{and_from, not-false}
use Rattle.std.specs.List.{join_with_byte}
use Rattle.std.proofs.lemmas.List.{map-append}
use Rattle.std.proofs.lemmas.List.Splits.{join_with_byte-slice_split}
use Rattle.ttx_certificate.specs.Entries.{EntryFields, place_of, rises_above, entry_places, is_above, are_starts}
use Rattle.ttx_certificate.specs.EntryViews.{entry_of, entries_of}
use Rattle.ttx_certificate.specs.CertificateReading.{lines_in, words_in, entry_in, is_in_range, is_in_order, read_entry, read_entries, line_at, ◌>>=◌}
use Rattle.ttx_certificate.specs.declared.entries.Entry.{Entry}
use Rattle.ttx_certificate.specs.declared.certificate_faults.CertFault.{CertFault}
use Rattle.ttx_certificate.specs.declared.certificate_faults.CertFault.TheVariants.{Title, Line, Range, Order}
use Rattle.std.proofs.lemmas.Bool.{and_parts, cond_both}
use Rattle.ttx_certificate.proofs.LineShapes.{entries_step}

-- what follows where memory doesn't run out
pub or_memory : {A P Q : Type 0} → A ⊎ P → (P → Q) → A ⊎ Q
or_memory (inl a) f = inl a
or_memory (inr p) f = inr (f p)

-- the values before, and then these
abbrev pub joined : {A E : Type 0} → List A → Result (List A) E → Result (List A) E
joined before (Ok values) = Ok (before ++ values)
joined before (Err e) = Err e

-- one value more before
joined-more : {A E : Type 0} (before : List A) (value : A) (r : Result (List A) E) →
    joined before (r >>= (λ values. Ok (value ∷ values))) ≡ joined (before ++ value ∷ []) r
joined-more before value (Ok values) = ap Ok (sym (append_assoc before (value ∷ []) values))
joined-more before value (Err e) = refl

-- a fault of the first line ends all
pub entries_fault : (before : List EntryFields) (n : ℕ) (low : Option ℕ) (lines : List (List ℕ)) (line : List ℕ) (rest : List (List ℕ))
    (fault : CertFault) → Ok (line, rest) ≡ line_at n lines →
    Err fault ≡ read_entry n low (entry_in (words_in line)) → Err fault ≡ joined before (read_entries n low lines)
entries_fault before n low lines line rest fault at is =
    sym (ap (joined before) (entries_step n low lines line rest at
    ∙ ap (λ r. r >>= (λ e. read_entries (n + 1) (Some (place_of e.page e.item)) rest >>= (λ es. Ok (e ∷ es)))) (sym is)))

-- one entry more
pub entries_more : (before : List Entry) (entry : Entry) (n : ℕ) (low : Option ℕ) (lines : List (List ℕ)) (line : List ℕ)
    (rest : List (List ℕ)) → Ok (line, rest) ≡ line_at n lines →
    Ok (entry_of entry) ≡ read_entry n low (entry_in (words_in line)) →
    joined (entries_of before) (read_entries n low lines)
    ≡ joined (entries_of (before ++ entry ∷ [])) (read_entries (n + 1) (Some (place_of entry.page entry.item)) rest)
entries_more before entry n low lines line rest at is =
    ap (joined (entries_of before))
    (entries_step n low lines line rest at
    ∙ ap (λ r. r >>= (λ e. read_entries (n + 1) (Some (place_of e.page e.item)) rest >>= (λ es. Ok (e ∷ es)))) (sym is))
    ∙ joined-more (entries_of before) (entry_of entry) (read_entries (n + 1) (Some (place_of entry.page entry.item)) rest)
    ∙ ap (λ es. joined es (read_entries (n + 1) (Some (place_of entry.page entry.item)) rest)) (sym (map-append entry_of before (entry ∷ [])))

-- a text of one empty line is empty
one_line : (text : List ℕ) → 0 < length text → lines_in text ≡ [] ∷ [] → ⊥
one_line text some is = let same : [] ≡ text = ap (join_with_byte 10) (sym is) ∙ join_with_byte-slice_split 10 text in let none : 0
    ≡ length text = ap length same in omega arith

abbrev fault_in : {A : Type 0} → Result A CertFault → CertFault
fault_in (Ok a) = Title
fault_in (Err fault) = fault

open_line : (before : List EntryFields) (n : ℕ) (low : Option ℕ) (lines : List (List ℕ)) (fault : CertFault) → Err fault
    ≡ line_at n lines → ((lines ≡ [] ∷ []) → ⊥) → Err fault ≡ joined before (read_entries n low lines)
open_line before n low [] fault is some = ap Err (ap fault_in is)
open_line before n low ([] ∷ []) fault is some = absurd (some refl)
open_line before n low ((b ∷ bs) ∷ []) fault is some =
    cond_both (length (b ∷ bs) == 0) (Ok []) (Err (Line n)) (λ r. Err fault ≡ joined before r)
    (λ none. absurd (let e : length (b ∷ bs) ≡ 0 = eqb-true (length (b ∷ bs)) 0 none in omega arith))
    (λ _. ap Err (ap fault_in is))
open_line before n low (line ∷ next ∷ more) fault is some = cc

-- a line that isn't ended
pub entries_open : (before : List EntryFields) (n : ℕ) (low : Option ℕ) (text : List ℕ) (fault : CertFault) → 0 < length text →
    Err fault ≡ line_at n (lines_in text) → Err fault ≡ joined before (read_entries n low (lines_in text))
entries_open before n low text fault some is = open_line before n low (lines_in text) fault is (one_line text some)

pub joined-none : {A E : Type 0} (r : Result (List A) E) → r ≡ joined [] r
joined-none (Ok values) = refl
joined-none (Err e) = refl

joined-nothing : {A E : Type 0} (before : List A) → joined {E = E} before (Ok []) ≡ Ok before
joined-nothing [] = refl
joined-nothing (x ∷ xs) = ap (λ r. joined (x ∷ []) r) (joined-nothing xs)

-- no line is left
pub entries_end : (before : List EntryFields) (n : ℕ) (low : Option ℕ) (text : List ℕ) → length text ≡ 0 → Ok before
    ≡ joined before (read_entries n low (lines_in text))
entries_end before n low [] none = sym (joined-nothing before)
entries_end before n low (b ∷ bs) none = absurd (omega arith)

pub no_value : {A E : Type 0} (fault : E) (a : A) → ◌≡◌ {A = Result A E} (Err fault) (Ok a) → ⊥
no_value fault a is = cc

abbrev pub value_or : {A E : Type 0} → A → Result A E → A
value_or d (Ok a) = a
value_or d (Err fault) = d

pub record IsRead (low : Option ℕ) (o : Option EntryFields) (e : EntryFields) : Type 0 where
  pub is : o ≡ Some e
  pub range : is_in_range e ≡ true
  pub order : is_in_order low e ≡ true

-- an entry that is read has its shape, its ranges and its order
pub entry_ok : (n : ℕ) (low : Option ℕ) (o : Option EntryFields) (e : EntryFields) → read_entry n low o ≡ Ok e → IsRead low o e
entry_ok n low None e is = absurd (no_value (Line n) e is)
entry_ok n low (Some x) e is =
    cond_both (not (is_in_range x)) (Err (Range n)) (if is_in_order low x then Ok x else Err (Order n)) (λ r. r ≡ Ok e → IsRead low (Some x) e)
    (λ _ h. absurd (no_value (Range n) e h))
    (λ inside. cond_both (is_in_order low x) (Ok x) (Err (Order n)) (λ r. r ≡ Ok e → IsRead low (Some x) e)
    (λ ordered h. subst (IsRead low (Some x)) (ap (value_or x) h) (record { is = refl; range = not-false (is_in_range x) inside; order = ordered }))
    (λ _ h. absurd (no_value (Order n) e h)))
    is

module _ (n : ℕ) (low : Option ℕ) (es : List EntryFields) (others : EntryFields → Result (List EntryFields) CertFault)
    (rise : (e : EntryFields) (es' : List EntryFields) → others e
    ≡ Ok es' → rises_above (Some (place_of e.page e.item)) (entry_places es') ≡ true) where
  rise_after : (e : EntryFields) → is_in_order low e ≡ true → (r : Result (List EntryFields) CertFault) → others e ≡ r →
      (r >>= (λ es. Ok (e ∷ es))) ≡ Ok es → rises_above low (entry_places es) ≡ true
  rise_after e order (Ok es') same h = subst (λ es. rises_above low (entry_places es) ≡ true) (ap (value_or []) h)
      (and_from (is_above low (place_of e.page e.item)) (rises_above (Some (place_of e.page e.item)) (entry_places es'))
      ((and_parts (are_starts e.starts) (is_above low (place_of e.page e.item)) order).1) (rise e es' same))
  rise_after e order (Err fault) same h = absurd (no_value fault es h)

  rise_with : (o : Option EntryFields) (r : Result EntryFields CertFault) → read_entry n low o ≡ r →
      (r >>= (λ e. others e >>= (λ es. Ok (e ∷ es)))) ≡ Ok es → rises_above low (entry_places es) ≡ true
  rise_with o (Ok e) same h = rise_after e (entry_ok n low o e same).order (others e) refl h
  rise_with o (Err fault) same h = absurd (no_value fault es h)

-- the entries of a text rise
pub entries_rise : (n : ℕ) (low : Option ℕ) (lines : List (List ℕ)) (es : List EntryFields) → read_entries n low lines ≡ Ok es →
    rises_above low (entry_places es) ≡ true
entries_rise n low [] es is = absurd (no_value (Line n) es is)
entries_rise n low (line ∷ []) es is =
    cond_both (length line == 0) (Ok []) (Err (Line n)) (λ r. r ≡ Ok es → rises_above low (entry_places es) ≡ true)
    (λ _ h. subst (λ es. rises_above low (entry_places es) ≡ true) (ap (value_or []) h) refl)
    (λ _ h. absurd (no_value (Line n) es h))
    is
entries_rise n low (line ∷ next ∷ more) es is =
    rise_with n low es (λ e. read_entries (n + 1) (Some (place_of e.page e.item)) (next ∷ more))
    (λ e es' same. entries_rise (n + 1) (Some (place_of e.page e.item)) (next ∷ more) es' same)
    (entry_in (words_in line)) (read_entry n low (entry_in (words_in line))) refl is
