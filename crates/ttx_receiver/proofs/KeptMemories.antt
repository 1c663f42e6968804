-- A step turns a memory into a memory.
use Rattle.std.proofs.Common.{◌≡◌, ℕ, zero, suc, ◌+◌, ◌%◌, ◌<◌, Bool, true, false, if◌then◌else◌, List, [], ◌∷◌, ◌++◌, Option, Some, None, length}
use Rattle.std.proofs.Common.{get_or, take, drop, set, replicate, refl, sym, ap, ◌∙◌, subst, inl, inr, arith, lit<, length-append}
use Rattle.std.proofs.lemmas.List.{length-set, get_or-set_same, get_or-set_other, length-take-le, length-drop, get_or-drop}
use Rattle.std.proofs.lemmas.Bool.{cases_eq}
use Rattle.ttx_code.specs.Words.{stored, is_odd}
use Rattle.ttx_packet.specs.Slots.{IsSlot, Kind, IsEmpty, IsUnreadable, IsHeader, IsRow, IsLinks, IsInfo, IsOther, kind_of}
use Rattle.ttx_header.specs.Control.{IsControl}
use Rattle.ttx_header.specs.Laws.{HeadersHaveFields}
use Rattle.ttx_page.specs.Packets.{Packet, Empty, Unreadable, Header, Row, Links, Info, Other, packet_of, packet_of_kind}
use Rattle.ttx_page.specs.Pages.{IsRow as IsPageRow, blank_row}
use Rattle.ttx_page.specs.declared.selection.Selection.{Selection}
use Rattle.ttx_page.specs.declared.class.Class.{Class}
use Rattle.ttx_page.specs.Memories.{Memory, IsMemory, memory_row}
use Rattle.ttx_page.specs.Receivers.{stored_row, with_row, with_storing, with_links, older, erased, begun, after}
use Rattle.ttx_links.specs.Sets.{LinkSet}
use Rattle.ttx_receiver.specs.Laws.{StepsKeepMemories}

pub length-stored_row : (row bytes : List ℕ) → length (stored_row row bytes) ≡ length row
length-stored_row [] bytes = refl
length-stored_row (c ∷ row) [] = refl
length-stored_row (c ∷ row) (b ∷ bytes) = ap suc (length-stored_row row bytes)

stored-low : (b c : ℕ) → c < 128 → stored b c < 128
stored-low b c low = by (is_odd b)
  where
    by : (odd : Bool) → (if odd then b % 128 else c) < 128
    by true = omega arith
    by false = low

stored_row-low : (row bytes : List ℕ) → ((c : ℕ) → get_or row c 0 < 128) → (c : ℕ) → get_or (stored_row row bytes) c 0 < 128
stored_row-low [] bytes low c = low c
stored_row-low (x ∷ row) [] low c = low c
stored_row-low (x ∷ row) (b ∷ bytes) low zero = stored-low b x (low zero)
stored_row-low (x ∷ row) (b ∷ bytes) low (suc c) = stored_row-low row bytes (λ k. low (suc k)) c

row_stored : (row bytes : List ℕ) → IsPageRow row → IsPageRow (stored_row row bytes)
row_stored row bytes is = record { length = length-stored_row row bytes ∙ is.length; codes = stored_row-low row bytes is.codes }

-- what follows the first n places of a row
head_low : (n : ℕ) (row rest : List ℕ) → ((c : ℕ) → get_or row c 0 < 128) → ((c : ℕ) → get_or rest c 0 < 128) → (c : ℕ) →
    get_or (take n row ++ rest) c 0 < 128
head_low zero row rest a b c = b c
head_low (suc n) [] rest a b c = b c
head_low (suc n) (x ∷ row) rest a b zero = a zero
head_low (suc n) (x ∷ row) rest a b (suc c) = head_low n row rest (λ k. a (suc k)) b c

row_begun : (row text : List ℕ) → IsPageRow row → IsPageRow (take 8 row ++ stored_row (drop 8 row) text)
row_begun row text is =
    let l = is.length in
    record {
      length = length-append (take 8 row) (stored_row (drop 8 row) text)
          ∙ (let a = length-take-le 8 row (omega arith) in let b = length-stored_row (drop 8 row) text ∙ length-drop 8 row
          in omega arith);
      codes = head_low 8 row (stored_row (drop 8 row) text) is.codes
          (stored_row-low (drop 8 row) text (λ c. subst (λ x. x < 128) (sym (get_or-drop 8 row c 0)) (is.codes (8 + c))));
    }

abbrev AreRows : List (List ℕ) → Type 0
AreRows rows = (r : ℕ) → r < 25 → IsPageRow (get_or rows r [])

rows_set : (rows : List (List ℕ)) (n : ℕ) (row : List ℕ) → length rows ≡ 25 → AreRows rows → (n < 25 → IsPageRow row) → AreRows (set rows n row)
rows_set rows n row count each is r lt = elim (cases_eq r n) as (λ _. IsPageRow (get_or (set rows n row) r [])) [
  | inl e ↦ subst (λ k. IsPageRow (get_or (set rows n row) k [])) (sym e)
      (subst IsPageRow (sym (get_or-set_same rows n row [] (omega arith))) (is (omega arith)))
  | inr ne ↦ subst IsPageRow (sym (get_or-set_other rows n r row [] ne)) (each r lt)
]

spaces_low : (n c : ℕ) → get_or (replicate n 32) c 0 < 128
spaces_low zero c = lit< tt
spaces_low (suc n) zero = lit< tt
spaces_low (suc n) (suc c) = spaces_low n c

rows_blank : (n r : ℕ) → r < n → IsPageRow (get_or (replicate n blank_row) r [])
rows_blank zero r h = absurd (omega arith)
rows_blank (suc n) zero h = record { length = refl; codes = spaces_low 40 }
rows_blank (suc n) (suc r) h = rows_blank n r (omega arith)

rows_erased : (rows : List (List ℕ)) → length rows ≡ 25 → AreRows rows → AreRows (take 1 rows ++ replicate 24 blank_row)
rows_erased [] count each r lt = absurd (omega arith)
rows_erased (row ∷ rows) count each zero lt = each 0 (omega arith)
rows_erased (row ∷ rows) count each (suc r) lt = rows_blank 24 r (omega arith)

count_erased : (rows : List (List ℕ)) → length rows ≡ 25 → length (take 1 rows ++ replicate 24 blank_row) ≡ 25
count_erased [] count = absurd (omega arith)
count_erased (row ∷ rows) count = refl

pub kept_older : (m : Memory) → IsMemory m → IsMemory (older m)
kept_older m is = record { row_count = is.row_count; rows = is.rows; control = is.control; at_most = omega arith }

kept_storing : (m : Memory) (storing : Bool) → IsMemory m → IsMemory (with_storing m storing)
kept_storing m storing is = record { row_count = is.row_count; rows = is.rows; control = is.control; at_most = is.at_most }

kept_erased : (m : Memory) → IsMemory m → IsMemory (erased m)
kept_erased m is = record {
  row_count = count_erased m.rows is.row_count;
  rows = rows_erased m.rows is.row_count is.rows;
  control = is.control;
  at_most = is.at_most;
}

kept_begun : (m : Memory) (control : ℕ) (text : List ℕ) → IsControl control → IsMemory m → IsMemory (begun m control text)
kept_begun m control text known is = record {
  row_count = length-set m.rows 0 _ ∙ is.row_count;
  rows = rows_set m.rows 0 _ is.row_count is.rows (λ lt. row_begun (memory_row m 0) text (is.rows 0 lt));
  control = known;
  at_most = omega arith;
}

kept_row : (m : Memory) (r : ℕ) (text : List ℕ) → IsMemory m → IsMemory (with_row m r (stored_row (memory_row m r) text))
kept_row m r text is = record {
  row_count = length-set m.rows r _ ∙ is.row_count;
  rows = rows_set m.rows r _ is.row_count is.rows (λ lt. row_stored (memory_row m r) text (is.rows r lt));
  control = is.control;
  at_most = is.at_most;
}

kept_if : (b : Bool) (m n : Memory) → IsMemory m → IsMemory n → IsMemory (if b then m else n)
kept_if true m n a b = a
kept_if false m n a b = b

kept_links : (m : Memory) (content : Option LinkSet) → IsMemory m → IsMemory (with_links m content)
kept_links m None is = is
kept_links m (Some content) is = record { row_count = is.row_count; rows = is.rows; control = is.control; at_most = is.at_most }

abbrev pub KnownControl : Packet → Type 0
KnownControl (Header id control text) = IsControl control
KnownControl packet = Unit {0}

pub kept_after : (class : Class) (lines : ℕ) (sel : Selection) (choice : Bool) (m : Memory) (packet : Packet) → KnownControl packet →
    IsMemory m → IsMemory (after class lines sel choice m packet)
kept_after class lines sel choice m (Header id control text) known is =
    kept_if _ _ _ (kept_begun _ control text known (kept_if _ _ _ (kept_erased m is) is))
    (kept_if _ _ _ (kept_storing m false is) (kept_if _ _ _ (kept_storing m false is) is))
kept_after class lines sel choice m (Row mag number text) known is = kept_if _ _ _ (kept_row m number text is) is
kept_after class lines sel choice m (Links mag content) known is = kept_if _ _ _ (kept_links m content is) is
kept_after class lines sel choice m Empty known is = is
kept_after class lines sel choice m Unreadable known is = is
kept_after class lines sel choice m Info known is = is
kept_after class lines sel choice m Other known is = is

known_kind : HeadersHaveFields → (slot : List ℕ) → IsSlot slot → (kind : Kind) → kind_of slot ≡ kind → KnownControl (packet_of_kind slot kind)
known_kind law slot is (IsHeader mag) e = (law slot mag is e).control
known_kind law slot is IsEmpty e = tt
known_kind law slot is IsUnreadable e = tt
known_kind law slot is (IsRow mag number) e = tt
known_kind law slot is (IsLinks mag) e = tt
known_kind law slot is IsInfo e = tt
known_kind law slot is (IsOther mag number) e = tt

pub known_packet : HeadersHaveFields → (slot : List ℕ) → IsSlot slot → KnownControl (packet_of slot)
unfolding packet_of
known_packet law slot is = known_kind law slot is (kind_of slot) refl

pub steps_keep_memories : HeadersHaveFields → StepsKeepMemories
steps_keep_memories law class lines sel m new received slot is step =
    subst IsMemory (sym step.is) (kept_after class lines sel step.choice (older m) (packet_of received) (known_packet law received slot)
    (kept_older m is))
