-- How long the text of a certificate is, by the starts that it names.
use Rattle.std.proofs.Common.{◌≡◌, ℕ, suc, ◌+◌, ◌*◌, ◌<◌, ◌≤◌, ◌^◌, true, not, ◌&&◌, nat_lt, nat_le, List, [], ◌∷◌, ◌++◌, length, codes, refl, arith}
use Rattle.std.proofs.Common.{length-append}
use Rattle.std.specs.Fmt.{decimal}
use Rattle.std.specs.List.{AllByRecursion, flat_map}
use Rattle.std.proofs.lemmas.Bool.{and_parts, ltb-true, leb-true}
use Rattle.std.proofs.lemmas.Fmt.{length-decimal-le}
use Rattle.ttx_certificate.specs.CertificateTexts.{item_text, starts_text, entry_text, entries_text, class_text, number_text}
use Rattle.ttx_certificate.specs.CertificateTexts.{head_text, certificate_text}
use Rattle.ttx_certificate.specs.Entries.{EntryFields, CertificateFields, IsEntry, IsCertificateFields, is_item, are_none, are_slots, rises}
use Rattle.ttx_certificate.specs.Entries.{are_numbers}
use Rattle.ttx_digits.specs.PageIds.{id_text}
use Rattle.ttx_page.specs.declared.class.Class.{Class}
use Rattle.ttx_page.specs.declared.class.Class.TheVariants.{Any, Clearing}
use Rattle.ttx_page.specs.declared.item.Item.{Item}
use Rattle.ttx_page.specs.declared.item.Item.TheVariants.{Head as TheHead, Row as TheRow, Links as TheLinks}

-- the starts that entries name, one entry after another
abbrev pub named_in : List EntryFields → List ℕ
named_in entries = flat_map (λ e. e.starts) entries

-- a start takes a space and five digits at most
starts_length : (starts : List ℕ) → are_slots starts ≡ true → length (starts_text starts) ≤ 6 * length starts
starts_length [] are = omega arith
starts_length (start ∷ starts) are =
    let parts = and_parts (nat_lt start 65536) (are_slots starts) are in
    let low : start < 65536 = ltb-true start 65536 parts.0 in
    let digits : length (decimal start) ≤ 5 = length-decimal-le 5 start (omega arith) (omega arith) (omega arith) in
    let size : length (decimal start ++ starts_text starts) ≡ length (decimal start) + length (starts_text starts) = length-append _ _ in
    let rest : length (starts_text starts) ≤ 6 * length starts = starts_length starts parts.1 in
    omega (arith, digits, size, rest)

item_length : (item : Item) → is_item item ≡ true → length (item_text item) ≤ 7
item_length TheHead is = let size : length (codes " head") ≡ 5 = refl in omega (arith, size)
item_length (TheRow n) is =
    let most : n ≤ 24 = leb-true n 24 ((and_parts (nat_le 1 n) (nat_le n 24) is).1) in
    let digits : length (decimal n) ≤ 2 = length-decimal-le 2 n (omega arith) (omega arith) (omega arith) in
    let size : length (item_text (TheRow n)) ≡ length (codes " row ") + length (decimal n) = length-append (codes " row ") (decimal n) in
    let word : length (codes " row ") ≡ 5 = refl in
    omega (arith, digits, size, word)
item_length TheLinks is = let size : length (codes " links") ≡ 6 = refl in omega (arith, size)

some_of : (starts : List ℕ) → not (are_none starts) ≡ true → 1 ≤ length starts
some_of [] some = cc
some_of (start ∷ starts) some = omega arith

-- the line of an entry takes 22 bytes at most for each of its starts
entry_length : (e : EntryFields) → IsEntry e → length (entry_text e ++ 10 ∷ []) ≤ 22 * length e.starts
entry_length e is =
    let tail = and_parts (not (are_none e.starts) && are_slots e.starts) (rises e.starts) is.starts in
    let parts = and_parts (not (are_none e.starts)) (are_slots e.starts) tail.0 in
    let some : 1 ≤ length e.starts = some_of e.starts parts.0 in
    let starts : length (starts_text e.starts) ≤ 6 * length e.starts = starts_length e.starts parts.1 in
    let item : length (item_text e.item) ≤ 7 = item_length e.item is.item in
    let id : length (id_text e.page) ≡ 8 = refl in
    let line : length (entry_text e ++ 10 ∷ []) ≡ length (entry_text e) + 1 = length-append (entry_text e) (10 ∷ []) in
    let text : length (entry_text e) ≡ length (id_text e.page) + length (item_text e.item ++ starts_text e.starts) =
    length-append (id_text e.page) (item_text e.item ++ starts_text e.starts) in
    let words : length (item_text e.item ++ starts_text e.starts) ≡ length (item_text e.item) + length (starts_text e.starts) =
    length-append (item_text e.item) (starts_text e.starts) in
    omega (arith, some, starts, item, id, line, text, words)

entries_length : (es : List EntryFields) → AllByRecursion IsEntry es → length (entries_text es) ≤ 22 * length (named_in es)
entries_length [] are = omega arith
entries_length (e ∷ es) are =
    let first : length (entry_text e ++ 10 ∷ []) ≤ 22 * length e.starts = entry_length e are.0 in
    let rest : length (entries_text es) ≤ 22 * length (named_in es) = entries_length es are.1 in
    let text : length ((entry_text e ++ 10 ∷ []) ++ entries_text es) ≡ length (entry_text e ++ 10 ∷ []) + length (entries_text es) =
    length-append (entry_text e ++ 10 ∷ []) (entries_text es) in
    let named : length (e.starts ++ named_in es) ≡ length e.starts + length (named_in es) = length-append e.starts (named_in es) in
    omega (arith, first, rest, text, named)

number_length : (key : List ℕ) (k n : ℕ) → 0 < k → n < 10 ^ k → n < 2 ^ 64 → length (number_text key n) ≤ length key + k + 2
number_length key k n some low small =
    let digits : length (decimal n) ≤ k = length-decimal-le k n some low small in
    let ended : List ℕ = 10 ∷ [] in
    let text : length (number_text key n) ≡ length (key ++ (32 ∷ decimal n)) + length ended = length-append (key ++ (32 ∷ decimal n)) ended in
    let end : length ended ≡ 1 = refl in
    let words : length (key ++ (32 ∷ decimal n)) ≡ length key + length (32 ∷ decimal n) = length-append key (32 ∷ decimal n) in
    let space : length (32 ∷ decimal n) ≡ suc (length (decimal n)) = refl in
    omega (arith, digits, text, end, words, space)

class_length : (class : Class) → length (class_text class) ≤ 33
class_length Any = let size : length (class_text Any) ≡ 18 = refl in omega (arith, size)
class_length Clearing = let size : length (class_text Clearing) ≡ 33 = refl in omega (arith, size)

record AreInRange (lines repeat deadline : ℕ) : Type 0 where
  few_lines : lines ≤ 32
  few_repeats : repeat ≤ 8
  few_fields : deadline ≤ 1000000

ranges_of : (lines repeat deadline : ℕ) → are_numbers lines repeat deadline ≡ true → AreInRange lines repeat deadline
ranges_of lines repeat deadline are =
    let d = and_parts (nat_le 1 lines && nat_le lines 32 && nat_le 1 repeat && nat_le repeat 8 && nat_le 1 deadline) (nat_le deadline 1000000) are in
    let s = and_parts (nat_le 1 lines && nat_le lines 32 && nat_le 1 repeat && nat_le repeat 8) (nat_le 1 deadline) d.0 in
    let r = and_parts (nat_le 1 lines && nat_le lines 32 && nat_le 1 repeat) (nat_le repeat 8) s.0 in
    let q = and_parts (nat_le 1 lines && nat_le lines 32) (nat_le 1 repeat) r.0 in
    let l = and_parts (nat_le 1 lines) (nat_le lines 32) q.0 in
    record { few_lines = leb-true lines 32 l.1; few_repeats = leb-true repeat 8 r.1; few_fields = leb-true deadline 1000000 d.1 }

head_length : (w : CertificateFields) → are_numbers w.lines w.repeat w.deadline ≡ true → length (head_text w) ≤ 68
head_length w are =
    let in_range = ranges_of w.lines w.repeat w.deadline are in
    let few_lines : w.lines ≤ 32 = in_range.few_lines in
    let few_repeats : w.repeat ≤ 8 = in_range.few_repeats in
    let few_fields : w.deadline ≤ 1000000 = in_range.few_fields in
    let class : length (class_text w.class) ≤ 33 = class_length w.class in
    let lines : length (number_text (codes "lines") w.lines) ≤ 9 =
    number_length (codes "lines") 2 w.lines (omega arith) (omega arith) (omega arith) in
    let repeat : length (number_text (codes "repeat") w.repeat) ≤ 9 =
    number_length (codes "repeat") 1 w.repeat (omega arith) (omega arith) (omega arith) in
    let deadline : length (number_text (codes "deadline") w.deadline) ≤ 17 =
    number_length (codes "deadline") 7 w.deadline (omega arith) (omega arith) (omega arith) in
    let c = class_text w.class in
    let l = number_text (codes "lines") w.lines in
    let r = number_text (codes "repeat") w.repeat in
    let d = number_text (codes "deadline") w.deadline in
    let first : length (head_text w) ≡ length ((c ++ l) ++ r) + length d = length-append ((c ++ l) ++ r) d in
    let second : length ((c ++ l) ++ r) ≡ length (c ++ l) + length r = length-append (c ++ l) r in
    let third : length (c ++ l) ≡ length c + length l = length-append c l in
    omega (arith, class, lines, repeat, deadline, first, second, third)

-- the whole text takes 68 bytes at most, and 22 for each start
pub certificate_length : (w : CertificateFields) → IsCertificateFields w → length (certificate_text w) ≤ 68 + 22 * length (named_in w.entries)
certificate_length w is =
    let head : length (head_text w) ≤ 68 = head_length w is.numbers in
    let entries : length (entries_text w.entries) ≤ 22 * length (named_in w.entries) = entries_length w.entries is.entries in
    let text : length (certificate_text w) ≡ length (head_text w) + length (entries_text w.entries) =
    length-append (head_text w) (entries_text w.entries) in
    omega (arith, head, entries, text)
