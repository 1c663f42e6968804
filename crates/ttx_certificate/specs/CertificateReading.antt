-- Reading the text of a certificate, line by line, up to its first fault (profile). A line ends in 0A, a word at a space; lines are
-- counted from 1.
--
--   lines_in, words_in      the lines of a text, of which the last is what follows the last 0A; the words of a line
--   item_in, starts_in_words, entry_in      an item, starts, and the line of an entry
--   is_in_range, is_in_order                the ranges of an entry, and its place after the one before it
--   read_entries, line_at, number_line, read_numbers, read_version, read_text       the parts of a text, and the text
use Rattle.std.specs.Prelude.{ℕ, ◌+◌, ◌/◌, ◌%◌, Bool, not, ◌&&◌, ◌==◌, nat_lt, List, [], ◌∷◌, codes}
use Rattle.std.specs.Prelude.{length, Option, Some, None, option_map, Result, Ok, Err, if◌then◌else◌}
use Rattle.std.specs.List.{slice_split}
use Rattle.std.specs.Str.{bytes_eq}
use Rattle.ttx_header.specs.Ids.{Id}
use Rattle.ttx_digits.specs.Digits.{is_between, number_in_word}
use Rattle.ttx_digits.specs.PageIds.{id_in_word}
use Rattle.ttx_page.specs.declared.item.Item.{Item}
use Rattle.ttx_page.specs.declared.item.Item.TheVariants.{Head as TheHead, Row as TheRow, Links as TheLinks}
use Rattle.ttx_page.specs.declared.class.Class.{Class}
use Rattle.ttx_page.specs.declared.class.Class.TheVariants.{Any, Clearing}
use Rattle.ttx_certificate.specs.Entries.{EntryFields, entry_at, CertificateFields, certificate_fields_at, is_above}
use Rattle.ttx_certificate.specs.Entries.{are_slots, are_starts, is_item, is_page_id, place_of}
use Rattle.ttx_certificate.specs.declared.certificate_faults.CertFault.{CertFault}
use Rattle.ttx_certificate.specs.declared.certificate_faults.CertFault.TheVariants.{Title, Line, Order, Range}

abbrev pub parts_at : ℕ → List ℕ → List (List ℕ)
parts_at separator text = slice_split (λ b. b == separator) text

abbrev pub lines_in : List ℕ → List (List ℕ)
lines_in text = parts_at 10 text

abbrev pub words_in : List ℕ → List (List ℕ)
words_in line = parts_at 32 line

abbrev pub row_in : List (List ℕ) → Option (Item × List (List ℕ))
row_in [] = None
row_in (word ∷ words) = option_map (λ n. (TheRow n, words)) (number_in_word word)

-- an item, and the words after it
abbrev pub item_in : List (List ℕ) → Option (Item × List (List ℕ))
item_in [] = None
item_in (word ∷ words) =
    if bytes_eq word (codes "head") then Some (TheHead, words)
    else if bytes_eq word (codes "links") then Some (TheLinks, words)
    else if bytes_eq word (codes "row") then row_in words
    else None

abbrev pub before_numbers : Option ℕ → Option (List ℕ) → Option (List ℕ)
before_numbers None ns = None
before_numbers (Some n) ns = option_map (λ ns. n ∷ ns) ns

abbrev pub numbers_in : List (List ℕ) → Option (List ℕ)
numbers_in [] = Some []
numbers_in (word ∷ words) = before_numbers (number_in_word word) (numbers_in words)

-- at least one number
abbrev pub starts_in_words : List (List ℕ) → Option (List ℕ)
starts_in_words [] = None
starts_in_words (word ∷ words) = numbers_in (word ∷ words)

abbrev pub with_starts : Id → Option (Item × List (List ℕ)) → Option EntryFields
with_starts page None = None
with_starts page (Some p) = option_map (λ starts. entry_at page p.0 starts) (starts_in_words p.1)

abbrev pub with_item : Option Id → List (List ℕ) → Option EntryFields
with_item None words = None
with_item (Some page) words = with_starts page (item_in words)

-- the page, the item and the starts of a line
abbrev pub entry_in : List (List ℕ) → Option EntryFields
entry_in [] = None
entry_in (word ∷ words) = with_item (id_in_word word) words

-- a magazine and a subcode inside their ranges
abbrev pub is_id : Id → Bool
is_id id = is_between 1 8 id.mag && nat_lt id.sub 0x4000 && (id.sub / 0x80 % 2 == 0)

-- a page's id, row 1 to 24, starts below 65,536
abbrev pub is_in_range : EntryFields → Bool
is_in_range e = is_id e.page && is_page_id e.page && is_item e.item && are_slots e.starts

-- starts that rise, and a place after that of the entry before
abbrev pub is_in_order : Option ℕ → EntryFields → Bool
is_in_order low e = are_starts e.starts && is_above low (place_of e.page e.item)

-- an entry from its line, whose number is n, after the place of the entry before
abbrev pub read_entry : ℕ → Option ℕ → Option EntryFields → Result EntryFields CertFault
read_entry n low None = Err (Line n)
read_entry n low (Some e) = if not (is_in_range e) then Err (Range n) else if is_in_order low e then Ok e else Err (Order n)

-- the first fault, or what follows from the value
infixl 10 ◌>>=◌
abbrev pub ◌>>=◌ : {A B E : Type 0} → Result A E → (A → Result B E) → Result B E
Ok a >>= f = f a
Err e >>= f = Err e

-- the entries of the lines from line n on
abbrev pub read_entries : ℕ → Option ℕ → List (List ℕ) → Result (List EntryFields) CertFault
read_entries n low [] = Err (Line n)
read_entries n low (line ∷ []) = if length line == 0 then Ok [] else Err (Line n)
read_entries n low (line ∷ next ∷ more) =
    read_entry n low (entry_in (words_in line)) >>= (λ e. read_entries (n + 1) (Some (place_of e.page e.item)) (next ∷ more) >>= (λ es. Ok (e ∷ es)))

abbrev pub ranged : ℕ → ℕ → Option ℕ → Result ℕ CertFault
ranged n most None = Err (Line n)
ranged n most (Some value) = if is_between 1 most value then Ok value else Err (Range n)

-- one word, which is the number
abbrev pub only_number : ℕ → ℕ → List (List ℕ) → Result ℕ CertFault
only_number n most (word ∷ []) = ranged n most (number_in_word word)
only_number n most words = Err (Line n)

-- a number from 1 to the most, after a word
abbrev pub number_in : ℕ → List ℕ → ℕ → List (List ℕ) → Result ℕ CertFault
number_in n key most [] = Err (Line n)
number_in n key most (word ∷ words) = if bytes_eq word key then only_number n most words else Err (Line n)

-- line n, and the lines after it
abbrev pub line_at : ℕ → List (List ℕ) → Result (List ℕ × List (List ℕ)) CertFault
line_at n (line ∷ next ∷ more) = Ok (line, next ∷ more)
line_at n lines = Err (Line n)

-- the number in line n, and the lines after it
abbrev pub number_line : ℕ → List ℕ → ℕ → List (List ℕ) → Result (ℕ × List (List ℕ)) CertFault
number_line n key most lines = line_at n lines >>= (λ p. number_in n key most (words_in p.0) >>= (λ value. Ok (value, p.1)))

-- the numbers and the entries of the lines from line n on
unfoldable pub read_numbers : Class → ℕ → List (List ℕ) → Result CertificateFields CertFault
read_numbers class n text = do
  lines ← number_line n (codes "lines") 32 text
  repeat ← number_line (n + 1) (codes "repeat") 8 lines.1
  deadline ← number_line (n + 2) (codes "deadline") 1000000 repeat.1
  entries ← read_entries (n + 3) None deadline.1
  Ok (certificate_fields_at lines.0 repeat.0 deadline.0 entries class)

-- the lines after the line of the class
abbrev pub read_clearing : List ℕ × List (List ℕ) → Result CertificateFields CertFault
read_clearing (line, text) = if bytes_eq line (codes "class clearing") then read_numbers Clearing 3 text else Err (Line 2)

abbrev pub read_class : List (List ℕ) → Result CertificateFields CertFault
read_class text = line_at 2 text >>= read_clearing

-- the lines after the first: version 2 has one more, which names the class
abbrev pub read_version : List ℕ → List (List ℕ) → Result CertificateFields CertFault
read_version first text =
    if bytes_eq first (codes "ttx certificate 1") then read_numbers Any 2 text
    else if bytes_eq first (codes "ttx certificate 2") then read_class text
    else Err Title

abbrev pub read_title : Result (List ℕ × List (List ℕ)) CertFault → Result CertificateFields CertFault
read_title (Ok p) = read_version p.0 p.1
read_title (Err fault) = Err Title

-- the certificate that a text is, or its first fault
abbrev pub read_text : List ℕ → Result CertificateFields CertFault
read_text bytes = read_title (line_at 1 (lines_in bytes))
