-- Laws of page headers and of Hamming bytes in packets, for the layers above. Each is proved by the function of its name in
-- `laws`.
--
--   HeaderIsKept            wrong bits leave the id and the control bits of a clean header unchanged
--   HasFields, HeadersHaveFields            the fields of a slot of the kind header are in range
--   HeadersAreHeaders       a readable packet 0 has the kind header
--   SaidHeadersAreRead      the header that 42 bytes encode is the one that is read
--   ReadHeadersAreSaid      the header that is read is one that the 42 bytes encode
--   IsWritten, WrittenHeadersAreRead        a written header is read as the same header
--   AreNumbers              four-bit numbers
--   WordsAreKept, ReadBytesAreReadable, ReadableBytesHaveNumbers, ReadNumbersAreNumbers, WrittenWordsAreRead    the same for any part of a packet
use Rattle.std.specs.Prelude.{◌≡◌, ℕ, ◌+◌, ◌<◌, ◌≤◌, List, [], ◌∷◌, ◌++◌, Some, true, length, map, slice_index, slice_range}
use Rattle.ttx_code.specs.Words.{reading, hamming_word, Near}
use Rattle.ttx_packet.specs.Slots.{IsSlot, IsHeader, kind_of, is_clean, are_readable, are_words}
use Rattle.ttx_header.specs.Control.{IsControl}
use Rattle.ttx_header.specs.Fields.{HeaderFields, IsHeaderFields}
use Rattle.ttx_header.specs.Headers.{ReadsFrom, Says, number, id_of, control_of, header_fields_of, is_header, header_bytes}
use Rattle.ttx_header.specs.Ids.{IsId}

-- a clean page header received with at most one wrong bit in each of bytes 0 to 9 keeps its id and its control bits
abbrev pub HeaderIsKept : Type 0
HeaderIsKept =
    (sent received : List ℕ) (mag : ℕ) → IsSlot sent → IsSlot received → is_clean sent ≡ true → kind_of sent ≡ IsHeader mag →
    ((x : ℕ) → x < 10 → Near (slice_index sent x) (slice_index received x)) →
    (id_of received ≡ id_of sent) × (control_of received ≡ control_of sent)

-- a slot whose kind is a page header is a readable packet 0 of that magazine, with its id and its control bits in range
pub record HasFields (s : List ℕ) (mag : ℕ) : Type 0 where
  pub header : is_header s ≡ true
  pub magazine : (id_of s).mag ≡ mag
  pub id : IsId (id_of s)
  pub control : IsControl (control_of s)

abbrev pub HeadersHaveFields : Type 0
HeadersHaveFields = (s : List ℕ) (mag : ℕ) → IsSlot s → kind_of s ≡ IsHeader mag → HasFields s mag

-- a readable packet 0 is a page header of the magazine that its id names
abbrev pub HeadersAreHeaders : Type 0
HeadersAreHeaders = (s : List ℕ) → IsSlot s → is_header s ≡ true → kind_of s ≡ IsHeader (id_of s).mag

-- 42 bytes that encode a header are read as that header
abbrev pub SaidHeadersAreRead : Type 0
SaidHeadersAreRead = (h : HeaderFields) (s : List ℕ) → IsHeaderFields h → IsSlot s → Says h s → (is_header s ≡ true) × (header_fields_of s ≡ h)

-- a readable packet 0 encodes the header that is read from it, and its fields are in range
abbrev pub ReadHeadersAreSaid : Type 0
ReadHeadersAreSaid = (s : List ℕ) → IsSlot s → is_header s ≡ true → IsHeaderFields (header_fields_of s) × Says (header_fields_of s) s

-- the bytes written for a header are clean, have the kind of a page header, encode the header, and are read as the same header
pub record IsWritten (h : HeaderFields) : Type 0 where
  pub kind : kind_of (header_bytes h) ≡ IsHeader h.id.mag
  pub clean : is_clean (header_bytes h) ≡ true
  pub says : Says h (header_bytes h)
  pub header : is_header (header_bytes h) ≡ true
  pub fields : header_fields_of (header_bytes h) ≡ h

abbrev pub WrittenHeadersAreRead : Type 0
WrittenHeadersAreRead = (h : HeaderFields) → IsHeaderFields h → IsWritten h

-- code words received with at most one wrong bit in each byte read as they were sent
abbrev pub WordsAreKept : Type 0
WordsAreKept =
    (sent received : List ℕ) (from to : ℕ) → IsSlot sent → IsSlot received → to ≤ 42 → are_words (slice_range sent from to) ≡ true →
    ((x : ℕ) → from ≤ x → x < to → Near (slice_index sent x) (slice_index received x)) →
    (x : ℕ) → from ≤ x → x < to → reading (slice_index received x) ≡ reading (slice_index sent x)

-- four-bit numbers
abbrev pub AreNumbers : List ℕ → Type 0
AreNumbers [] = Unit {0}
AreNumbers (n ∷ ns) = (n < 16) × AreNumbers ns

-- bytes that read as numbers are readable
abbrev pub ReadBytesAreReadable : Type 0
ReadBytesAreReadable =
    (s : List ℕ) (k : ℕ) (ns : List ℕ) → k + length ns ≤ length s → ReadsFrom k s ns → are_readable (slice_range s k (k + length ns)) ≡ true

-- readable bytes read as four-bit numbers
abbrev pub ReadableBytesHaveNumbers : Type 0
ReadableBytesHaveNumbers =
    (s : List ℕ) (from to : ℕ) → IsSlot s → to ≤ 42 → are_readable (slice_range s from to) ≡ true →
    (x : ℕ) → from ≤ x → x < to → (reading (slice_index s x) ≡ Some (number s x)) × (number s x < 16)

-- bytes that read as a list of numbers have these numbers one by one
abbrev pub ReadNumbersAreNumbers : Type 0
ReadNumbersAreNumbers =
    (s : List ℕ) (k : ℕ) (ns : List ℕ) → ReadsFrom k s ns → (i : ℕ) → i < length ns → number s (k + i) ≡ slice_index ns i

-- the code words written for a list of numbers are code words and read as these numbers, wherever they are placed
abbrev pub WrittenWordsAreRead : Type 0
WrittenWordsAreRead =
    (before ns after : List ℕ) → AreNumbers ns →
    ReadsFrom (length before) (before ++ (map hamming_word ns ++ after)) ns × (are_words (map hamming_word ns) ≡ true)
