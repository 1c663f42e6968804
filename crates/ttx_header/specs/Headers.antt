-- The 42 bytes of a page header (EN 300 706, 9.3.1). Bytes 0 to 9 are Hamming 8/4 words; bytes 10 to 33 are the
-- characters of columns 8 to 31, bytes 34 to 41 those of the clock.
--
--   ReadsFrom               the bytes from one position on read as these numbers
--   numbers_of, Says        the numbers of bytes 0 to 9, and the header that 42 bytes encode
--   header_bytes            the bytes that are written for a header
--   id_of, control_of, header_fields_of            the fields of a header as functions of its bytes
--   is_header               a readable packet 0
--   time_filling            a header of page FF, subcode 3F7F
use Rattle.std.specs.Prelude.{◌≡◌, ℕ, ◌+◌, ◌*◌, ◌/◌, ◌%◌, List, [], ◌∷◌, ◌++◌, Bool, ◌==◌, ◌&&◌}
use Rattle.std.specs.Prelude.{Some, if◌then◌else◌, map, replicate, slice_index, slice_range}
use Rattle.ttx_code.specs.Words.{reading, number_of, hamming_word}
use Rattle.ttx_packet.specs.Slots.{are_readable, magazine, read_number}
use Rattle.ttx_header.specs.Ids.{Id, id_at}
use Rattle.ttx_header.specs.Fields.{HeaderFields, fields_at}

-- the bytes from k on read as these numbers
abbrev pub ReadsFrom : ℕ → List ℕ → List ℕ → Type 0
ReadsFrom k s [] = Unit {0}
ReadsFrom k s (n ∷ ns) = (reading (slice_index s k) ≡ Some n) × ReadsFrom (k + 1) s ns

-- the numbers of bytes 0 to 9: magazine, packet number 0, page units and tens, S1, S2 with C4, S3, S4 with C5 and C6, C7 to C10, C11 to C14
abbrev pub numbers_of : HeaderFields → List ℕ
numbers_of h =
    h.id.mag % 8 ∷ 0 ∷ h.id.page % 16 ∷ h.id.page / 16
    ∷ h.id.sub % 16 ∷ (h.id.sub / 16 % 8 + 8 * (h.control % 2)) ∷ h.id.sub / 256 % 16 ∷ (h.id.sub / 4096 + 4 * (h.control / 2 % 4))
    ∷ h.control / 8 % 16 ∷ h.control / 128 ∷ []

-- The bytes encode the header: bytes 0 to 9 read as its numbers, the others are its text and clock.
pub record Says (h : HeaderFields) (s : List ℕ) : Type 0 where
  pub numbers : ReadsFrom 0 s (numbers_of h)
  pub text : slice_range s 10 34 ≡ h.text
  pub clock : slice_range s 34 42 ≡ h.clock

-- the bytes written for a header: the code words of its numbers, then text and clock
abbrev pub header_bytes : HeaderFields → List ℕ
header_bytes h = map hamming_word (numbers_of h) ++ h.text ++ h.clock

-- the number that byte k reads as, or 0 if the byte is unreadable
abbrev pub number : List ℕ → ℕ → ℕ
number s k = number_of (slice_index s k)

-- the id of the page: magazine from byte 0, page number from bytes 2 and 3, subcode from bytes 4 to 7, S1 first
abbrev pub id_of : List ℕ → Id
id_of s =
    id_at (magazine (number s 0)) (number s 2 + 16 * number s 3)
    (number s 4 + 16 * (number s 5 % 8) + 256 * number s 6 + 4096 * (number s 7 % 4))

-- the control bits; C4 shares byte 5 with S2, and C5 and C6 share byte 7 with S4
abbrev pub control_of : List ℕ → ℕ
control_of s = number s 5 / 8 + 2 * (number s 7 / 4) + 8 * number s 8 + 128 * number s 9

-- all fields
abbrev pub header_fields_of : List ℕ → HeaderFields
header_fields_of s = fields_at (id_of s) (control_of s) (slice_range s 10 34) (slice_range s 34 42)

-- bytes 0 to 9 are readable, and the packet number is 0
abbrev pub is_header : List ℕ → Bool
is_header s = are_readable (slice_range s 0 10) && (read_number s == 0)

-- the time-filling header of a magazine: page FF, subcode 3F7F, no control bit except C11, and 32 spaces (20) as they are sent
abbrev pub time_filling : ℕ → Bool → HeaderFields
time_filling mag serial = fields_at (id_at mag 0xff 0x3f7f) (if serial then 128 else 0) (replicate 24 32) (replicate 8 32)
