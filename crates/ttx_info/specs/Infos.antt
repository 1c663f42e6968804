-- Packet 8/30 format 1 (EN 300 706, 9.8.1): initial page, network, local offset, date, time, and 20 characters. Bits are counted
-- from 1, the lowest.
--
--   InfoFields, info_at     the fields, as contracts see an `Info`
--   IsInfoRange, IsInfoFields       their ranges
--   date_digits, time_digits, is_half_digit, value_of   the half bytes of date and time, each a digit plus one
--   info_fields, info_of      the fields that the bytes of a packet encode, or the first fault
--   are_clock_digits, info_behind_link, DecidesLink       the parts of that judgment: the clock, what comes after the link, and
--                               what comes before it
--   half_byte, offset_byte, date_bytes, time_bytes, info_bytes          the bytes that are written
--   SaysInfo                    the bytes encode the fields
use Rattle.std.specs.Prelude.{◌≡◌, ℕ, ◌+◌, ◌-◌, ◌*◌, ◌/◌, ◌%◌, ◌<◌, List, [], ◌∷◌, ◌++◌, All, Bool, nat_le, nat_lt, not, ◌==◌, ◌&&◌}
use Rattle.std.specs.Prelude.{Option, Some, Result, Ok, Err, if◌then◌else◌, is_some, length, map, slice_index, slice_range}
use Rattle.std.specs.List.{list_all}
use Rattle.ttx_code.specs.Words.{reading, hamming_word, is_odd, odd_byte}
use Rattle.ttx_packet.specs.Slots.{are_readable, address_bytes}
use Rattle.ttx_header.specs.Headers.{number}
use Rattle.ttx_header.specs.Ids.{Id}
use Rattle.ttx_links.specs.Sets.{link_at, link_bytes, SaysLink}
use Rattle.ttx_info.specs.declared.faults.InfoFault.{InfoFault}
use Rattle.ttx_info.specs.declared.faults.InfoFault.TheVariants.{Designation, Hamming, Digit, Parity}

-- The fields of packet 8/30 format 1. The offset is in half hours, negative if west; date and time are numbers made of their digits.
pub record InfoFields : Type 0 where
  pub designation : ℕ
  pub initial : Option Id
  pub network : List ℕ
  pub halves : ℕ
  pub west : Bool
  pub mjd : ℕ
  pub utc : ℕ
  pub text : List ℕ

abbrev pub info_at : ℕ → Option Id → List ℕ → ℕ → Bool → ℕ → ℕ → List ℕ → InfoFields
info_at designation initial network halves west mjd utc text =
    record { designation = designation; initial = initial; network = network; halves = halves; west = west; mjd = mjd; utc = utc; text = text }

-- designation 0 or 1, an offset of five bits, a date of five digits, a time of six, and characters below 128
pub record IsInfoRange (f : InfoFields) : Type 0 where
  pub designation : f.designation < 2
  pub halves : f.halves < 32
  pub mjd : f.mjd < 100000
  pub utc : f.utc < 1000000
  pub text : All (λ c. c < 128) f.text

-- these ranges, two bytes of network code, and 20 characters
pub record IsInfoFields (f : InfoFields) : Type 0 where
  pub range : IsInfoRange f
  pub network : length f.network ≡ 2
  pub text : length f.text ≡ 20

-- the half bytes of the date: the low half of byte 12, then each byte's high half before its low half
abbrev pub date_digits : List ℕ → List ℕ
date_digits s =
    slice_index s 12 % 16 ∷ slice_index s 13 / 16 ∷ slice_index s 13 % 16 ∷ slice_index s 14 / 16 ∷ slice_index s 14 % 16 ∷ []

-- the half bytes of the time
abbrev pub time_digits : List ℕ → List ℕ
time_digits s =
    slice_index s 15 / 16 ∷ slice_index s 15 % 16 ∷ slice_index s 16 / 16 ∷ slice_index s 16 % 16 ∷ slice_index s 17 / 16 ∷ slice_index s 17 % 16 ∷ []

-- a digit plus one: 1 to 10
abbrev pub is_half_digit : ℕ → Bool
is_half_digit half = nat_le 1 half && nat_le half 10

-- the number whose decimal digits are those of n and then these, each as a digit plus one
abbrev pub followed_by : ℕ → List ℕ → ℕ
followed_by n [] = n
followed_by n (half ∷ halves) = followed_by (10 * n + (half - 1)) halves

abbrev pub value_of : List ℕ → ℕ
value_of halves = followed_by 0 halves

-- each half byte of the date and the time is a digit plus one
abbrev pub are_clock_digits : List ℕ → Bool
are_clock_digits s = list_all is_half_digit (date_digits s) && list_all is_half_digit (time_digits s)

-- all fields of a packet without faults
abbrev pub info_fields : List ℕ → InfoFields
info_fields s =
    info_at (number s 2) (link_at 8 s 3) (slice_range s 9 11) (slice_index s 11 / 2 % 32) (slice_index s 11 / 64 % 2 == 1)
    (value_of (date_digits s)) (value_of (time_digits s)) (map (λ b. b % 128) (slice_range s 22 42))

-- what the clock and the characters decide if nothing before them has a fault
unfoldable pub info_behind_link : List ℕ → Result InfoFields InfoFault
info_behind_link s =
    if not (are_clock_digits s) then Err Digit
    else if not (list_all is_odd (slice_range s 22 42)) then Err Parity
    else Ok (info_fields s)

-- the fields, or the first fault in the order of the tests
unfoldable pub info_of : List ℕ → Result InfoFields InfoFault
info_of s =
    if not (is_some (reading (slice_index s 2))) then Err Hamming
    else if nat_lt 1 (number s 2) then Err Designation
    else if not (are_readable (slice_range s 3 9)) then Err Hamming
    else info_behind_link s

-- what bytes 2 to 8 decide: the fault; or the designation and the initial page, and then the other bytes decide
abbrev pub DecidesLink : List ℕ → Result (ℕ × Option Id) InfoFault → Type 0
DecidesLink s (Err fault) = info_of s ≡ Err fault
DecidesLink s (Ok link) = (info_of s ≡ info_behind_link s) × (link ≡ (number s 2, link_at 8 s 3))

-- a decimal digit of n as a half byte; unit is 1 for the last digit, 10 for the one before it, and so on
abbrev pub half_byte : ℕ → ℕ → ℕ
half_byte n unit = n / unit % 10 + 1

-- the half bytes of a date and of a time
abbrev pub date_halves : ℕ → List ℕ
date_halves mjd = half_byte mjd 10000 ∷ half_byte mjd 1000 ∷ half_byte mjd 100 ∷ half_byte mjd 10 ∷ half_byte mjd 1 ∷ []

abbrev pub time_halves : ℕ → List ℕ
time_halves utc =
    half_byte utc 100000 ∷ half_byte utc 10000 ∷ half_byte utc 1000 ∷ half_byte utc 100 ∷ half_byte utc 10 ∷ half_byte utc 1 ∷ []

-- bits 2 to 6 are the half hours, bit 7 is set if west; bits 1 and 8 are written as 1
abbrev pub offset_byte : ℕ → Bool → ℕ
offset_byte halves west = 129 + 2 * halves + (if west then 64 else 0)

-- five digits; the high half of the first byte is written as 0 (profile)
abbrev pub date_bytes : ℕ → List ℕ
date_bytes mjd =
    half_byte mjd 10000 ∷ (16 * half_byte mjd 1000 + half_byte mjd 100) ∷ (16 * half_byte mjd 10 + half_byte mjd 1) ∷ []

-- six digits
abbrev pub time_bytes : ℕ → List ℕ
time_bytes utc =
    (16 * half_byte utc 100000 + half_byte utc 10000) ∷ (16 * half_byte utc 1000 + half_byte utc 100)
    ∷ (16 * half_byte utc 10 + half_byte utc 1) ∷ []

-- the bytes of the packet; bytes 18 to 21 are written as 0 (profile)
abbrev pub info_bytes : InfoFields → List ℕ
info_bytes f =
    (address_bytes 8 30 ++ hamming_word f.designation ∷ []) ++ link_bytes 8 f.initial ++ f.network
    ++ (offset_byte f.halves f.west ∷ date_bytes f.mjd ++ time_bytes f.utc ++ 0 ∷ 0 ∷ 0 ∷ 0 ∷ []) ++ map odd_byte f.text

-- The bytes encode the fields: byte 2, the link, the network code, bits 2 to 7 of byte 11, eleven half bytes, and 20 characters.
-- Bits 1 and 8 of byte 11, the high half of byte 12 and bytes 18 to 21 may be anything.
pub record SaysInfo (f : InfoFields) (s : List ℕ) : Type 0 where
  pub designation : reading (slice_index s 2) ≡ Some f.designation
  pub initial : SaysLink 8 f.initial s 3
  pub network : slice_range s 9 11 ≡ f.network
  pub halves : slice_index s 11 / 2 % 32 ≡ f.halves
  pub west : (slice_index s 11 / 64 % 2 == 1) ≡ f.west
  pub date : date_digits s ≡ date_halves f.mjd
  pub time : time_digits s ≡ time_halves f.utc
  pub text : slice_range s 22 42 ≡ map odd_byte f.text
