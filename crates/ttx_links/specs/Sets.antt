-- Packets X/27/0: six links and the link control (EN 300 706, 9.6.1). Bytes 3 to 38 are six links of six Hamming 8/4 words each,
-- byte 39 is the link control, and bytes 40 and 41 are the page CRC, which is carried as given.
--
--   IsTarget, IsLink, AreLinks              what links may lead to
--   LinkSet, no_links       what a receiver keeps of a packet X/27/0
--   LinksFields, links_at, IsLinksFields            the fields of a packet, as contracts see `Links`
--   target_magazine, target_at, link_at         the link in the six bytes from byte k on
--   set_of, links_of, links_fields             what is read from the bytes of a packet
--   link_numbers, numbers_for, link_bytes, control_byte, links_bytes        the bytes that are written
--   SaysLink, SaysLinks          the packet that 42 bytes encode
--   is_exact                bytes 3 to 39 are code words
use Rattle.std.specs.Prelude.{◌≡◌, ℕ, ◌+◌, ◌*◌, ◌/◌, ◌%◌, ◌<◌, List, [], ◌∷◌, ◌++◌, Bool, false, ◌==◌, Option, Some, None}
use Rattle.std.specs.Prelude.{if◌then◌else◌, flat_map, map, length, replicate, slice_index, slice_range, bit_xor}
use Rattle.ttx_code.specs.Words.{reading, hamming_word}
use Rattle.ttx_packet.specs.Slots.{are_readable, are_words, magazine, address_bytes}
use Rattle.ttx_header.specs.Ids.{Id, id_at, IsId, is_time_filling}
use Rattle.ttx_header.specs.Headers.{ReadsFrom, number}

-- the ranges of a page's id, except page FF with subcode 3F7F
pub record IsTarget (id : Id) : Type 0 where
  pub ranges : IsId id
  pub link : is_time_filling id ≡ false

-- Six links, each a target or none, and whether row 24 is shown.
pub record LinkSet : Type 0 where
  pub six : List (Option Id)
  pub show24 : Bool

-- no links, and row 24 not shown
abbrev pub no_links : LinkSet
no_links = record { six = replicate 6 None; show24 = false }

-- a link that leads somewhere leads to a target in range
abbrev pub IsLink : Option Id → Type 0
IsLink None = Unit {0}
IsLink (Some id) = IsTarget id

abbrev pub AreLinks : List (Option Id) → Type 0
AreLinks [] = Unit {0}
AreLinks (link ∷ links) = IsLink link × AreLinks links

-- The fields of a packet X/27/0, as contracts see `Links`.
pub record LinksFields : Type 0 where
  pub set : LinkSet
  pub crc : List ℕ

abbrev pub links_at : List (Option Id) → Bool → List ℕ → LinksFields
links_at six show24 crc = record { set = record { six = six; show24 = show24 }; crc = crc }

-- six links, and two bytes
pub record IsLinksFields (fields : LinksFields) : Type 0 where
  pub six : length fields.set.six ≡ 6
  pub crc : length fields.crc ≡ 2

-- the magazine of the target: that of the packet XOR M1 + 2 M2 + 4 M3, where magazine 8 counts as 0
abbrev pub target_magazine : ℕ → ℕ → ℕ
target_magazine mag m = magazine (bit_xor (mag % 8) m)

-- the target in six bytes from k on: units, tens, S1, S2 with M1, S3, S4 with M2 and M3
abbrev pub target_at : ℕ → List ℕ → ℕ → Id
target_at mag s k =
    id_at (target_magazine mag (number s (k + 3) / 8 + 2 * (number s (k + 5) / 4))) (number s k + 16 * number s (k + 1))
    (number s (k + 2) + 16 * (number s (k + 3) % 8) + 256 * number s (k + 4) + 4096 * (number s (k + 5) % 4))

-- page FF with subcode 3F7F is no link
abbrev pub linked : Id → Option Id
linked id = if is_time_filling id then None else Some id

abbrev pub link_at : ℕ → List ℕ → ℕ → Option Id
link_at mag s k = linked (target_at mag s k)

-- the six links, and D4 of the link control
abbrev pub set_of : ℕ → List ℕ → LinkSet
set_of mag s = record {
  six = link_at mag s 3 ∷ link_at mag s 9 ∷ link_at mag s 15 ∷ link_at mag s 21 ∷ link_at mag s 27 ∷ link_at mag s 33 ∷ [];
  show24 = number s 39 / 8 == 1;
}

-- the contents of a packet X/27/0 of the magazine; None if one of bytes 3 to 39 is unreadable
unfoldable pub links_of : ℕ → List ℕ → Option LinkSet
links_of mag s = if are_readable (slice_range s 3 40) then Some (set_of mag s) else None

-- all fields of a packet whose bytes 3 to 39 are readable
abbrev pub links_fields : ℕ → List ℕ → LinksFields
links_fields mag s = record { set = set_of mag s; crc = slice_range s 40 42 }

-- what is sent for no link; its magazine is not sent
abbrev pub no_link : Id
no_link = id_at 8 0xff 0x3f7f

-- the numbers of a link's six bytes: units, tens, S1, S2 with M1, S3, S4 with M2 and M3, where m is M1 + 2 M2 + 4 M3
abbrev pub link_numbers : ℕ → Id → List ℕ
link_numbers m id =
    id.page % 16 ∷ id.page / 16 ∷ id.sub % 16 ∷ (id.sub / 16 % 8 + 8 * (m % 2)) ∷ id.sub / 256 % 16 ∷ (id.sub / 4096 + 4 * (m / 2)) ∷ []

-- the numbers sent for a link in a packet of the magazine; no link is page FF, subcode 3F7F, with M1 to M3 zero
abbrev pub numbers_for : ℕ → Option Id → List ℕ
numbers_for mag None = link_numbers 0 no_link
numbers_for mag (Some id) = link_numbers (bit_xor (mag % 8) (id.mag % 8)) id

-- the bytes sent for a link
abbrev pub link_bytes : ℕ → Option Id → List ℕ
link_bytes mag link = map hamming_word (numbers_for mag link)

-- the link control as it is written: D4 is show24, D1 to D3 are 1 (profile)
abbrev pub control_byte : Bool → ℕ
control_byte show24 = hamming_word (if show24 then 15 else 7)

-- the bytes sent for a packet X/27/0: address, designation 0, six links, link control, page CRC
abbrev pub links_bytes : ℕ → LinksFields → List ℕ
links_bytes mag f = address_bytes mag 27 ++ hamming_word 0 ∷ flat_map (link_bytes mag) f.set.six ++ control_byte f.set.show24 ∷ f.crc

-- The six bytes from k on encode the link. Where there is no link, M1 to M3 may be anything.
abbrev pub SaysLink : ℕ → Option Id → List ℕ → ℕ → Type 0
SaysLink mag None s k = (m : ℕ) × (m < 8) × ReadsFrom k s (link_numbers m no_link)
SaysLink mag (Some id) s k = ReadsFrom k s (numbers_for mag (Some id))

-- the bytes from k on encode one link after another
abbrev pub SaysEach : ℕ → List (Option Id) → List ℕ → ℕ → Type 0
SaysEach mag [] s k = Unit {0}
SaysEach mag (link ∷ links) s k = SaysLink mag link s k × SaysEach mag links s (k + 6)

-- Bytes 3 to 38 encode the six links, D4 of byte 39 is show24 and its other bits may be anything, bytes 40 and 41 are the page CRC.
pub record SaysLinks (mag : ℕ) (f : LinksFields) (s : List ℕ) : Type 0 where
  pub links : SaysEach mag f.set.six s 3
  pub control : (n : ℕ) × (reading (slice_index s 39) ≡ Some n) × ((n / 8 == 1) ≡ f.set.show24)
  pub crc : slice_range s 40 42 ≡ f.crc

-- bytes 3 to 39 are code words
abbrev pub is_exact : List ℕ → Bool
is_exact s = are_words (slice_range s 3 40)
