-- Laws of packet 8/30 format 1, for the layers above. Each is proved by the function of its name in `laws`.
--
--   SaidInfosAreRead        the fields that 42 bytes encode are the ones that are read
--   ReadInfosAreSaid        the fields that are read are ones that the 42 bytes encode
--   WrittenInfosAreRead     written fields are read as the same fields
use Rattle.std.specs.Prelude.{◌≡◌, ℕ, List, Ok, true}
use Rattle.ttx_packet.specs.Slots.{IsSlot, IsInfo, kind_of, is_clean}
use Rattle.ttx_links.specs.Sets.{IsLink}
use Rattle.ttx_info.specs.Infos.{InfoFields, IsInfoFields, SaysInfo, info_of, info_bytes}

-- 42 bytes that encode fields are read as these fields
abbrev pub SaidInfosAreRead : Type 0
SaidInfosAreRead = (f : InfoFields) (s : List ℕ) → IsInfoFields f → IsLink f.initial → IsSlot s → SaysInfo f s → info_of s ≡ Ok f

-- 42 bytes that are read as fields encode these fields, which are in range
abbrev pub ReadInfosAreSaid : Type 0
ReadInfosAreSaid = (f : InfoFields) (s : List ℕ) → IsSlot s → info_of s ≡ Ok f → IsInfoFields f × IsLink f.initial × SaysInfo f s

-- the bytes written for fields are clean, have the kind of packet 8/30, encode the fields, and are read as the same fields
pub record IsInfoWritten (f : InfoFields) : Type 0 where
  pub kind : kind_of (info_bytes f) ≡ IsInfo
  pub clean : is_clean (info_bytes f) ≡ true
  pub says : SaysInfo f (info_bytes f)
  pub fields : info_of (info_bytes f) ≡ Ok f

abbrev pub WrittenInfosAreRead : Type 0
WrittenInfosAreRead = (f : InfoFields) → IsInfoFields f → IsLink f.initial → IsInfoWritten f
