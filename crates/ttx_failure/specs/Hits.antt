-- What was received wrong: a wrong bit each.
--
--   IsBit, AreBits          a hit of a bit of a slot, whatever slot it is; some
--   most_listed             how many wrong bytes, and how many choices, are listed
--   byte_text, kind_text    which byte of a packet of this kind
--   bytes_text              a byte as it was sent, and with one bit wrong
--   hit_text, hits_html     the words of a wrong bit; the items of wrong bits
--   rest_text               how many more there are
use Rattle.std.specs.Prelude.{ℕ, ◌-◌, ◌<◌, ◌≤◌, All, nat_le, if◌then◌else◌, List, [], ◌∷◌, ◌++◌, codes, slice_index, slice_index_or}
use Rattle.std.specs.Fmt.{decimal}
use Rattle.ttx_counter.specs.Counters.{flipped}
use Rattle.ttx_counter.specs.declared.counter.Hit.{Hit}
use Rattle.ttx_digits.specs.Digits.{hex_byte}
use Rattle.ttx_failure.specs.Forms.{item_start, item_end}
use Rattle.ttx_failure.specs.Places.{slot_of_run, moment_text}
use Rattle.ttx_failure.specs.declared.forms.FailureForm.{FailureForm}
use Rattle.ttx_failure.specs.declared.packets.NamedPacket.{NamedPacket}
use Rattle.ttx_failure.specs.declared.packets.NamedPacket.TheVariants.{Header, Row, Links, Another}
use Rattle.ttx_failure.specs.NamedPackets.{named, row_name, links_name}
use Rattle.ttx_packet.specs.Slots.{kind_of}

pub record IsBit (hit : Hit) : Type 0 where
  pub byte : hit.byte < 42
  pub some : 1 ≤ hit.bit
  pub bit : hit.bit ≤ 8

abbrev pub AreBits : List Hit → Type 0
AreBits hits = All IsBit hits

abbrev pub most_listed : ℕ
most_listed = 20

unfoldable pub byte_text : ℕ → List ℕ
byte_text byte = codes ", byte " ++ decimal byte

-- the characters of a row begin at byte 2, those of a header at column 8
unfoldable pub column_text : ℕ → ℕ → List ℕ
column_text least byte = if nat_le least byte then codes ", column " ++ decimal (byte - 2) else byte_text byte

unfoldable pub another_name : List ℕ
another_name = codes "another packet"

unfoldable pub kind_text : NamedPacket → ℕ → List ℕ
kind_text (Header mag) byte = row_name 0 mag ++ column_text 10 byte
kind_text (Row mag number) byte = row_name number mag ++ column_text 2 byte
kind_text (Links mag) byte = links_name mag ++ byte_text byte
kind_text Another byte = another_name ++ byte_text byte

unfoldable pub bytes_text : ℕ → ℕ → List ℕ
bytes_text sent received = codes ": sent " ++ hex_byte sent ++ codes ", received " ++ hex_byte received

unfoldable pub slot_text : List ℕ → Hit → List ℕ
slot_text slot hit =
    kind_text (named (kind_of slot)) hit.byte ++ bytes_text (slice_index slot hit.byte) (flipped hit.bit (slice_index slot hit.byte))

unfoldable pub hit_text : List (List ℕ) → ℕ → ℕ → ℕ → Hit → List ℕ
hit_text slots period lines start hit =
    moment_text period lines start hit.index ++ codes ": " ++ slot_text (slice_index_or slots (slot_of_run period start hit.index) []) hit

unfoldable pub hit_item : FailureForm → List (List ℕ) → ℕ → ℕ → ℕ → Hit → List ℕ
hit_item form slots period lines start hit = item_start form ++ hit_text slots period lines start hit ++ item_end form

abbrev pub hit_items : FailureForm → List (List ℕ) → ℕ → ℕ → ℕ → List Hit → List ℕ
hit_items form slots period lines start [] = []
hit_items form slots period lines start (hit ∷ hits) =
    hit_item form slots period lines start hit ++ hit_items form slots period lines start hits

unfoldable pub more_text : ℕ → List ℕ
more_text more = codes "and " ++ decimal more ++ codes " more"

unfoldable pub more_item : FailureForm → ℕ → List ℕ
more_item form more = item_start form ++ more_text more ++ item_end form

-- of so many, if they are not all listed
unfoldable pub rest_item : FailureForm → ℕ → List ℕ
rest_item form count =
    if nat_le count most_listed then [] else more_item form (count - most_listed)
