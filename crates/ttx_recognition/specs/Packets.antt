-- Whether 42 bytes read as a packet of teletext, whatever sent them (profile).
--
--   odd_to, is_text         how many of the first n bytes have odd parity; at least three of four have
--   reads                   a page header or a row with such text, or another packet whose first three bytes are code words
use Rattle.std.specs.Prelude.{ℕ, zero, suc, ◌*◌, Bool, false, nat_le, if◌then◌else◌, List, length, drop, slice_index, slice_range}
use Rattle.ttx_code.specs.Words.{is_odd}
use Rattle.ttx_packet.specs.Slots.{Kind, IsEmpty, IsUnreadable, IsHeader, IsRow, IsLinks, IsInfo, IsOther, kind_of, are_words}

unfoldable pub odd_to : List ℕ → ℕ → ℕ
odd_to bytes zero = zero
odd_to bytes (suc n) = if is_odd (slice_index bytes n) then suc (odd_to bytes n) else odd_to bytes n

abbrev pub is_text : List ℕ → Bool
is_text bytes = nat_le (3 * length bytes) (4 * odd_to bytes (length bytes))

abbrev pub reads_as : Kind → List ℕ → Bool
reads_as IsEmpty packet = false
reads_as IsUnreadable packet = false
reads_as (IsHeader mag) packet = is_text (drop 10 packet)
reads_as (IsRow mag number) packet = is_text (drop 2 packet)
reads_as (IsLinks mag) packet = are_words (slice_range packet 0 3)
reads_as IsInfo packet = are_words (slice_range packet 0 3)
reads_as (IsOther mag number) packet = are_words (slice_range packet 0 3)

abbrev pub reads : List ℕ → Bool
reads packet = reads_as (kind_of packet) packet
