-- The forms in which packets of teletext are delivered (profile): with nothing before the 42 bytes of a packet, with a framing code, or with
-- clock run-in and framing code (EN 300 706 counts bytes after these three); from any byte on; each byte as sent, or its bits in reverse order.
--
--   as_sent                 packets of 42 bytes, from byte 0 on, as sent
--   packets_in, packet_at   how many packets the bytes hold, and the 42 bytes of one of them
--   is_framing, is_framed   the framing code, with its bits in either order; it stands before a packet, where anything does
--   sent_to, read_to        how many of the first n packets are not empty; how many read behind their framing code
--   fits                    at least four packets read, and half of those that are not empty
--   form_at, forms          all forms, by numbers below 260
use Rattle.std.specs.Prelude.{ℕ, zero, suc, ◌+◌, ◌-◌, ◌*◌, ◌/◌, ◌%◌, Bool, false, ◌&&◌, ◌||◌, ◌==◌, nat_le, nat_lt, if◌then◌else◌, List}
use Rattle.std.specs.Prelude.{length, map, take, drop, slice_index}
use Rattle.std.specs.Int.{reverse_bits, w8}
use Rattle.ttx_packet.specs.Slots.{is_empty}
use Rattle.ttx_recognition.specs.Packets.{reads}
use Rattle.ttx_recognition.specs.declared.form.Form.{Form}

abbrev pub as_sent : Form
as_sent = record { size = 42; off = 0; reversed = false }

abbrev pub packets_in : Form → List ℕ → ℕ
packets_in f bytes = (length bytes - f.off) / f.size

abbrev pub ordered : Bool → List ℕ → List ℕ
ordered reversed packet = if reversed then map (reverse_bits w8) packet else packet

abbrev pub packet_at : Form → List ℕ → ℕ → List ℕ
packet_at f bytes i = ordered f.reversed (take 42 (drop (f.off + f.size * i + (f.size - 42)) bytes))

-- 27 or E4. Both are near code words, so that packets often read one byte too early as well, if their framing codes are taken for addresses.
abbrev pub is_framing : ℕ → Bool
is_framing byte = (byte == 39) || (byte == 228)

abbrev pub is_framed : Form → List ℕ → ℕ → Bool
is_framed f bytes i = (f.size == 42) || is_framing (slice_index bytes (f.off + f.size * i + (f.size - 43)))

unfoldable pub sent_to : Form → List ℕ → ℕ → ℕ
sent_to f bytes zero = zero
sent_to f bytes (suc n) = if is_empty (packet_at f bytes n) then sent_to f bytes n else suc (sent_to f bytes n)

unfoldable pub read_to : Form → List ℕ → ℕ → ℕ
read_to f bytes zero = zero
read_to f bytes (suc n) = if is_framed f bytes n && reads (packet_at f bytes n) then suc (read_to f bytes n) else read_to f bytes n

abbrev pub sent_in : Form → List ℕ → ℕ
sent_in f bytes = sent_to f bytes (packets_in f bytes)

abbrev pub read_in : Form → List ℕ → ℕ
read_in f bytes = read_to f bytes (packets_in f bytes)

abbrev pub fits : Form → List ℕ → Bool
fits f bytes = nat_le 4 (read_in f bytes) && nat_le (sent_in f bytes) (2 * read_in f bytes)

-- sizes 42, 43 and 45, each from every byte of a packet on
abbrev pub size_at : ℕ → ℕ
size_at n = if nat_lt n 42 then 42 else if nat_lt n 85 then 43 else 45

abbrev pub off_at : ℕ → ℕ
off_at n = if nat_lt n 42 then n else if nat_lt n 85 then n - 42 else n - 85

abbrev pub form_at : ℕ → Form
form_at n = record { size = size_at (n % 130); off = off_at (n % 130); reversed = nat_le 130 n }

abbrev pub forms : ℕ
forms = 260
