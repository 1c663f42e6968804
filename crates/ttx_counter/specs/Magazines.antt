-- Which magazine a slot concerns.
--
--   magazine_in, magazine_of        the magazine of a header, a row or an X/27/0; 0 for any other packet
use Rattle.std.specs.Prelude.{ℕ, List}
use Rattle.ttx_page.specs.Packets.{Packet, Header, Row, Links, packet_of}

abbrev pub magazine_in : Packet → ℕ
magazine_in (Header id control text) = id.mag
magazine_in (Row mag number text) = mag
magazine_in (Links mag content) = mag
magazine_in _ = 0

abbrev pub magazine_of : List ℕ → ℕ
magazine_of slot = magazine_in (packet_of slot)
