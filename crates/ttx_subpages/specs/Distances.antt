-- The next header of a magazine or of a selection, or the next one that may end a page.
--
--   may_end                 a header that may end a page of a magazine
--   seeks                   a header that is looked for
--   IsDistance              so many slots after slot `at` comes one, and none before
use Rattle.std.specs.Prelude.{◌≡◌, ℕ, ◌+◌, ◌<◌, pos, Bool, true, false, ◌||◌, ◌==◌}
use Rattle.ttx_header.specs.Control.{c11}
use Rattle.ttx_page.specs.Packets.{Packet, Header, packet_of}
use Rattle.ttx_page.specs.Streams.{Stream, heads, heads_matched}
use Rattle.ttx_subpages.specs.declared.sought.Sought.{Sought}
use Rattle.ttx_subpages.specs.declared.sought.Sought.TheVariants.{Magazine, Ending, Matched}

-- one of the magazine, or in serial transmission (C11) one of any
abbrev pub may_end : ℕ → Packet → Bool
may_end mag (Header id control text) = (id.mag == mag) || c11 control
may_end mag _ = false

abbrev pub seeks : Sought → Packet → Bool
seeks (Magazine mag) packet = heads mag packet
seeks (Ending mag) packet = may_end mag packet
seeks (Matched sel) packet = heads_matched sel packet

pub record IsDistance (s : Stream) (sought : Sought) (at distance : ℕ) : Type 0 where
  pub some : 0 < distance
  pub here : seeks sought (packet_of (s (pos (at + distance)))) ≡ true
  pub none : (i : ℕ) → at < i → i < at + distance → seeks sought (packet_of (s (pos i))) ≡ false
