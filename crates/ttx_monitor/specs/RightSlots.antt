-- Slots in which no byte is wrong. Bytes that are not compared may have come as anything.
--
--   IsRight                 one by itself, whose first bytes are all right
--   IsRightNext             one that comes after a feed, in which each text byte of the pages is right
use Rattle.std.specs.Prelude.{◌≡◌, ℕ, ◌<◌, List, length, slice_index, Option}
use Rattle.ttx_packet.specs.Receptions.{MayBeReceivedAs}
use Rattle.ttx_monitor.specs.Watching.{Watched, sent_at}
use Rattle.ttx_monitor.specs.Totals.{wrong_in, bits_in}
use Rattle.ttx_monitor.specs.Streaks.{AreTextsRight}
use Rattle.ttx_monitor.specs.declared.places.RowPlace.{RowPlace}

pub record IsRight (sent received : List ℕ) (first : ℕ) : Type 0 where
  pub may : MayBeReceivedAs sent received
  pub wrong : wrong_in sent received ≡ 0
  pub bits : bits_in sent received ≡ 0
  pub same : (x : ℕ) → x < first → slice_index received x ≡ slice_index sent x

pub record IsRightNext (w : Watched) (table : List (Option RowPlace)) (feed : List (List ℕ)) (slot : List ℕ) : Type 0 where
  pub may : MayBeReceivedAs (sent_at w (length feed)) slot
  pub wrong : wrong_in (sent_at w (length feed)) slot ≡ 0
  pub bits : bits_in (sent_at w (length feed)) slot ≡ 0
  pub texts : AreTextsRight w table feed slot
