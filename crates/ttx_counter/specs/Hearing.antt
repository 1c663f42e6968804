-- What a receiver with a script does with the slots of a run.
--
--   IsHitBy                 what is received of a slot, if these bits are hit
--   script_after            a receiver with a script after a list of slots
--   IsHeard                 a receiver before and after it is given slots of a stream
use Rattle.std.specs.Prelude.{◌≡◌, ℕ, ◌<◌, pos, ◌+ℤ◌, List, [], ◌∷◌, length, slice_index, slice_index_or}
use Rattle.ttx_page.specs.Streams.{Stream}
use Rattle.ttx_receiver.specs.Tuning.{Script, script_step}
use Rattle.ttx_counter.specs.Counters.{flipped}
use Rattle.ttx_counter.specs.Keys.{key_at, slot_in, byte_in, bit_in}

pub record IsHitBy (keys : List ℕ) (n : ℕ) (sent received : List ℕ) : Type 0 where
  pub size : length received ≡ length sent
  pub hit : (i : ℕ) → i < length keys → slot_in (key_at keys i) ≡ n →
      slice_index received (byte_in (key_at keys i)) ≡ flipped (bit_in (key_at keys i)) (slice_index sent (byte_in (key_at keys i)))
  pub other : (x : ℕ) → ((i : ℕ) → i < length keys → slot_in (key_at keys i) ≡ n → byte_in (key_at keys i) ≡ x → ⊥) →
      slice_index received x ≡ slice_index sent x

unfoldable pub script_after : Script → List (List ℕ) → Script
script_after r [] = r
script_after r (slot ∷ received) = script_after (script_step r slot) received

pub record IsHeard (s : Stream) (start n : ℕ) (keys : List ℕ) (old new : Script) : Type 0 where
  pub received : List (List ℕ)
  pub count : length received ≡ n
  pub each : (i : ℕ) → i < n → IsHitBy keys i (s (pos start +ℤ pos i)) (slice_index_or received i [])
  pub reached : new ≡ script_after old received
