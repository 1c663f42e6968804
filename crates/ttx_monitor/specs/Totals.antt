-- What a monitor counts of a feed (profile).
--
--   compared_bytes          how many bytes of a packet of this kind are compared, from byte 0 on: not a page header's clock, and not what
--                           follows the address of packet 8/30
--   count_to, sum_to        how many of the numbers below n pass a test; the sum of what is counted at them
--   is_wrong, wrong_in, wrong_bytes         a byte was not received as it was sent; how many of a slot, and of the first n slots
--   bits_in                 how many bits of a slot are wrong; of a lost packet, and of what was received where none was sent, none is counted
--   with_repeat, IsLongestStreak    the same feed under another repeat count; the longest streak of wrong transmissions of a text byte
use Rattle.std.specs.Prelude.{ℕ, zero, suc, ◌+◌, ◌≤◌, Bool, not, ◌||◌, ◌==◌, if◌then◌else◌, List, [], slice_index, slice_index_or}
use Rattle.ttx_code.specs.Words.{distance}
use Rattle.ttx_packet.specs.Slots.{Kind, IsHeader, IsInfo, kind_of, is_empty}
use Rattle.ttx_monitor.specs.Watching.{Watched, watched, sent_at, IsWithin}

abbrev pub compared_bytes : Kind → ℕ
compared_bytes (IsHeader mag) = 34
compared_bytes IsInfo = 2
compared_bytes _ = 42

unfoldable pub count_to : (ℕ → Bool) → ℕ → ℕ
count_to test zero = zero
count_to test (suc n) = if test n then suc (count_to test n) else count_to test n

abbrev pub is_wrong : List ℕ → List ℕ → ℕ → Bool
is_wrong sent received x = not (slice_index received x == slice_index sent x)

abbrev pub wrong_in : List ℕ → List ℕ → ℕ
wrong_in sent received = count_to (is_wrong sent received) (compared_bytes (kind_of sent))

unfoldable pub sum_to : (ℕ → ℕ) → ℕ → ℕ
sum_to of zero = zero
sum_to of (suc n) = sum_to of n + of n

abbrev pub wrong_bits_at : List ℕ → List ℕ → ℕ → ℕ
wrong_bits_at sent received x = distance (slice_index sent x) (slice_index received x)

abbrev pub bits_in : List ℕ → List ℕ → ℕ
bits_in sent received =
    if is_empty sent || is_empty received then 0 else sum_to (wrong_bits_at sent received) (compared_bytes (kind_of sent))

unfoldable pub wrong_bytes : Watched → List (List ℕ) → ℕ → ℕ
wrong_bytes w feed zero = zero
wrong_bytes w feed (suc n) = wrong_bytes w feed n + wrong_in (sent_at w n) (slice_index_or feed n [])

abbrev pub with_repeat : Watched → ℕ → Watched
with_repeat w repeat = watched w.cycle w.pages repeat w.start

-- of each n + 1 successive transmissions of a text byte one is right, and not of each n
pub record IsLongestStreak (w : Watched) (feed : List (List ℕ)) (n : ℕ) : Type 0 where
  pub most : IsWithin (with_repeat w (n + 1)) feed
  pub least : 1 ≤ n → IsWithin (with_repeat w n) feed → ⊥
