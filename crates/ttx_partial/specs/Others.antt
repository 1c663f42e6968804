-- The packets of which a service text has nothing.
--
--   is_other                a packet of another kind than headers, rows 1 to 24, X/27/0 and 8/30
--   others_to, others       how many of the first n slots have such a packet; how many of all
use Rattle.std.specs.Prelude.{ℕ, zero, suc, Bool, true, false, if◌then◌else◌, List, [], length, slice_index_or}
use Rattle.ttx_packet.specs.Slots.{Kind, IsOther, kind_of}

abbrev pub is_other_kind : Kind → Bool
is_other_kind (IsOther mag number) = true
is_other_kind kind = false

abbrev pub is_other : List ℕ → Bool
is_other slot = is_other_kind (kind_of slot)

unfoldable pub others_to : List (List ℕ) → ℕ → ℕ
others_to slots zero = zero
others_to slots (suc n) = if is_other (slice_index_or slots n []) then suc (others_to slots n) else others_to slots n

abbrev pub others : List (List ℕ) → ℕ
others slots = others_to slots (length slots)
