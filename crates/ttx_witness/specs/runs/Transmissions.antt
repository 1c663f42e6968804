-- The transmissions of one item of a page in one period of a cycle, as numbers, without packets.
-- Slots are whole numbers, possibly negative, counted from the first slot of the period.
--
--   Transmission            its slot, the slot of its owner (the page header that it belongs to), and whether it is sure
--   Run                     k successive transmissions: the first slot, its owner, the last slot, whether all are sure
--   later, moved_run        the same one period later, or some slots later
--   further, extended       the transmissions that follow a period's, round the cycle
--   windows, run_of, runs   the lists of k successive elements; the run of such a list; the runs of one period
use Rattle.std.specs.Prelude.{ℕ, zero, suc, ℤ, pos, ◌+ℤ◌, Bool, if◌then◌else◌, List, [], ◌∷◌, ◌++◌, length, map, take, nat_le, false}
use Rattle.std.specs.List.{list_all}
pub use Rattle.ttx_witness.specs.declared.runs.transmissions.Transmission.{Transmission}
pub use Rattle.ttx_witness.specs.declared.runs.transmissions.Run.{Run}

abbrev pub slot_of : Transmission → ℤ
slot_of t = t.slot

abbrev pub start_of : Run → ℤ
start_of r = r.start

-- the same transmission one period of n slots later
abbrev pub later : ℕ → Transmission → Transmission
later n t = record { slot = t.slot +ℤ pos n; owner = t.owner +ℤ pos n; sure = t.sure }

-- the same run d slots later
abbrev pub moved_run : ℤ → Run → Run
moved_run d r = record { start = r.start +ℤ d; owner = r.owner +ℤ d; end = r.end +ℤ d; sure = r.sure }

-- the k transmissions after those of a period of n slots, which repeat
unfoldable pub further : ℕ → ℕ → List Transmission → List Transmission
further n zero ts = []
further n (suc k) [] = []
further n (suc k) (t ∷ ts) = later n t ∷ further n k (ts ++ later n t ∷ [])

-- a period's transmissions and the k after them
abbrev pub extended : ℕ → ℕ → List Transmission → List Transmission
extended n k ts = ts ++ further n k ts

-- the slot of the last transmission of a list
abbrev pub last_slot : ℤ → List Transmission → ℤ
last_slot z [] = z
last_slot z (t ∷ ts) = last_slot t.slot ts

abbrev pub all_sure : List Transmission → Bool
all_sure ts = list_all (λ t. t.sure) ts

-- all lists of k successive elements
unfoldable pub windows : {A : Type 0} → ℕ → List A → List (List A)
windows k [] = []
windows k (t ∷ ts) = if nat_le k (suc (length ts)) then take k (t ∷ ts) ∷ windows k ts else []

abbrev pub run_between : Transmission → Transmission → Bool → Run
run_between first last sure = record { start = first.slot; owner = first.owner; end = last.slot; sure = sure }

-- the run of a list of successive transmissions
abbrev pub run_of : List Transmission → Run
run_of [] = record { start = pos 0; owner = pos 0; end = pos 0; sure = false }
run_of (t ∷ ts) = record { start = t.slot; owner = t.owner; end = last_slot t.slot ts; sure = all_sure (t ∷ ts) }

-- the runs that begin in one period of n slots, each of suc k transmissions
abbrev pub runs : ℕ → ℕ → List Transmission → List Run
runs n k ts = map run_of (windows (suc k) (extended n k ts))
