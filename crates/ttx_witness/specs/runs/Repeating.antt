-- The transmissions of one item in a stream that repeats every n slots, and when named starts cover the item. The stream is given by
-- two relations between the slot h of a header and a slot j: j is a transmission under the header at h (Owned h j), and no permitted
-- receiver misses it (Sure h j).
--
--   Lists                   a list of all slots with a property, from one slot to below another
--   Repeats                 what the two relations must satisfy
--   IsRunOf, IsNamedRun     numbers that describe a run of the stream; a run from a named slot
--   turned, IsNamed         slots of a period, and named starts round the cycle
--   Covers                  the named starts cover the item from every tuning slot
--   IsBad, IsLate, IsFirst  a named start without a sure run; one that the next follows too late; the first such start
--   FollowInTime            each run ends within the limit after the owner of the one before it
use Rattle.std.specs.Prelude.{◌≡◌, ◌↔◌, ℕ, ◌<◌, ◌≤◌, ℤ, pos, ◌+ℤ◌, ◌-ℤ◌, ◌<ℤ◌, ◌≤ℤ◌, true, List, [], ◌∷◌, length}
use Rattle.std.specs.Prelude.{Contains, slice_index_or, Option, Some, None}
pub use Rattle.ttx_page.specs.Runs.{IsSentAt, IsSureSent, Successive, IsRunFrom, BeginsSureRun, RunEndsBelow}
pub use Rattle.ttx_page.specs.Streams.{turned}
pub use Rattle.ttx_certificate.specs.NamedStarts.{next_start}
use Rattle.ttx_witness.specs.runs.Transmissions.{Transmission, Run, slot_of}

-- ts has an element for every slot from `low` to below `high` with property P, in order, and each element satisfies Is
abbrev pub Lists : {A : Type 0} → (A → ℤ) → (ℤ → Type 0) → (A → Type 0) → ℤ → ℤ → List A → Type 0
Lists at P Is low high [] = (x : ℤ) → low ≤ℤ x → x <ℤ high → P x → ⊥
Lists at P Is low high (t ∷ ts) =
    Is t
    × (low ≤ℤ (at t))
    × ((at t) <ℤ high)
    × ((x : ℤ) → low ≤ℤ x → x <ℤ (at t) → P x → ⊥)
    × Lists at P Is ((at t) +ℤ pos 1) high ts

-- each slot has one owner, not after it, at most one period before it, and not falling; and all is the same one period later
pub record Repeats (n : ℕ) (Owned Sure : ℤ → ℤ → Type 0) : Type 0 where
  pub some : 1 ≤ n
  pub one_owner : (h k j : ℤ) → Owned h j → Owned k j → h ≡ k
  pub before : (h j : ℤ) → Owned h j → h ≤ℤ j
  pub near : (h j : ℤ) → Owned h j → j ≤ℤ (h +ℤ pos n)
  pub order : (h k i j : ℤ) → i ≤ℤ j → Owned h i → Owned k j → h ≤ℤ k
  pub owned_later : (h j : ℤ) → Owned h j → Owned (h +ℤ pos n) (j +ℤ pos n)
  pub owned_earlier : (h j : ℤ) → Owned h j → Owned (h -ℤ pos n) (j -ℤ pos n)
  pub sure_later : (h j : ℤ) → Sure h j → Sure (h +ℤ pos n) (j +ℤ pos n)
  pub sure_earlier : (h j : ℤ) → Sure h j → Sure (h -ℤ pos n) (j -ℤ pos n)

-- the transmission t is one of the stream
pub record Tells (Owned Sure : ℤ → ℤ → Type 0) (t : Transmission) : Type 0 where
  pub owned : Owned t.owner t.slot
  pub sure : (t.sure ≡ true) ↔ Sure t.owner t.slot

-- ts are the stream's transmissions from slot `low` to below slot `high`
abbrev pub AreSent : (ℤ → ℤ → Type 0) → (ℤ → ℤ → Type 0) → ℤ → ℤ → List Transmission → Type 0
AreSent Owned Sure low high ts = Lists slot_of (IsSentAt Owned) (Tells Owned Sure) low high ts

-- r describes the stream's run from its start
pub record IsRunOf (Owned Sure : ℤ → ℤ → Type 0) (k : ℕ) (r : Run) : Type 0 where
  pub owned : Owned r.owner r.start
  pub sure : (r.sure ≡ true) ↔ BeginsSureRun Owned Sure k r.start
  pub ends : (e : ℤ) → (r.end <ℤ e) ↔ RunEndsBelow Owned k r.start e

-- a named start, or a slot a whole number of periods away from one
abbrev pub IsNamed : ℕ → List ℕ → ℤ → Type 0
IsNamed n starts i = Contains starts (turned n i)

-- r describes the run of the stream from a named slot
pub record IsNamedRun (Owned Sure : ℤ → ℤ → Type 0) (Named : ℤ → Type 0) (k : ℕ) (r : Run) : Type 0 where
  pub named : Named r.start
  pub run : IsRunOf Owned Sure k r

-- some named run has its first owner at tau or later, and ends within the limit
pub record IsInTime (Owned : ℤ → ℤ → Type 0) (Named : ℤ → Type 0) (k limit : ℕ) (tau : ℤ) : Type 0 where
  pub start : ℤ
  pub owner : ℤ
  pub named : Named start
  pub owned : Owned owner start
  pub not_before : tau ≤ℤ owner
  pub ends : RunEndsBelow Owned k start (tau +ℤ pos limit)

-- a start is named, each named run is sure, and for every tuning slot one of them is in time
pub record Covers (Owned Sure : ℤ → ℤ → Type 0) (n k limit : ℕ) (starts : List ℕ) : Type 0 where
  pub named : (start : ℕ) × Contains starts start
  pub sure : (start : ℕ) → Contains starts start → (start < n) × BeginsSureRun Owned Sure k (pos start)
  pub in_time : (tau : ℤ) → IsInTime Owned (IsNamed n starts) k limit tau

-- each run ends within the limit after the owner of the one before it
abbrev pub FollowInTime : ℕ → Run → List Run → Type 0
FollowInTime limit r [] = Unit {0}
FollowInTime limit r (next ∷ rest) = (next.end ≤ℤ (r.owner +ℤ pos limit)) × FollowInTime limit next rest

-- the run from the next named start does not end within the limit after the owner of the i-th
pub record IsLate (Owned : ℤ → ℤ → Type 0) (n k limit : ℕ) (starts : List ℕ) (i : ℕ) : Type 0 where
  pub within : i < length starts
  pub owner : ℤ
  pub owned : Owned owner (pos (slice_index_or starts i 0))
  pub late : RunEndsBelow Owned k (next_start n starts i) ((owner +ℤ pos limit) +ℤ pos 1) → ⊥

-- a named start that is outside the period or has no sure run
pub record IsBad (Owned Sure : ℤ → ℤ → Type 0) (n k : ℕ) (starts : List ℕ) (i : ℕ) : Type 0 where
  pub within : i < length starts
  pub bad : (slice_index_or starts i 0 < n) × BeginsSureRun Owned Sure k (pos (slice_index_or starts i 0)) → ⊥

-- the first start for which P holds, if there is one
abbrev pub IsFirst : (ℕ → Type 0) → List ℕ → Option ℕ → Type 0
IsFirst P starts None = (i : ℕ) → P i → ⊥
IsFirst P starts (Some s) = (i : ℕ) × (s ≡ slice_index_or starts i 0) × P i × ((j : ℕ) → j < i → P j → ⊥)
