-- Laws of transmissions that repeat every n slots. They depend only on slots, owners and sureness.
--
--   Sending, Schedule       what a slot sends of one item: nothing, or a transmission with its owner and whether it is sure
--   RunsAreTheStreams       the windows of a period's list, taken round the cycle, are the runs of the stream
--   NeighboursDecide        every tuning slot is served if and only if neighbouring named runs follow one another in time
--   Passes, PassDecides     one pass over a period decides whether named starts cover an item
--   PassFindsTheFirst       the start that a pass reports as bad, and the one that it reports as late, are the first ones
--   SearchIsLeast           a search finds all starts of sure runs, and the least limit with which any starts cover the item
--   MoreStartsCover         naming a further start with a sure run keeps a covered item covered
use Rattle.std.specs.Prelude.{◌≡◌, ◌↔◌, ℕ, suc, ◌<◌, ◌≤◌, ℤ, pos, ◌+ℤ◌, Bool, true, List, [], ◌∷◌, ◌++◌, length, Option, Some, None, Contains}
use Rattle.std.specs.List.{AllByRecursion}
use Rattle.ttx_witness.specs.runs.Transmissions.{Transmission, Run, runs, moved_run, start_of}
use Rattle.ttx_witness.specs.runs.Confirming.{Rising, late_after, after_runs, not_begun}
use Rattle.ttx_witness.specs.runs.Repeating.{Repeats, Lists, AreSent, BeginsSureRun, IsRunOf, IsNamedRun, IsInTime, FollowInTime, Covers}
use Rattle.ttx_witness.specs.runs.Repeating.{IsBad, IsLate, IsFirst}
use Rattle.ttx_witness.specs.runs.SureStarts.{Spread, sure_starts, spread_of, width}

pub record Sending : Type 0 where
  pub owner : ℤ
  pub sure : Bool

abbrev pub Schedule : Type 0
Schedule = ℤ → Option Sending

-- slot j is a transmission under the header at h
abbrev pub OwnedIn : Schedule → ℤ → ℤ → Type 0
OwnedIn s h j = (sure : Bool) × (s j ≡ Some (record { owner = h; sure = sure }))

-- and the transmission is sure
abbrev pub SureIn : Schedule → ℤ → ℤ → Type 0
SureIn s h j = s j ≡ Some (record { owner = h; sure = true })

abbrev pub RunsAreTheStreams : Type 0
RunsAreTheStreams = (n k : ℕ) (s : Schedule) → Repeats n (OwnedIn s) (SureIn s) → (ts : List Transmission) →
    AreSent (OwnedIn s) (SureIn s) (pos 0) (pos n) ts → AllByRecursion (IsRunOf (OwnedIn s) (SureIn s) (suc k)) (runs n k ts)

-- for the named runs of a period, and the first of them one period later
abbrev pub NeighboursDecide : Type 0
NeighboursDecide = (n k limit : ℕ) (s : Schedule) → Repeats n (OwnedIn s) (SureIn s) → (named : ℤ → Bool) → ((i : ℤ) → named (i +ℤ pos n) ≡ named i) →
    (first : Run) (rest : List Run) →
    Lists start_of (λ i. named i ≡ true) (IsNamedRun (OwnedIn s) (SureIn s) (λ i. named i ≡ true) k) (pos 0) (pos n) (first ∷ rest) →
    FollowInTime limit first (rest ++ moved_run (pos n) first ∷ []) ↔ ((tau : ℤ) → IsInTime (OwnedIn s) (λ i. named i ≡ true) k limit tau)

-- some start is named, each one is confirmed, and none is late
pub record Passes (n k limit : ℕ) (starts : List ℕ) (ts : List Transmission) : Type 0 where
  pub some_named : 0 < length starts
  pub all_confirmed : (after_runs limit starts not_begun (runs n k ts)).next ≡ length starts
  pub none_late :
      late_after limit starts (after_runs limit starts not_begun (runs n k ts))
      ((after_runs limit starts not_begun (runs n k ts)).first_end +ℤ pos n) ≡ None

abbrev pub PassDecides : Type 0
PassDecides = (n k limit : ℕ) (s : Schedule) → Repeats n (OwnedIn s) (SureIn s) → (starts : List ℕ) → Rising starts → (ts : List Transmission) →
    AreSent (OwnedIn s) (SureIn s) (pos 0) (pos n) ts → Passes n k limit starts ts ↔ Covers (OwnedIn s) (SureIn s) n (suc k) limit starts

abbrev pub MoreStartsCover : Type 0
MoreStartsCover = (n k limit : ℕ) (s : Schedule) (starts more : List ℕ) → ((start : ℕ) → Contains starts start → Contains more start) →
    ((start : ℕ) → Contains more start → (start < n) × BeginsSureRun (OwnedIn s) (SureIn s) k (pos start)) →
    Covers (OwnedIn s) (SureIn s) n k limit starts → Covers (OwnedIn s) (SureIn s) n k limit more

abbrev pub PassFindsTheFirst : Type 0
PassFindsTheFirst = (n k limit : ℕ) (s : Schedule) → Repeats n (OwnedIn s) (SureIn s) → (starts : List ℕ) → Rising starts → (ts : List Transmission) →
    AreSent (OwnedIn s) (SureIn s) (pos 0) (pos n) ts → let p = after_runs limit starts not_begun (runs n k ts) in
    (p.next ≤ length starts)
    × (p.next < length starts → IsBad (OwnedIn s) (SureIn s) n (suc k) starts p.next
    × ((j : ℕ) → j < p.next → IsBad (OwnedIn s) (SureIn s) n (suc k) starts j → ⊥))
    × (p.next ≡ length starts → 0 < length starts →
    IsFirst (IsLate (OwnedIn s) n (suc k) limit starts) starts (late_after limit starts p (p.first_end +ℤ pos n)))

-- without a sure run nothing covers the item
abbrev pub IsLeastLimit : (ℕ → List ℕ → Type 0) → ℕ → List ℕ → Option Spread → Type 0
IsLeastLimit Covered n starts None = (limit : ℕ) (others : List ℕ) → Covered limit others → ⊥
IsLeastLimit Covered n starts (Some s) = ((limit : ℕ) → (width n s ≤ limit) ↔ Covered limit starts)
    × ((limit : ℕ) (others : List ℕ) → Covered limit others → width n s ≤ limit)

abbrev pub SearchIsLeast : Type 0
SearchIsLeast = (n k : ℕ) (s : Schedule) → Repeats n (OwnedIn s) (SureIn s) → (ts : List Transmission) →
    AreSent (OwnedIn s) (SureIn s) (pos 0) (pos n) ts →
    let found = sure_starts (runs n k ts) in
    ((start : ℕ) → Contains found start ↔ ((start < n) × BeginsSureRun (OwnedIn s) (SureIn s) (suc k) (pos start)))
    × IsLeastLimit (λ limit starts. Covers (OwnedIn s) (SureIn s) n (suc k) limit starts) n found (spread_of None (runs n k ts))
