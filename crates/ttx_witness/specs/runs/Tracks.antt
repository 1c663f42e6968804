-- What is kept of the transmissions of one item while a period is read.
--
--   keep_last               the last elements of a list, at most the given number
--   ended                   the runs that have ended after some transmissions
--   Held, held_in, held_in_ring   what is held: how many transmissions a run has, the last ones and the first ones
--   IsRecent                what is held of a list of transmissions
--   IsRound                 the same after some of the transmissions that follow the period
--   IsWithin, IsTurn        the numbers of a transmission are small; the first of a list moves to its end, one period later
--   AreInOrder              transmissions slot by slot, in slots from 0 to below 65,536
--   IsTrack, IsSearch       the state of a track, and of a search for starts, after a list of transmissions
use Rattle.std.specs.Prelude.{◌≡◌, ℕ, suc, ◌-◌, pos, ◌+ℤ◌, ◌<ℤ◌, ◌≤ℤ◌, List, [], ◌∷◌, ◌++◌, map, take, Option, Some, None}
use Rattle.std.specs.List.{All, AllPairs}
pub use Rattle.circular_buffer.specs.Buffer.{keep_last}
use Rattle.ttx_witness.specs.runs.Transmissions.{Transmission, Run, run_of, windows, later, further}
use Rattle.ttx_witness.specs.runs.Confirming.{after_runs, not_begun}
use Rattle.ttx_witness.specs.runs.SureStarts.{sure_starts, spread_of}
use Rattle.ttx_witness.specs.declared.runs.window.Recent.{Recent}
use Rattle.ttx_witness.specs.declared.runs.ring.Ring.{Ring}
use Rattle.ttx_witness.specs.declared.runs.named_starts.Track.{Track}
use Rattle.ttx_witness.specs.declared.runs.sure_starts.SureRuns.{SureRuns}

abbrev pub ended : ℕ → List Transmission → List Run
ended k ts = map run_of (windows (suc k) ts)

pub record Held : Type 0 where
  pub repeat : ℕ
  pub window : List Transmission
  pub firsts : List Transmission

abbrev pub held_in : Recent → Held
held_in recent = record { repeat = recent.repeat; window = recent.window.items; firsts = recent.firsts.items }

abbrev pub held_in_ring : Ring → Held
held_in_ring ring = record { repeat = ring.window.capacity; window = ring.window.items; firsts = ring.firsts.items }

-- the last k + 1 transmissions and the first k
pub record IsRecent (k : ℕ) (ts : List Transmission) (held : Held) : Type 0 where
  pub repeat : held.repeat ≡ suc k
  pub window : held.window ≡ keep_last (suc k) ts
  pub firsts : held.firsts ≡ take k ts

abbrev pub listed : Option Run → List Run
listed None = []
listed (Some r) = r ∷ []

-- from one longest cycle before the period up to the bound
pub record IsWithin (bound : ℕ) (t : Transmission) : Type 0 where
  pub slot_low : pos 0 ≤ℤ (t.slot +ℤ pos 65536)
  pub slot_high : t.slot ≤ℤ pos bound
  pub owner_low : pos 0 ≤ℤ (t.owner +ℤ pos 65536)
  pub owner_high : t.owner ≤ℤ pos bound

-- slots rise, from 0 to below 65,536
pub record AreInOrder (ts : List Transmission) : Type 0 where
  pub low : All (λ t. pos 0 ≤ℤ t.slot) ts
  pub high : All (λ t. t.slot <ℤ pos 65536) ts
  pub rising : AllPairs (λ t u. t.slot <ℤ u.slot) ts

abbrev pub IsTurn : ℕ → List Transmission → Transmission → List Transmission → Type 0
IsTurn n [] result new = ⊥
IsTurn n (t ∷ ts) result new = (result ≡ later n t) × (new ≡ ts ++ later n t ∷ [])

-- after i of the k transmissions that follow those of the period (ts); rs are the runs that have ended
pub record IsRound (k n i : ℕ) (ts : List Transmission) (rs : List Run) (held : Held) : Type 0 where
  pub more : List Transmission
  pub repeat : held.repeat ≡ suc k
  pub window : held.window ≡ keep_last (suc k) (ts ++ more)
  pub runs : rs ≡ ended k (ts ++ more)
  pub rest : more ++ further n (k - i) held.firsts ≡ further n k (take k ts)

pub record IsTrack (k limit : ℕ) (starts : List ℕ) (ts : List Transmission) (track : Track) : Type 0 where
  pub recent : IsRecent k ts (held_in track.recent)
  pub progress : track.progress ≡ after_runs limit starts not_begun (ended k ts)

pub record IsSearch (k : ℕ) (ts : List Transmission) (ring : Ring) (found : SureRuns) : Type 0 where
  pub recent : IsRecent k ts (held_in_ring ring)
  pub starts : found.starts.items ≡ sure_starts (ended k ts)
  pub spread : found.spread ≡ spread_of None (ended k ts)
