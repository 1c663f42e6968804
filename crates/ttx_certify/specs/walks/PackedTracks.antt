-- The track of an item as it is kept, in few bytes.
--
--   transmission_of         the transmission that is packed in five bytes
--   held_of, progress_of    the transmissions that are held, where a run has so many; how far the named starts are confirmed
--   AreSlots                named starts rise, and each is below 65,536
--   IsPackable              the numbers of a track fit into the bytes that are kept
--   IsPacked                the state of a packed track after a list of transmissions; a run has k + 1 of them
--   IsTakenFrom             a packed track after one more transmission
--   IsUntracked             the packed tracks of the items of a page before the first slot
--   IsTracked, IsTrackedAt  the state of an item's packed track after a list of transmissions, if their numbers are small; among the
--                           tracks of the items of all pages
use Rattle.std.specs.Prelude.{◌≡◌, ℕ, suc, ◌+◌, ◌-◌, ◌*◌, ◌/◌, ◌%◌, ◌^◌, ◌<◌, ◌==◌, min, pos, ◌-ℤ◌, List, [], ◌∷◌, ◌++◌, Vec, length, map, take, slice_index_or, IfSome}
use Rattle.std.specs.List.{All}
use Rattle.std.specs.declared.alloc.Global.{Global}
use Rattle.ttx_page.specs.Pages.{Page}
use Rattle.ttx_page.specs.Streams.{run_length}
use Rattle.ttx_page.specs.declared.item.Item.{Item}
use Rattle.ttx_witness.specs.Coverage.{Certificate, limit}
use Rattle.ttx_witness.specs.Elements.{HoldsAt}
use Rattle.ttx_witness.specs.declared.runs.confirmation.Progress.{Progress}
use Rattle.ttx_witness.specs.declared.runs.named_starts.Track.{Track}
use Rattle.ttx_witness.specs.declared.runs.transmissions.Transmission.{Transmission}
use Rattle.ttx_witness.specs.runs.Confirming.{Rising, after_runs, not_begun}
use Rattle.ttx_witness.specs.sent.Collected.{item_number}
use Rattle.ttx_witness.specs.runs.Tracks.{Held, IsRecent, IsWithin, ended}
use Rattle.ttx_certify.specs.declared.walks.packed_track.PackedTrack.{PackedTrack}
use Rattle.ttx_certify.specs.declared.walks.packed_transmissions.PackedTransmission.{PackedTransmission}

abbrev pub transmission_of : PackedTransmission → Transmission
transmission_of p = record {
  slot = pos (p.slot_low + 256 * p.slot_middle + 65536 * (p.high % 4)) -ℤ pos 65536;
  owner = pos (p.owner_low + 256 * p.owner_middle + 65536 * (p.high / 4 % 4)) -ℤ pos 65536;
  sure = p.high / 16 == 1;
}

abbrev pub held_of : ℕ → PackedTrack → Held
held_of repeat packed = record {
  repeat = repeat;
  window = map transmission_of (take packed.count packed.window);
  firsts = map transmission_of (take (min packed.count (repeat - 1)) packed.firsts);
}

abbrev pub progress_of : PackedTrack → Progress
progress_of packed = record { next = packed.next; previous = packed.previous; first_end = packed.first_end; late = packed.late }

pub record AreSlots (starts : List ℕ) : Type 0 where
  pub rising : Rising starts
  pub small : (i : ℕ) → i < length starts → slice_index_or starts i 0 < 65536

pub record IsPackable (track : Track) : Type 0 where
  pub window : All (IsWithin 65536) track.recent.window.items
  pub firsts : All (IsWithin 65536) track.recent.firsts.items
  pub count : length track.recent.firsts.items ≡ min (length track.recent.window.items) (track.recent.repeat - 1)
  pub next : track.progress.next < 2 ^ 32
  pub late : IfSome track.progress.late (λ start. start < 65536)

pub record IsPacked (k limit : ℕ) (starts : List ℕ) (ts : List Transmission) (packed : PackedTrack) : Type 0 where
  pub recent : IsRecent k ts (held_of (suc k) packed)
  pub progress : progress_of packed ≡ after_runs limit starts not_begun (ended k ts)

abbrev pub IsTakenFrom : PackedTrack → Transmission → ℕ → ℕ → List ℕ → PackedTrack → Type 0
IsTakenFrom old t repeat limit starts new = (ts : List Transmission) → AreSlots starts → All (IsWithin 65536) (ts ++ t ∷ []) →
    IsPacked (repeat - 1) limit starts ts old → IsPacked (repeat - 1) limit starts (ts ++ t ∷ []) new

pub record IsUntracked (page : List PackedTrack) : Type 0 where
  pub count : length page ≡ 26
  pub each : All (λ packed. (k limit : ℕ) (starts : List ℕ) → IsPacked k limit starts [] packed) page

pub record IsTracked (w : Certificate) (p : Page) (item : Item) (ts : List Transmission) (packed : PackedTrack) : Type 0 where
  pub kept : All (IsWithin 65536) ts → IsPacked (run_length w.repeat item - 1) (limit w) (w.starts p.id item) ts packed

abbrev pub IsTrackedAt : Certificate → Page → Item → List Transmission → ℕ → List (Vec PackedTrack Global) → Type 0
IsTrackedAt w p item ts i tracks =
    HoldsAt (Vec PackedTrack Global) tracks i (λ page. HoldsAt PackedTrack page.items (item_number item) (IsTracked w p item ts))
