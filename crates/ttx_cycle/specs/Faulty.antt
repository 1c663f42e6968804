-- What a faulty reader and a faulty writer do.
--
--   Source, source_of    a reader: the bytes it has left, the most bytes of a call, the call that fails, the calls made
--   Sink, sink_of        a writer: the bytes written, its free room, the most bytes of a call, the call that fails, the calls made
--   Gives, Takes         what a call returns, and the state after it
use Rattle.std.specs.Prelude.{◌≡◌, ℕ, ◌-◌, ◌==◌, ◌≢◌, List, ◌++◌, length, take, drop, min, max, Option, Some, None, Result, Ok, Err, if◌then◌else◌}
use Rattle.ttx_cycle.specs.Counts.{next_count}
use Rattle.ttx_cycle.specs.declared.faulty.Failure.{Failure}
use Rattle.ttx_cycle.specs.declared.faulty.Failure.TheVariants.{Error, Nothing}
use Rattle.ttx_cycle.specs.declared.faulty.FaultyReader.{FaultyReader}
use Rattle.ttx_cycle.specs.declared.faulty.FaultyWriter.{FaultyWriter}

pub record Source : Type 0 where
  pub left : List ℕ
  pub piece : ℕ
  pub at : Option ℕ
  pub calls : ℕ

pub record Sink : Type 0 where
  pub taken : List ℕ
  pub free : ℕ
  pub piece : ℕ
  pub failure : Option Failure
  pub calls : ℕ

abbrev pub source_of : FaultyReader → Source
source_of reader = record { left = reader.rest.now; piece = reader.piece; at = reader.at; calls = reader.calls }

abbrev pub sink_of : FaultyWriter → Sink
sink_of writer = record {
  taken = take writer.taken writer.room.now;
  free = length writer.room.now - writer.taken;
  piece = writer.piece;
  failure = writer.failure;
  calls = writer.calls;
}

-- how many bytes a call moves: at least one if there are any
abbrev pub moved : ℕ → ℕ → ℕ → ℕ
moved piece here there = min (min (max piece 1) here) there

-- a call of `read` with room for `room` bytes
abbrev pub Gives : {E : Type 0} → Source → Source → ℕ → Result ℕ E → Type 0
Gives old new room (Ok count) =
    (old.at ≢ Some (next_count old.calls))
    × (count ≡ moved old.piece (length old.left) room)
    × (new ≡ record old { left = drop count old.left; calls = next_count old.calls })
Gives old new room (Err _) =
    (old.at ≡ Some (next_count old.calls)) × (new ≡ record old { calls = next_count old.calls })

-- how many of `most` bytes a call of `write` takes; None if it returns an error
abbrev pub taken_at : Option Failure → ℕ → ℕ → Option ℕ
taken_at None call most = Some most
taken_at (Some (Error at)) call most = if at == call then None else Some most
taken_at (Some (Nothing at)) call most = if at == call then Some 0 else Some most

-- a call of `write` with these bytes
abbrev pub Takes : {E : Type 0} → Sink → Sink → List ℕ → Result ℕ E → Type 0
Takes old new bytes (Ok count) =
    (taken_at old.failure (next_count old.calls) (moved old.piece old.free (length bytes)) ≡ Some count)
    × (new ≡ record old { taken = old.taken ++ take count bytes; free = old.free - count; calls = next_count old.calls })
Takes old new bytes (Err _) =
    (taken_at old.failure (next_count old.calls) (moved old.piece old.free (length bytes)) ≡ None)
    × (new ≡ record old { calls = next_count old.calls })
