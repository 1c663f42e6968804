-- Which bytes were written: `Writes`.
use Rattle.std.specs.Prelude.{ℕ, ◌<◌, List, length, take, Option, Result, Ok, Err}
use Rattle.std.specs.Io.KnownBytes.{Appends}
use Rattle.ttx_cycle.specs.declared.faults.WriteFault.{WriteFault}

-- all the bytes were written, or exactly the first `written` of them
abbrev pub Writes : {U : Type 0} → List ℕ → Option (List ℕ) → Option (List ℕ) → Result U WriteFault → Type 0
Writes bytes old new (Ok _) = Appends old new bytes
Writes bytes old new (Err fault) = (fault.written < length bytes) × Appends old new (take fault.written bytes)
