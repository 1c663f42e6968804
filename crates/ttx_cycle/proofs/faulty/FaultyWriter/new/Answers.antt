use Rattle.std.proofs.Common.{◌≡◌, ℕ, ◌-◌, [], Option, length, ap, arith}
use Rattle.ttx_cycle.specs.declared.faulty.Failure.{Failure}
use Rattle.ttx_cycle.specs.Faulty.{Sink}
use Rattle.ttx_cycle.proofs.faulty.FaultyWriter.new.Goals as goal

abbrev empty_sink : ℕ → ℕ → Option Failure → Sink
empty_sink free piece failure = record { taken = []; free = free; piece = piece; failure = failure; calls = 0 }

all_free : (n : ℕ) → n - 0 ≡ n
all_free n = omega arith

pub returns : goal.returns
returns c = ap (λ free. empty_sink free c.args.piece c.args.failure) (all_free (length c.args.room.now))
