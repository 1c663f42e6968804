use Rattle.std.proofs.Common.{List, ℕ, Option, Some, None, IfSome, subst}
use Rattle.std.specs.Prelude.{⊤}
use Rattle.ttx_cycle.specs.Counters.{faults_of}
use Rattle.ttx_cycle.specs.Counts.{HasRisen}
use Rattle.ttx_cycle.proofs.texts.read_text.Goals as goal

-- after a device fault nothing is claimed about the bytes
nothing : (bytes : Option (List ℕ)) → IfSome bytes (λ _. ⊤)
nothing None = tt
nothing (Some bytes) = tt

pub returns-in-Err-clause-bytes : goal.returns-in-Err-clause-bytes
returns-in-Err-clause-bytes g c = nothing _

pub returns-in-Err-clause-faults : goal.returns-in-Err-clause-faults
returns-in-Err-clause-faults g c = subst (λ faults. HasRisen faults (faults_of c.read.new.self)) c.loop-piece.invariant.faults c.in-Err.ensures.risen
