use Rattle.std.proofs.Common.{◌∷◌, []}
use Rattle.ttx_cycle.specs.Counters.{inner_of}
use Rattle.ttx_cycle.specs.Cycles.{slots_of}
use Rattle.ttx_cycle.specs.Files.{IsPacketFile}
use Rattle.ttx_files.specs.Inputs.{IsRefusedText, IsRefused}
use Rattle.ttx_files.specs.Known.{first, second, third}
use Rattle.ttx_files.proofs.KnownFiles.{known_with}
use Rattle.ttx_files.proofs.RefusedInputs.{after_packets}
use Rattle.ttx_files.proofs.readers.read_inputs.Goals as goal

pub returns-in-Err-clause-bytes : goal.returns-in-Err-clause-bytes
returns-in-Err-clause-bytes g c =
    known_with (g.A.Read.remaining (inner_of c.args.cycle.now))
    (g.B.Read.remaining (inner_of c.args.service.now) ∷ g.C.Read.remaining (inner_of c.args.certificate.now) ∷ [])
    (λ a. IsPacketFile a (slots_of c.in_ok-cycle.cycle)) (λ xs. IsRefusedText (first xs) (second xs) c.in-Err.fault)
    (λ xs. IsRefused (first xs) (second xs) (third xs) c.in-Err.fault) c.in_ok-cycle.ensures.bytes c.in-Err.ensures.bytes
    (λ a xs is h. after_packets (slots_of c.in_ok-cycle.cycle) a (first xs) (second xs) c.in-Err.fault is h)
