use Rattle.std.proofs.Common.{[], ◌∷◌, refl}
use Rattle.ttx_cycle.specs.Counters.{inner_of, faults_of}
use Rattle.ttx_files.specs.Devices.{AtCycle, AtService, AtCertificate, input, output}
use Rattle.ttx_tool.proofs.Devices.{refused}
use Rattle.ttx_tool.proofs.commands.refute.run.Goals as goal

pub returns-in-Err-clause-faults : goal.returns-in-Err-clause-faults
returns-in-Err-clause-faults g c =
    let file = faults_of c.args.file.now in
    let writer = faults_of c.args.writer.now in
    refused (input AtCycle (g.A.Read.remaining (inner_of c.args.cycle.now)) (faults_of c.args.cycle.now) (faults_of c.refute_text.new.cycle)
    ∷ input AtService (g.B.Read.remaining (inner_of c.args.service.now)) (faults_of c.args.service.now) (faults_of c.refute_text.new.service)
    ∷ input AtCertificate (g.C.Read.remaining (inner_of c.args.certificate.now)) (faults_of c.args.certificate.now)
    (faults_of c.refute_text.new.certificate) ∷ []) (output file file ∷ output writer writer ∷ []) c.in-Err.fault c.in-Err.ensures.faults
    (refl, (refl, tt))
