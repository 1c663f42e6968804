use Rattle.std.proofs.Common.{[], ◌∷◌, refl}
use Rattle.ttx_cycle.specs.Counters.{inner_of, faults_of}
use Rattle.ttx_files.specs.Devices.{AtCycle, AtService, AtCounter, input, output}
use Rattle.ttx_tool.proofs.Devices.{refused}
use Rattle.ttx_tool.proofs.commands.replay.answer.Goals as goal

pub returns-in-Err-clause-faults : goal.returns-in-Err-clause-faults
returns-in-Err-clause-faults g c =
    let writer = faults_of c.args.writer.now in
    refused (input AtCycle (g.A.Read.remaining (inner_of c.args.cycle.now)) (faults_of c.args.cycle.now) (faults_of c.replay_files.new.cycle)
    ∷ input AtService (g.B.Read.remaining (inner_of c.args.service.now)) (faults_of c.args.service.now) (faults_of c.replay_files.new.service)
    ∷ input AtCounter (g.C.Read.remaining (inner_of c.args.counter.now)) (faults_of c.args.counter.now)
    (faults_of c.replay_files.new.counter) ∷ []) (output writer writer ∷ []) c.in-Err.fault c.in-Err.ensures.faults
    (refl, tt)
