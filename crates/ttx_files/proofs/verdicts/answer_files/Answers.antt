use Rattle.std.proofs.Common.{[], ◌∷◌}
use Rattle.ttx_cycle.specs.Counters.{inner_of, faults_of}
use Rattle.ttx_files.specs.Devices.{AtCycle, AtService, AtCertificate, input}
use Rattle.ttx_files.proofs.Failures.{told_after}
use Rattle.ttx_files.proofs.verdicts.answer_files.Goals as goal

pub returns-clause-faults : goal.returns-clause-faults
returns-clause-faults g c =
    told_after
    (input AtCycle (g.A.Read.remaining (inner_of c.args.cycle.now)) (faults_of c.args.cycle.now) (faults_of c.judge_files-told.new.cycle)
    ∷ input AtService (g.B.Read.remaining (inner_of c.args.service.now)) (faults_of c.args.service.now) (faults_of c.judge_files-told.new.service)
    ∷ input AtCertificate (g.C.Read.remaining (inner_of c.args.certificate.now)) (faults_of c.args.certificate.now)
    (faults_of c.judge_files-told.new.certificate) ∷ [])
    (g.W.Write.contents (inner_of c.args.writer.now)) (g.W.Write.contents (inner_of c.write_told.new.writer)) (faults_of c.args.writer.now)
    (faults_of c.write_told.new.writer) (λ right. (right.0, (right.1, (right.2, tt)))) c.judge_files-told.result c.write_told.result
    c.judge_files-told.ensures.faults c.judge_files-told.ensures.right c.write_told.ensures.told
