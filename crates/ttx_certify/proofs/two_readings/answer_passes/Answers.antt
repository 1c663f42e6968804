use Rattle.std.proofs.Common.{[], ◌∷◌}
use Rattle.ttx_cycle.specs.Counters.{inner_of, faults_of}
use Rattle.ttx_files.specs.Devices.{AtCycle, AtService, AtCertificate, input}
use Rattle.ttx_files.proofs.Failures.{told_after}
use Rattle.ttx_certify.proofs.two_readings.answer_passes.Goals as goal

pub returns-clause-faults : goal.returns-clause-faults
returns-clause-faults g c =
    told_after
    (input AtService (g.C.Read.remaining (inner_of c.args.service.now)) (faults_of c.args.service.now) (faults_of c.judge_passes-told.new.service)
    ∷ input AtCertificate (g.D.Read.remaining (inner_of c.args.certificate.now)) (faults_of c.args.certificate.now)
    (faults_of c.judge_passes-told.new.certificate)
    ∷ input AtCycle (g.A.Read.remaining (inner_of c.args.first.now)) (faults_of c.args.first.now) (faults_of c.judge_passes-told.new.first)
    ∷ input AtCycle (g.B.Read.remaining (inner_of c.args.second.now)) (faults_of c.args.second.now) (faults_of c.judge_passes-told.new.second)
    ∷ [])
    (g.W.Write.contents (inner_of c.args.writer.now)) (g.W.Write.contents (inner_of c.write_told.new.writer)) (faults_of c.args.writer.now)
    (faults_of c.write_told.new.writer) (λ right. (right.0, (right.1, (right.2, (right.3, tt))))) c.judge_passes-told.result c.write_told.result
    c.judge_passes-told.ensures.faults c.judge_passes-told.ensures.right c.write_told.ensures.told
