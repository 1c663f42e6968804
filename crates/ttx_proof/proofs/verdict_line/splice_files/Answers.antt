use Rattle.std.proofs.Common.{[], ◌∷◌}
use Rattle.ttx_cycle.specs.Counters.{inner_of, faults_of}
use Rattle.ttx_files.specs.Devices.{AtCycle, AtService, AtCertificate, input}
use Rattle.ttx_files.proofs.Failures.{told_after}
use Rattle.ttx_files.proofs.ToldFiles.{answers_read}
use Rattle.ttx_proof.specs.SplicingFiles.{AreSixWith, IsSixRefused}
use Rattle.ttx_proof.proofs.verdict_line.splice_files.Goals as goal

pub returns-clause-bytes : goal.returns-clause-bytes
returns-clause-bytes g c =
    answers_read (λ verdict line. AreSixWith (g.A.Read.remaining (inner_of c.args.old.now)) (g.B.Read.remaining (inner_of c.args.new.now)) (g.C.Read.remaining (inner_of c.args.old_service.now)) (g.D.Read.remaining (inner_of c.args.new_service.now)) (g.E.Read.remaining (inner_of c.args.old_certificate.now)) (g.F.Read.remaining (inner_of c.args.new_certificate.now)) (λ s. g.J.SpliceJudge.says c.args.judge.now s verdict line))
    (IsSixRefused (g.A.Read.remaining (inner_of c.args.old.now)) (g.B.Read.remaining (inner_of c.args.new.now)) (g.C.Read.remaining (inner_of c.args.old_service.now)) (g.D.Read.remaining (inner_of c.args.new_service.now)) (g.E.Read.remaining (inner_of c.args.old_certificate.now)) (g.F.Read.remaining (inner_of c.args.new_certificate.now)))
    (input AtCycle (g.A.Read.remaining (inner_of c.args.old.now)) (faults_of c.args.old.now) (faults_of c.judge_six-told.new.old)
    ∷ input AtCycle (g.B.Read.remaining (inner_of c.args.new.now)) (faults_of c.args.new.now) (faults_of c.judge_six-told.new.new)
    ∷ input AtService (g.C.Read.remaining (inner_of c.args.old_service.now)) (faults_of c.args.old_service.now) (faults_of c.judge_six-told.new.old_service)
    ∷ input AtService (g.D.Read.remaining (inner_of c.args.new_service.now)) (faults_of c.args.new_service.now) (faults_of c.judge_six-told.new.new_service)
    ∷ input AtCertificate (g.E.Read.remaining (inner_of c.args.old_certificate.now)) (faults_of c.args.old_certificate.now) (faults_of c.judge_six-told.new.old_certificate)
    ∷ input AtCertificate (g.F.Read.remaining (inner_of c.args.new_certificate.now)) (faults_of c.args.new_certificate.now) (faults_of c.judge_six-told.new.new_certificate) ∷ [])
    (tt, (tt, (tt, (tt, (tt, (tt, tt)))))) (g.W.Write.contents (inner_of c.args.writer.now)) (g.W.Write.contents (inner_of c.write_told.new.writer)) (faults_of c.args.writer.now)
    (faults_of c.write_told.new.writer)
    c.judge_six-told.result c.write_told.result c.judge_six-told.ensures.faults c.judge_six-told.ensures.bytes c.write_told.ensures.told

pub returns-clause-faults : goal.returns-clause-faults
returns-clause-faults g c =
    told_after
    (input AtCycle (g.A.Read.remaining (inner_of c.args.old.now)) (faults_of c.args.old.now) (faults_of c.judge_six-told.new.old)
    ∷ input AtCycle (g.B.Read.remaining (inner_of c.args.new.now)) (faults_of c.args.new.now) (faults_of c.judge_six-told.new.new)
    ∷ input AtService (g.C.Read.remaining (inner_of c.args.old_service.now)) (faults_of c.args.old_service.now) (faults_of c.judge_six-told.new.old_service)
    ∷ input AtService (g.D.Read.remaining (inner_of c.args.new_service.now)) (faults_of c.args.new_service.now) (faults_of c.judge_six-told.new.new_service)
    ∷ input AtCertificate (g.E.Read.remaining (inner_of c.args.old_certificate.now)) (faults_of c.args.old_certificate.now) (faults_of c.judge_six-told.new.old_certificate)
    ∷ input AtCertificate (g.F.Read.remaining (inner_of c.args.new_certificate.now)) (faults_of c.args.new_certificate.now) (faults_of c.judge_six-told.new.new_certificate) ∷ [])
    (g.W.Write.contents (inner_of c.args.writer.now)) (g.W.Write.contents (inner_of c.write_told.new.writer)) (faults_of c.args.writer.now)
    (faults_of c.write_told.new.writer)
    (λ right. (right.0, (right.1, (right.2, (right.3, (right.4, (right.5, tt))))))) c.judge_six-told.result c.write_told.result
    c.judge_six-told.ensures.faults c.judge_six-told.ensures.right c.write_told.ensures.told
