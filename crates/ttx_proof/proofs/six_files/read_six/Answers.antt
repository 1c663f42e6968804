use Rattle.std.proofs.Common.{[], ◌∷◌, Err, refl}
use Rattle.ttx_cycle.specs.Counters.{inner_of, faults_of}
use Rattle.ttx_files.specs.Devices.{AtCycle, AtService, AtCertificate, input, failed_at}
use Rattle.ttx_files.proofs.Failures.{stopped, gone_on}
use Rattle.ttx_proof.specs.declared.six_files.Six.{Six}
use Rattle.ttx_proof.proofs.six_files.read_six.Goals as goal

pub returns-in-Err-clause-faults : goal.returns-in-Err-clause-faults
returns-in-Err-clause-faults g c =
    stopped
    (input AtCycle (g.A.Read.remaining (inner_of c.args.old.now)) (faults_of c.args.old.now) (faults_of c.read_cycles.new.old)
    ∷ input AtCycle (g.B.Read.remaining (inner_of c.args.new.now)) (faults_of c.args.new.now) (faults_of c.read_cycles.new.new) ∷ [])
    (input AtService (g.C.Read.remaining (inner_of c.args.old_service.now)) (faults_of c.args.old_service.now) (faults_of c.args.old_service.now)
    ∷ input AtService (g.D.Read.remaining (inner_of c.args.new_service.now)) (faults_of c.args.new_service.now) (faults_of c.args.new_service.now)
    ∷ input AtCertificate (g.E.Read.remaining (inner_of c.args.old_certificate.now)) (faults_of c.args.old_certificate.now) (faults_of c.args.old_certificate.now)
    ∷ input AtCertificate (g.F.Read.remaining (inner_of c.args.new_certificate.now)) (faults_of c.args.new_certificate.now) (faults_of c.args.new_certificate.now) ∷ [])
    (failed_at {T = Six} (Err c.in-Err.fault)) c.in-Err.ensures.faults (refl, (refl, (refl, (refl, tt))))

pub returns-in-Err-read_services-clause-faults : goal.returns-in-Err-read_services-clause-faults
returns-in-Err-read_services-clause-faults g c =
    gone_on
    (input AtCycle (g.A.Read.remaining (inner_of c.args.old.now)) (faults_of c.args.old.now) (faults_of c.read_cycles.new.old)
    ∷ input AtCycle (g.B.Read.remaining (inner_of c.args.new.now)) (faults_of c.args.new.now) (faults_of c.read_cycles.new.new) ∷ [])
    (input AtService (g.C.Read.remaining (inner_of c.args.old_service.now)) (faults_of c.args.old_service.now) (faults_of c.read_services.new.old)
    ∷ input AtService (g.D.Read.remaining (inner_of c.args.new_service.now)) (faults_of c.args.new_service.now) (faults_of c.read_services.new.new)
    ∷ input AtCertificate (g.E.Read.remaining (inner_of c.args.old_certificate.now)) (faults_of c.args.old_certificate.now) (faults_of c.args.old_certificate.now)
    ∷ input AtCertificate (g.F.Read.remaining (inner_of c.args.new_certificate.now)) (faults_of c.args.new_certificate.now) (faults_of c.args.new_certificate.now) ∷ [])
    (failed_at {T = Six} (Err c.in-Err-read_services.fault)) c.in-Ok.ensures.faults (c.in-Ok.ensures.right.0, (c.in-Ok.ensures.right.1, tt))
    (stopped
    (input AtService (g.C.Read.remaining (inner_of c.args.old_service.now)) (faults_of c.args.old_service.now) (faults_of c.read_services.new.old)
    ∷ input AtService (g.D.Read.remaining (inner_of c.args.new_service.now)) (faults_of c.args.new_service.now) (faults_of c.read_services.new.new) ∷ [])
    (input AtCertificate (g.E.Read.remaining (inner_of c.args.old_certificate.now)) (faults_of c.args.old_certificate.now) (faults_of c.args.old_certificate.now)
    ∷ input AtCertificate (g.F.Read.remaining (inner_of c.args.new_certificate.now)) (faults_of c.args.new_certificate.now) (faults_of c.args.new_certificate.now) ∷ [])
    (failed_at {T = Six} (Err c.in-Err-read_services.fault)) c.in-Err-read_services.ensures.faults (refl, (refl, tt)))

pub returns-in-Err-read_witnesses-clause-faults : goal.returns-in-Err-read_witnesses-clause-faults
returns-in-Err-read_witnesses-clause-faults g c =
    gone_on
    (input AtCycle (g.A.Read.remaining (inner_of c.args.old.now)) (faults_of c.args.old.now) (faults_of c.read_cycles.new.old)
    ∷ input AtCycle (g.B.Read.remaining (inner_of c.args.new.now)) (faults_of c.args.new.now) (faults_of c.read_cycles.new.new) ∷ [])
    (input AtService (g.C.Read.remaining (inner_of c.args.old_service.now)) (faults_of c.args.old_service.now) (faults_of c.read_services.new.old)
    ∷ input AtService (g.D.Read.remaining (inner_of c.args.new_service.now)) (faults_of c.args.new_service.now) (faults_of c.read_services.new.new)
    ∷ input AtCertificate (g.E.Read.remaining (inner_of c.args.old_certificate.now)) (faults_of c.args.old_certificate.now) (faults_of c.read_witnesses.new.old)
    ∷ input AtCertificate (g.F.Read.remaining (inner_of c.args.new_certificate.now)) (faults_of c.args.new_certificate.now) (faults_of c.read_witnesses.new.new) ∷ [])
    (failed_at {T = Six} (Err c.in-Err-read_witnesses.fault)) c.in-Ok.ensures.faults (c.in-Ok.ensures.right.0, (c.in-Ok.ensures.right.1, tt))
    (gone_on
    (input AtService (g.C.Read.remaining (inner_of c.args.old_service.now)) (faults_of c.args.old_service.now) (faults_of c.read_services.new.old)
    ∷ input AtService (g.D.Read.remaining (inner_of c.args.new_service.now)) (faults_of c.args.new_service.now) (faults_of c.read_services.new.new) ∷ [])
    (input AtCertificate (g.E.Read.remaining (inner_of c.args.old_certificate.now)) (faults_of c.args.old_certificate.now) (faults_of c.read_witnesses.new.old)
    ∷ input AtCertificate (g.F.Read.remaining (inner_of c.args.new_certificate.now)) (faults_of c.args.new_certificate.now) (faults_of c.read_witnesses.new.new) ∷ [])
    (failed_at {T = Six} (Err c.in-Err-read_witnesses.fault)) c.in-Ok-read_services.ensures.faults
    (c.in-Ok-read_services.ensures.right.0, (c.in-Ok-read_services.ensures.right.1, tt)) c.in-Err-read_witnesses.ensures.faults)
