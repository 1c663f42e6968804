use Rattle.std.proofs.Common.{[], ◌∷◌, refl, inr}
use Rattle.ttx_certificate.specs.Certificates.{fields_of}
use Rattle.ttx_cycle.specs.Counters.{inner_of, faults_of}
use Rattle.ttx_cycle.specs.Cycles.{slots_of}
use Rattle.ttx_files.specs.Devices.{AtCycle, AtService, AtCertificate, AtFeed, input, output}
use Rattle.ttx_faults.specs.declared.faults.ToolFault.TheVariants.{Files}
use Rattle.ttx_tool.proofs.Devices.{refused, went_on}
use Rattle.ttx_tool.proofs.MonitoredFeeds.{if_all, if_read, report_means}
use Rattle.ttx_tool.proofs.commands.monitor_reports.run.Goals as goal

pub returns-in-Err-clause-faults : goal.returns-in-Err-clause-faults
returns-in-Err-clause-faults g c =
    let feed = faults_of c.args.feed.now in
    let writer = faults_of c.args.writer.now in
    refused (input AtCycle (g.A.Read.remaining (inner_of c.args.cycle.now)) (faults_of c.args.cycle.now) (faults_of c.read_inputs.new.cycle)
    ∷ input AtService (g.B.Read.remaining (inner_of c.args.service.now)) (faults_of c.args.service.now) (faults_of c.read_inputs.new.service)
    ∷ input AtCertificate (g.C.Read.remaining (inner_of c.args.certificate.now)) (faults_of c.args.certificate.now)
    (faults_of c.read_inputs.new.certificate) ∷ [])
    (input AtFeed (g.R.Read.remaining (inner_of c.args.feed.now)) feed feed ∷ output writer writer ∷ []) (Files c.in-Err.fault)
    (c.in-Err.ensures.faults, c.in-Err.ensures.own) (refl, (refl, tt))

pub returns-clause-bytes : goal.returns-clause-bytes
returns-clause-bytes g c =
    if_read (g.A.Read.remaining (inner_of c.args.cycle.now)) (g.B.Read.remaining (inner_of c.args.service.now))
    (g.C.Read.remaining (inner_of c.args.certificate.now)) (g.R.Read.remaining (inner_of c.args.feed.now))
    c.in-Ok.ensures.bytes c.report.ensures.bytes
    (λ x y z u read is. inr (slots_of c.in-Ok.inputs.cycle, c.in-Ok.inputs.service, fields_of c.in-Ok.inputs.certificate, read.0, read.1, read.2, is))

pub returns-clause-faults : goal.returns-clause-faults
returns-clause-faults g c =
    went_on (input AtCycle (g.A.Read.remaining (inner_of c.args.cycle.now)) (faults_of c.args.cycle.now) (faults_of c.read_inputs.new.cycle)
    ∷ input AtService (g.B.Read.remaining (inner_of c.args.service.now)) (faults_of c.args.service.now) (faults_of c.read_inputs.new.service)
    ∷ input AtCertificate (g.C.Read.remaining (inner_of c.args.certificate.now)) (faults_of c.args.certificate.now)
    (faults_of c.read_inputs.new.certificate) ∷ [])
    (input AtFeed (g.R.Read.remaining (inner_of c.args.feed.now)) (faults_of c.args.feed.now) (faults_of c.report.new.feed)
    ∷ output (faults_of c.args.writer.now) (faults_of c.report.new.writer) ∷ []) c.report.result
    c.in-Ok.ensures.faults (c.in-Ok.ensures.right.0, (c.in-Ok.ensures.right.1, (c.in-Ok.ensures.right.2, tt))) c.report.ensures.faults

pub returns-clause-means : goal.returns-clause-means
returns-clause-means g c =
    if_all (g.A.Read.remaining (inner_of c.args.cycle.now)) (g.B.Read.remaining (inner_of c.args.service.now))
    (g.C.Read.remaining (inner_of c.args.certificate.now)) (g.R.Read.remaining (inner_of c.args.feed.now))
    (returns-clause-bytes g c) (report_means c.args.how.json c.args.how.asked (g.W.Write.contents (inner_of c.args.writer.now))
    (g.W.Write.contents (inner_of c.report.new.writer)) c.report.result)
