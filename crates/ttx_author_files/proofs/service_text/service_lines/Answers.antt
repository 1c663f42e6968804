use Rattle.std.proofs.Common.{◌≡◌, false, rules, string_bytes, subst}
use Rattle.ttx_author_files.specs.AuthorReports.{IsReportFor}
use Rattle.ttx_author_files.proofs.service_text.service_lines.Goals as goal

pub returns-in-Ok : goal.returns-in-Ok
returns-in-Ok c =
    let read = c.in_ok-report.ensures in
    let report = c.in_ok-report.report in
    let same : report.text.items ≡ string_bytes c.in-Ok.lines = search rules in
    (read.0, report.status, read.1, subst (λ t. IsReportFor false false c.args.name.now c.args.author.now read.0 t report.status) same read.2)
