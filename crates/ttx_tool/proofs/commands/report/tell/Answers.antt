use Rattle.std.proofs.Common.{map, string_bytes, subst}
use Rattle.std.specs.Prelude.{option_map}
use Rattle.ttx_certificate.specs.Certificates.{fields_of}
use Rattle.ttx_cycle.specs.Cycles.{slots_of}
use Rattle.ttx_report.specs.Files.{marks_view}
use Rattle.ttx_report.specs.Reports.{IsReport}
use Rattle.ttx_source.specs.PromiseViews.{promise_view}
use Rattle.ttx_tool.specs.Version.{version_text}
use Rattle.ttx_tool.proofs.commands.report.tell.Goals as goal

pub returns : goal.returns
returns c =
    let f = c.args.filed.now in
    let r = c.in_ok-report.report in
    record {
      verdict = r.verdict;
      told = subst (λ ps. IsReport (slots_of f.cycle) f.promised.service (map promise_view ps) (fields_of f.certificate) r.verdict (marks_view f.marks)
          version_text (option_map (λ d. d.now) c.args.date) (string_bytes r.text)) c.deref.ensures.value c.in_ok-report.ensures;
      status_is = c.status.ensures;
    }
