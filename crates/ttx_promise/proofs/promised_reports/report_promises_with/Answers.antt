use Rattle.std.proofs.Common.{map, string_bytes, sym, subst}
use Rattle.std.specs.Prelude.{IfOk}
use Rattle.ttx_cycle.specs.Cycles.{slots_of}
use Rattle.ttx_source.specs.PromiseViews.{promise_view}
use Rattle.ttx_promise.specs.PromisedReports.{IsPromisedReportWith}
use Rattle.ttx_promise.proofs.promised_reports.report_promises_with.Goals as goal

pub returns-in-Pages : goal.returns-in-Pages
returns-in-Pages c =
    subst (λ d. IfOk c.report_promises.result
    (λ report. IsPromisedReportWith d (slots_of c.args.cycle.now) c.args.service.now c.args.reported.class c.args.reported.repeat
    (map promise_view c.args.promises.now) (string_bytes report.text) report.deadline report.late))
    (sym c.in-Pages.is) c.report_promises.ensures

pub returns-in-Items : goal.returns-in-Items
returns-in-Items c =
    subst (λ d. IfOk c.report_promised_items.result
    (λ report. IsPromisedReportWith d (slots_of c.args.cycle.now) c.args.service.now c.args.reported.class c.args.reported.repeat
    (map promise_view c.args.promises.now) (string_bytes report.text) report.deadline report.late))
    (sym c.in-Items.is) c.report_promised_items.ensures
