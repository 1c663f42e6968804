use Rattle.std.proofs.Common.{map, string_bytes, sym, subst}
use Rattle.std.specs.Prelude.{IfOk}
use Rattle.ttx_cycle.specs.Cycles.{slots_of}
use Rattle.ttx_page.specs.Views.{page_of}
use Rattle.ttx_wait.specs.Reports.{IsReportWith}
use Rattle.ttx_wait.proofs.reports.report_with.Goals as goal

pub returns-in-Pages : goal.returns-in-Pages
returns-in-Pages c =
    subst (λ d. IfOk c.report.result
    (λ waiting. IsReportWith d (slots_of c.args.cycle.now)
    (map page_of c.args.pages.now) c.args.class c.args.repeat c.args.lines (string_bytes waiting.text) waiting.deadline))
    (sym c.in-Pages.is) c.report.ensures

pub returns-in-Items : goal.returns-in-Items
returns-in-Items c =
    subst (λ d. IfOk c.report_items.result
    (λ waiting. IsReportWith d (slots_of c.args.cycle.now)
    (map page_of c.args.pages.now) c.args.class c.args.repeat c.args.lines (string_bytes waiting.text) waiting.deadline))
    (sym c.in-Items.is) c.report_items.ensures
