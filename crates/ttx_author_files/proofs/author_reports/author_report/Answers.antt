use Rattle.std.proofs.Common.{◌∙◌}
use Rattle.std.proofs.lemmas.Result.{IfOk-weaker}
use Rattle.toml.specs.View.{table_view}
use Rattle.ttx_mistakes.specs.PlacedViews.{placed_views}
use Rattle.std.proofs.Common.{ap}
use Rattle.ttx_author_files.proofs.PlacedMistakes.{report_for}
use Rattle.ttx_author_files.proofs.author_reports.author_report.Goals as goal

pub returns : goal.returns
returns c =
    let style = c.args.style in
    let found = c.in_ok-found.ensures in
    IfOk-weaker c.report_on.result _ _
    (λ report is.
    report_for style.long style.strict style.file.now c.args.text.now c.as_bytes.result.now (table_view c.args.author.now) c.pages_in.result found.0
    (placed_views c.as_slice.result.now) report.text.items report.status found.1 (ap placed_views c.as_slice.ensures.value ∙ found.2) c.pages_in.ensures
    c.as_bytes.ensures.value is)
    c.report_on.ensures
