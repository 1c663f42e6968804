use Rattle.std.proofs.Common.{string_bytes, subst}
use Rattle.toml.specs.View.{table_view}
use Rattle.ttx_desk.specs.MistakeLines.{AreMistakeLines}
use Rattle.ttx_desk.proofs.messages.report_on.Goals as goal

pub returns : goal.returns
returns c =
    let author = c.args.author.now in
    record {
      lines = string_bytes c.in_ok-report.report;
      each = subst (λ ms. AreMistakeLines author.file.now author.text.now (table_view author.table.now) ms (string_bytes c.in_ok-report.report))
          c.first_mistakes.ensures c.in_ok-report.ensures;
      is = c.in_ok-push_count.ensures;
    }
