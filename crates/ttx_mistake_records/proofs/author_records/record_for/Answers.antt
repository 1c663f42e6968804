use Rattle.std.proofs.Common.{◌∙◌, ap, string_bytes}
use Rattle.std.proofs.lemmas.Result.{IfOk-weaker}
use Rattle.toml.specs.View.{table_view}
use Rattle.ttx_mistakes.specs.PlacedViews.{placed_views}
use Rattle.ttx_mistake_records.proofs.ForAuthors.{record_for}
use Rattle.ttx_mistake_records.proofs.author_records.record_for.Goals as goal

pub returns : goal.returns
returns c =
    let found = c.in_ok-found.ensures in
    IfOk-weaker c.record_of.result _ _
    (λ r is.
    record_for c.args.file.now c.args.text.now c.as_bytes.result.now c.args.strict (table_view c.args.author.now) c.pages_in.result found.0
    (placed_views c.as_slice.result.now) (string_bytes r.text) r.status found.1 (ap placed_views c.as_slice.ensures.value ∙ found.2)
    c.pages_in.ensures c.as_bytes.ensures.value is)
    c.record_of.ensures
