use Rattle.std.proofs.Common.{◌≡◌, ◌∙◌, ◌++◌, ap, subst}
use Rattle.toml.specs.View.{table_view}
use Rattle.ttx_desk.specs.Services.{mistakes}
use Rattle.ttx_mistakes.specs.PlacedViews.{placed_views}
use Rattle.ttx_author_files.specs.AuthorNotes.{placed_in, author_placed}
use Rattle.ttx_author_files.specs.AuthorReports.{ArePlaced}
use Rattle.ttx_author_files.proofs.author_reports.told_of_author.Goals as goal

pub returns : goal.returns
unfolding author_placed
returns c =
    let text = c.args.text.now in
    let author = table_view c.args.author.now in
    let translated = c.in_ok-translated.translated in
    let told = placed_views c.in_ok-found.found.items in
    let slice = c.as_slice-mistakes.result.now in
    let same : slice ≡ mistakes author = c.as_slice-mistakes.ensures.value ∙ c.in_ok-translated.ensures.mistakes in
    let rest = ap (λ m. placed_in text m (table_view translated.table)) same ∙ ap (placed_in text (mistakes author)) c.in_ok-translated.ensures.table in (
      told,
      subst (λ m. ArePlaced text author m told) same c.in_ok-found.ensures,
      c.in_ok-push_author.ensures ∙ ap (λ r. told ++ r) rest,
    )
