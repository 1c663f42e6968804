use Rattle.std.proofs.Common.{◌∙◌, ◌++◌, ◌∷◌, [], take, ap, subst, sym}
use Rattle.std.proofs.lemmas.List.{take_more, map-append}
use Rattle.toml.specs.View.{table_view}
use Rattle.ttx_mistakes.specs.PlacedViews.{placed_view, placed_views}
use Rattle.ttx_author_files.specs.AuthorReports.{ArePlaced}
use Rattle.ttx_author_files.proofs.PlacedMistakes.{one_more}
use Rattle.ttx_author_files.proofs.author_reports.placed_mistakes.Goals as goal

pub loop-mistake-preserved : goal.loop-mistake-preserved
loop-mistake-preserved c =
    let text = c.args.text.now in
    let author = table_view c.args.author.now in
    let mistakes = c.args.mistakes.now in
    let i = c.loop-mistake.mistake-index in
    let items = c.loop-mistake.found.items in
    let one = c.in_ok-placed.placed in
    subst (λ ms. ArePlaced text author ms (placed_views c.push.new.self.items)) (sym (take_more mistakes i _ c.loop-mistake-test.true))
    (subst (ArePlaced text author (take i mistakes ++ _ ∷ [])) (sym (ap placed_views c.in_ok-push.ensures.items ∙ map-append placed_view items (one ∷ [])))
    (one_more text author (take i mistakes) _ (placed_views items) (placed_view one) c.loop-mistake.invariant c.in_ok-placed.ensures))
