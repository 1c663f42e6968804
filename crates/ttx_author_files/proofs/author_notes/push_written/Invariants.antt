use Rattle.std.proofs.Common.{◌≡◌, ◌++◌, drop, map}
use Rattle.ttx_page.specs.Views.{page_of}
use Rattle.ttx_mistakes.specs.PlacedViews.{placed_views}
use Rattle.ttx_author_files.specs.AuthorNotes as rule
use Rattle.ttx_author_files.proofs.author_notes.push_written.Given as goal

abbrev pub invariant-loop-warning : goal.invariant-loop-warning
invariant-loop-warning l =
    placed_views l.found.items ++ map (rule.warning_placed l.text (map (λ p. p.id) (map page_of l.pages))) (rule.written (drop l.warning-index l.warnings))
    ≡ placed_views l.initial.found.items ++ map (rule.warning_placed l.text (map (λ p. p.id) (map page_of l.pages))) (rule.written l.warnings)
