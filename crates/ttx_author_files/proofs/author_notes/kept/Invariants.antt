use Rattle.std.proofs.Common.{◌≡◌, ◌++◌, drop, filter, not}
use Rattle.ttx_mistakes.specs.MistakeViews.{mistake_views}
use Rattle.ttx_author_files.specs.AuthorNotes as rule
use Rattle.ttx_author_files.proofs.author_notes.kept.Given as goal

abbrev pub invariant-loop-error : goal.invariant-loop-error
invariant-loop-error l =
    mistake_views l.kept.items ++ filter (λ e. not (rule.is_told l.found (mistake_views l.errors) e)) (mistake_views (drop l.error-index l.errors))
    ≡ rule.kept l.found (mistake_views l.errors)
