use Rattle.std.proofs.Common.{◌≡◌, drop}
use Rattle.ttx_mistakes.specs.MistakeViews.{mistake_views}
use Rattle.ttx_author_files.specs.AuthorNotes as rule
use Rattle.ttx_author_files.proofs.author_notes.has_option_error.Given as goal

abbrev pub invariant-loop-error : goal.invariant-loop-error
invariant-loop-error l = rule.has_option_error (mistake_views (drop l.error-index l.errors)) l.page
    ≡ rule.has_option_error (mistake_views l.errors) l.page
