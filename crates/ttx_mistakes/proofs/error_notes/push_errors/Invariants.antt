use Rattle.std.proofs.Common.{◌≡◌, ◌++◌, drop}
use Rattle.toml.specs.View.{table_view}
use Rattle.ttx_mistakes.specs.MistakeViews.{mistake_views}
use Rattle.ttx_mistakes.specs.NoteViews.{note_views}
use Rattle.ttx_mistakes.specs.Notes as rule
use Rattle.ttx_mistakes.proofs.error_notes.push_errors.Given as goal

abbrev pub invariant-loop-mistake : goal.invariant-loop-mistake
invariant-loop-mistake l = note_views l.notes.items ++ rule.error_notes (table_view l.table) (mistake_views (drop l.mistake-index l.found))
    ≡ note_views l.initial.notes.items ++ rule.error_notes (table_view l.table) (mistake_views l.found)
