use Rattle.std.proofs.Common.{◌≡◌, ◌++◌, ◌+◌, drop}
use Rattle.toml.specs.View.{items_view}
use Rattle.ttx_mistakes.specs.KeyNotes as rule
use Rattle.ttx_mistakes.specs.NoteViews.{note_views}
use Rattle.ttx_mistakes.proofs.key_notes.push_pages.Given as goal

abbrev pub invariant-loop-index : goal.invariant-loop-index
invariant-loop-index l = note_views l.notes.items ++ rule.pages_notes (l.index + 1) (items_view (drop l.index l.values))
    ≡ note_views l.initial.notes.items ++ rule.pages_notes 1 (items_view l.values)
