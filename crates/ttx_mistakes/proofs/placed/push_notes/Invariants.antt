use Rattle.std.proofs.Common.{◌≡◌, ◌++◌, drop, map}
use Rattle.ttx_mistakes.specs.LongLines as rule
use Rattle.ttx_mistakes.specs.NoteViews.{note_views}
use Rattle.ttx_mistakes.specs.PlacedViews.{placed_views}
use Rattle.ttx_mistakes.proofs.placed.push_notes.Given as goal

abbrev pub invariant-loop-note : goal.invariant-loop-note
invariant-loop-note l = placed_views l.found.items ++ map (rule.placed l.text) (note_views (drop l.note-index l.notes))
    ≡ placed_views l.initial.found.items ++ map (rule.placed l.text) (note_views l.notes)
