use Rattle.std.proofs.Common.{◌≡◌, ◌++◌, drop, map}
use Rattle.ttx_page.specs.Views.{page_of}
use Rattle.ttx_mistakes.specs.NoteViews.{note_views}
use Rattle.ttx_mistakes.specs.WarningNotes as rule
use Rattle.ttx_mistakes.proofs.warning_notes.push_notes.Given as goal

abbrev pub invariant-loop-warning : goal.invariant-loop-warning
invariant-loop-warning l = note_views l.notes.items ++ map (rule.warning_note (map (λ p. p.id) (map page_of l.pages))) (drop l.warning-index l.found)
    ≡ note_views l.initial.notes.items ++ map (rule.warning_note (map (λ p. p.id) (map page_of l.pages))) l.found
