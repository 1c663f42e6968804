use Rattle.std.proofs.Common.{◌≡◌, ◌++◌, map}
use Rattle.ttx_page.specs.Views.{page_of}
use Rattle.ttx_source.specs.PromiseViews.{promise_view}
use Rattle.ttx_mistakes.specs.NoteViews.{note_views}
use Rattle.ttx_mistakes.specs.StayNotes.{short_notes}
use Rattle.ttx_mistakes.proofs.stay_notes.push_short_notes.Given as goal

abbrev pub invariant-loop-index : goal.invariant-loop-index
invariant-loop-index l = note_views l.notes.items
    ≡ note_views l.initial.notes.items ++ short_notes (map page_of l.pages) (map promise_view l.stays) l.index
