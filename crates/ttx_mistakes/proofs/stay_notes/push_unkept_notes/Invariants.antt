use Rattle.std.proofs.Common.{◌≡◌, ◌++◌, drop, map}
use Rattle.ttx_page.specs.Views.{page_of}
use Rattle.ttx_source.specs.PromiseViews.{promise_view}
use Rattle.ttx_mistakes.specs.NoteViews.{note_views}
use Rattle.ttx_mistakes.specs.StayNotes.{unkept_notes}
use Rattle.ttx_mistakes.proofs.stay_notes.push_unkept_notes.Given as goal

abbrev pub invariant-loop-stay : goal.invariant-loop-stay
invariant-loop-stay l = note_views l.notes.items ++ unkept_notes l.lines (map page_of l.pages) (map promise_view (drop l.stay-index l.stays))
    ≡ note_views l.initial.notes.items ++ unkept_notes l.lines (map page_of l.pages) (map promise_view l.stays)
