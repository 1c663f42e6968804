use Rattle.std.proofs.Common.{◌≡◌, ◌+◌, suc, ◌++◌, map, ap, sym, ◌∙◌, subst, arith, append_assoc}
use Rattle.ttx_page.specs.Views.{page_of}
use Rattle.ttx_source.specs.PromiseViews.{promise_view}
use Rattle.ttx_mistakes.specs.NoteViews.{note_views}
use Rattle.ttx_mistakes.specs.StayNotes.{short_notes, short_note}
use Rattle.ttx_mistakes.proofs.stay_notes.push_short_notes.Goals as goal

pub loop-index-preserved : goal.loop-index-preserved
loop-index-preserved c =
    let i = c.loop-index.index in
    let pages = map page_of c.args.pages.now in
    let stays = map promise_view c.args.stays.now in
    let before = note_views c.args.notes.now.items in
    let next : i + 1 ≡ suc i = omega arith in
    subst (λ n. note_views c.push_short_note.new.notes.items ≡ before ++ short_notes pages stays n) (sym next)
    (c.in_ok-push_short_note.ensures ∙ ap (λ t. t ++ short_note pages stays i) c.loop-index.invariant
    ∙ append_assoc before (short_notes pages stays i) (short_note pages stays i))
