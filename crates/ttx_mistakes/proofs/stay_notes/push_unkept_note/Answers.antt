use Rattle.std.proofs.Common.{◌∙◌, ◌++◌, codes, map, None, sym, ap}
use Rattle.std.proofs.lemmas.List.{append-nil}
use Rattle.ttx_page.specs.Views.{page_of}
use Rattle.ttx_stays.specs.UnkeptStays.{text_of}
use Rattle.ttx_numbers.proofs.NumberedPages.{value_got}
use Rattle.ttx_mistakes.specs.NoteViews.{note_views}
use Rattle.ttx_mistakes.specs.StayNotes.{line_note, key_path}
use Rattle.ttx_mistakes.proofs.stay_notes.push_unkept_note.Goals as goal

pub returns-in_default : goal.returns-in_default
returns-in_default c =
    let pages = map page_of c.args.pages.now in
    let old = note_views c.args.notes.now.items in
    let there = value_got c.args.pages.now c.args.stay.page None c.in_default.ensures.lookup in
    sym (append-nil old) ∙ ap (λ o. old ++ line_note (key_path c.args.stay.page (codes "stays")) (text_of c.args.lines pages c.args.stay.fields o)) (sym there)
