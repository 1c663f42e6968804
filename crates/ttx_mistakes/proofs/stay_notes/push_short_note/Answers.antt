use Rattle.std.proofs.Common.{◌≡◌, ◌∙◌, ◌++◌, codes, map, Some, None, subst, sym, ap}
use Rattle.std.specs.Prelude.{OnOk}
use Rattle.std.proofs.lemmas.List.{append-nil}
use Rattle.ttx_page.specs.Views.{page_of}
use Rattle.ttx_source.specs.PromiseViews.{promise_view}
use Rattle.ttx_stays.specs.ShortNumbers.{short_text}
use Rattle.ttx_numbers.proofs.NumberedPages.{value_got}
use Rattle.ttx_mistakes.specs.NoteViews.{note_views}
use Rattle.ttx_mistakes.specs.StayNotes.{line_note, key_path}
use Rattle.ttx_mistakes.proofs.stay_notes.push_short_note.Goals as goal

pub returns-in_default : goal.returns-in_default
returns-in_default c =
    let pages = map page_of c.args.pages.now in
    let stays = map promise_view c.args.stays.now in
    let old = note_views c.args.notes.now.items in
    let path = key_path c.args.index (codes "number") in
    let there = value_got c.args.pages.now c.args.index None c.in_default.ensures.lookup in
    sym (append-nil old) ∙ ap (λ o. old ++ line_note path (short_text pages stays c.args.index o)) (sym there)

pub returns : goal.returns
returns c =
    let pages = map page_of c.args.pages.now in
    let stays = map promise_view c.args.stays.now in
    let old = note_views c.args.notes.now.items in
    let new = note_views c.push_line.new.notes.items in
    let path = key_path c.args.index (codes "number") in
    let there = value_got c.args.pages.now c.args.index (Some c.in-Some.page) c.in-Some.ensures.lookup in
    let told = short_text pages stays c.args.index (Some (page_of c.in-Some.page.now)) in
    let line : c.as_bytes.result.now ≡ told =
    c.as_bytes.ensures.value ∙ c.in_ok-push_short.ensures ∙ ap (λ b. b ++ told) c.new-line.ensures.bytes in
    subst (λ o. OnOk c.push_line.result (new ≡ old ++ line_note path (short_text pages stays c.args.index o))) (sym there)
    (subst (λ l. OnOk c.push_line.result (new ≡ old ++ line_note path l)) line
    (subst (λ p. OnOk c.push_line.result (new ≡ old ++ line_note p c.as_bytes.result.now)) c.in_ok-path.ensures c.push_line.ensures))
