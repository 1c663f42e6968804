use Rattle.std.proofs.Common.{◌≡◌, ◌∙◌, ◌++◌, ◌*◌, map, Some, None, string_bytes, subst, sym, ap}
use Rattle.std.specs.Prelude.{OnOk}
use Rattle.std.proofs.lemmas.List.{append-nil}
use Rattle.ttx_page.specs.Views.{page_of}
use Rattle.ttx_stays.specs.UnkeptStays.{text_of, unkept_line}
use Rattle.ttx_numbers.proofs.NumberedPages.{value_got}
use Rattle.ttx_stays.proofs.unkept_stays.push_stay.Goals as goal

pub returns-in-Some : goal.returns-in-Some
returns-in-Some c =
    let pages = map page_of c.args.pages.now in
    let old = string_bytes c.args.text.now in
    let new = string_bytes c.push_unkept.new.text in
    let there = value_got c.args.pages.now c.args.stay.page (Some c.in-Some.page) c.in-Some.ensures.lookup in
    let lines = subst (λ n. OnOk c.push_unkept.result (new ≡ old ++ unkept_line pages (page_of c.in-Some.page.now) (c.args.stay.fields * n)))
    c.from.ensures c.push_unkept.ensures in
    subst (λ o. OnOk c.push_unkept.result (new ≡ old ++ text_of c.args.lines pages c.args.stay.fields o)) (sym there) lines

pub returns-in-None : goal.returns-in-None
returns-in-None c =
    let pages = map page_of c.args.pages.now in
    let there = value_got c.args.pages.now c.args.stay.page None c.in-None.ensures.lookup in
    sym (append-nil (string_bytes c.args.text.now))
    ∙ ap (λ o. string_bytes c.args.text.now ++ text_of c.args.lines pages c.args.stay.fields o) (sym there)
