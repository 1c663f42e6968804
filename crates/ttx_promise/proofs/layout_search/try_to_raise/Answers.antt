use Rattle.std.proofs.Common.{◌≡◌, ◌*◌, ◌<◌, true, length, sym, ap, subst, ◌∙◌}
use Rattle.ttx_source.specs.Keys.{is_often}
use Rattle.ttx_source.specs.Services.{ServiceFields, with_often}
use Rattle.ttx_promise.proofs.PageOften.{sent_so, authored_there, often_set_length, with_often_back}
use Rattle.ttx_promise.proofs.layout_search.try_to_raise.Goals as goal

pub set_often-requires-then-is_too_long_spread-clause-index : goal.set_often-requires-then-is_too_long_spread-clause-index
set_often-requires-then-is_too_long_spread-clause-index c =
    subst (λ (s : ServiceFields). c.args.page < length s.pages) (sym c.set_often.ensures)
    (subst (λ n. c.args.page < n) (sym (often_set_length c.args.service.now.pages c.args.page (2 * c.often-often.result))) c.requires.page)

pub set_often-requires-then-is_too_long_spread-clause-often : goal.set_often-requires-then-is_too_long_spread-clause-often
set_often-requires-then-is_too_long_spread-clause-often c =
    let s = sent_so c.args.service.now.pages c.args.page c.often-often.result c.often-often.ensures in
    let authored = authored_there c.args.service.now.serial c.args.service.now.pages c.pages-pages.ensures.ranges.pages c.args.page s.page s.at in
    subst (λ n. is_often n ≡ true) s.is authored.often

pub returns-then-is_too_long_spread : goal.returns-then-is_too_long_spread
returns-then-is_too_long_spread c =
    let s = sent_so c.args.service.now.pages c.args.page c.often-often.result c.often-often.ensures in
    c.set_often-then-is_too_long_spread.ensures
    ∙ ap (λ (v : ServiceFields). with_often v c.args.page c.often-often.result) c.set_often.ensures
    ∙ with_often_back c.args.service.now c.args.page (2 * c.often-often.result) c.often-often.result s
