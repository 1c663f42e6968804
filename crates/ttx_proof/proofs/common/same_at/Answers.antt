use Rattle.std.proofs.Common.{◌≡◌, map, Some, refl, ap, ◌∙◌, arith}
use Rattle.std.proofs.lemmas.List.{length-map}
use Rattle.std.proofs.lemmas.Option.{slice_get_within}
use Rattle.ttx_page.specs.Views.{page_of}
use Rattle.ttx_certify.proofs.PageByPage.{page_at}
use Rattle.ttx_proof.proofs.common.same_at.Goals as goal

pub returns-then-place-pages : goal.returns-then-place-pages
returns-then-place-pages c = λ e.
    let lt = slice_get_within (map page_of c.args.pages.now) c.args.place (page_of c.args.page.now) e in
    let l = length-map c.args.pages.now page_of in
    omega (arith, c.if-place-pages.true)

pub returns-then-is_same : goal.returns-then-is_same
returns-then-is_same c =
    let here = page_at c.args.pages.now c.args.place c.index-pages-place.result (omega (arith, c.if-place-pages.false)) c.index-pages-place.is in
    (refl, here ∙ ap Some (c.is_same.ensures.0 c.if-is_same.true))

pub returns : goal.returns
returns c = λ e.
    let here = page_at c.args.pages.now c.args.place c.index-pages-place.result (omega (arith, c.if-place-pages.false)) c.index-pages-place.is in
    let same : page_of c.index-pages-place.result ≡ page_of c.args.page.now = cc in
    let yes_way = c.is_same.ensures.1 same in
    let no_way = c.if-is_same.false in
    cc
