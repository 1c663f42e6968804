use Rattle.std.proofs.Common.{◌≡◌, ◌∙◌, ◌↔◌, IsTrue, Some, map, slice_get, ap, sym, subst}
use Rattle.ttx_page.specs.Pages.{Fits}
use Rattle.ttx_page.specs.Views.{page_of}
use Rattle.ttx_page.proofs.PageLists.{slice_get-page_of}
use Rattle.ttx_page.proofs.Fitting.{are_same, fits_own}
use Rattle.ttx_page.proofs.selection.Selection.fits.Goals as goal

pub returns-in-Exact : goal.returns-in-Exact
returns-in-Exact c = λ p at.
    let page = c.index-pages-index.result in
    let here : slice_get (map page_of c.args.pages.now) c.args.index ≡ Some (page_of page) =
    slice_get-page_of c.args.pages.now c.args.index page c.requires ∙ ap (λ page. Some (page_of page)) (sym c.index-pages-index.is) in
    subst (λ is. IsTrue is ↔ Fits (map page_of c.args.pages.now) p c.args.self.now) (sym (c.eq.ensures ∙ ap (are_same c.in-Exact.own) c.id.ensures))
    (subst (λ selection. IsTrue (are_same c.in-Exact.own page.id) ↔ Fits (map page_of c.args.pages.now) p selection) (sym c.in-Exact.is)
    (fits_own _ c.args.index (page_of page) p c.in-Exact.own here at))
