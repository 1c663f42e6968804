use Rattle.std.proofs.Common.{Some, None, subst}
use Rattle.ttx_page.specs.Views.{page_of, ids_of}
use Rattle.ttx_witness.specs.sent.Collected.{Finds}
use Rattle.ttx_proof.proofs.PlacesOfPages.{found_at, not_found}
use Rattle.ttx_proof.proofs.common.equal_place.Goals as goal

pub returns-in-Some : goal.returns-in-Some
returns-in-Some c =
    let pages = c.args.pages.now in
    let p = page_of c.args.page.now in
    found_at pages p c.in-Some.place
    (subst (λ id. Finds (ids_of pages) id (Some c.in-Some.place)) c.id.ensures
    (subst (Finds (ids_of pages) c.id.result) c.in-Some.is (c.place_of.ensures (ids_of pages) c.requires))) c.same_at.result
    c.same_at.ensures

pub returns-in-None : goal.returns-in-None
returns-in-None c =
    let pages = c.args.pages.now in
    let p = page_of c.args.page.now in
    not_found pages p (subst (λ id. Finds (ids_of pages) id None) c.id.ensures
    (subst (Finds (ids_of pages) c.id.result) c.in-None.is (c.place_of.ensures (ids_of pages) c.requires)))
