use Rattle.std.proofs.Common.{refl, sym, subst}
use Rattle.ttx_page.specs.Views.{page_of}
use Rattle.ttx_proof.specs.Splicing.{splice_between, TellsPlace, TellsSeamOf}
use Rattle.ttx_proof.specs.Verdicts.{TellsSeam}
use Rattle.ttx_proof.proofs.PlacesOfPages.{contains_at}
use Rattle.ttx_proof.proofs.first_seam.seam_of.Goals as goal

pub returns-in_err-slot : goal.returns-in_err-slot
returns-in_err-slot c = λ among.
    let s = splice_between c.args.sides.now in
    let p = page_of c.args.page.now in
    let none = subst (TellsSeam s p) c.in_err-slot.was (c.first_seam.ensures s refl refl) in
    subst (TellsSeamOf s p) (sym c.from_residual.ensures) (λ common. none)

pub returns-in-Some : goal.returns-in-Some
returns-in-Some c = λ among.
    let s = splice_between c.args.sides.now in
    let p = page_of c.args.page.now in
    let at = subst (TellsPlace s.old_pages p) c.in-Some.is c.equal_place.ensures in
    ((contains_at s.old_pages c.in-Some.field-0 p at, among), subst (TellsSeam s p) c.in_ok-slot.was (c.first_seam.ensures s refl refl))

pub returns-in-None : goal.returns-in-None
returns-in-None c = λ among common.
    let none = subst (TellsPlace (splice_between c.args.sides.now).old_pages (page_of c.args.page.now)) c.in-None.is c.equal_place.ensures in
    absurd (none common.0)
