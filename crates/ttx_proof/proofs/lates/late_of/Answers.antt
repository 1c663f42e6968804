use Rattle.std.proofs.Common.{◌≡◌, Contains, Some, get_or, ap, ◌∙◌, subst}
use Rattle.ttx_page.specs.Views.{page_of}
use Rattle.ttx_proof.specs.Splicing.{splice_between, StandsAt, TellsLateOf}
use Rattle.ttx_certify.proofs.PageByPage.{page_at}
use Rattle.ttx_proof.proofs.PlacesOfPages.{ok_map, common_at, late_told}
use Rattle.ttx_proof.proofs.lates.late_of.Goals as goal

pub returns-in-Some : goal.returns-in-Some
returns-in-Some c =
    let s = splice_between c.args.sides.now in
    let q = page_of (get_or c.args.sides.now.new.pages.now c.args.new_place c.index-sides-new_place.result) in
    let new = page_at c.args.sides.now.new.pages.now c.args.new_place c.index-sides-new_place.result c.requires.place
    c.index-sides-new_place.is ∙ ap (λ x. Some (page_of x)) c.index-sides-new_place.is in
    let at : StandsAt s q c.in-Some.old_place c.args.new_place = record { old = c.in-Some.ensures; new = new } in
    ok_map _ _ c.late_item.result (λ late told known sent p here.
    let same : q ≡ p = cc in
    subst (λ x. TellsLateOf s x late) same
    (late_told s q (common_at s q c.in-Some.old_place c.args.new_place at) late (told known sent at))) c.late_item.ensures

pub returns-in-None : goal.returns-in-None
returns-in-None c = λ known sent p here common.
    let s = splice_between c.args.sides.now in
    let q = page_of (get_or c.args.sides.now.new.pages.now c.args.new_place c.index-sides-new_place.result) in
    let new = page_at c.args.sides.now.new.pages.now c.args.new_place c.index-sides-new_place.result c.requires.place
    c.index-sides-new_place.is ∙ ap (λ x. Some (page_of x)) c.index-sides-new_place.is in
    let same : p ≡ q = cc in
    absurd (c.in-None.ensures (subst (Contains s.old_pages) same common.0))
