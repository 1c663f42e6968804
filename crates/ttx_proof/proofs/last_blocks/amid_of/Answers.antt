use Rattle.std.proofs.Common.{◌-◌, length, ap, subst}
use Rattle.std.proofs.lemmas.Bool.{both_ways}
use Rattle.ttx_cycle.specs.Cycles.{slots_of}
use Rattle.ttx_page.specs.Views.{page_of}
use Rattle.ttx_proof.specs.LastBlocks.{TellsLeft}
use Rattle.std.proofs.Common.{Some}
use Rattle.ttx_proof.proofs.LastBlocks.{amid_is, goes_of}
use Rattle.ttx_proof.proofs.last_blocks.amid_of.Goals as goal

pub returns-then-not-goes_on : goal.returns-then-not-goes_on
returns-then-not-goes_on c = λ slot a.
    both_ways _ c.if-not-goes_on.true (c.goes_on.ensures.1 (goes_of (slots_of c.args.old.now) (page_of c.args.page.now) slot a))

pub returns : goal.returns
returns c =
    let old = slots_of c.args.old.now in
    let p = page_of c.args.page.now in
    let back = c.in_ok-back.back in
    let told = subst (λ id. TellsLeft old id (Some back)) c.id.ensures c.in_ok-back.ensures in
    let on = c.goes_on.ensures.0 c.if-not-goes_on.false in
    amid_is old p back told.0 told.1 told.2 (length c.slots.result.now - 1 - back) (ap (λ s. length s - 1 - back) c.slots.ensures.slots)
    on.0 on.1
