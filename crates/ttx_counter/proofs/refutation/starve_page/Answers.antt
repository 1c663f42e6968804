use Rattle.std.proofs.Common.{arith}
use Rattle.ttx_counter.specs.Claims.{claimed_slots, claimed_pages, claimed_numbers, own_page}
use Rattle.ttx_counter.proofs.SearchAnswers.{covered_more, covered_all}
use Rattle.ttx_counter.proofs.refutation.starve_page.Goals as goal

pub loop-number-preserved : goal.loop-number-preserved
loop-number-preserved c =
    let p = c.args.page.now in
    covered_more (claimed_slots p.claim.now) (claimed_pages p.claim.now) (claimed_numbers p.claim.now) (own_page p)
    c.loop-number.number c.loop-number.invariant c.item_of-item.result c.item_of-item.ensures.item c.item_of-item.ensures.number
    c.start_for-start.result c.in_default.is c.start_for-start.ensures

pub returns : goal.returns
returns c =
    let p = c.args.page.now in
    covered_all (claimed_slots p.claim.now) (claimed_pages p.claim.now) (claimed_numbers p.claim.now) (own_page p)
    (λ item is lt need. let t = c.loop-number-test.false in c.loop-number.invariant item is (omega arith) need)
