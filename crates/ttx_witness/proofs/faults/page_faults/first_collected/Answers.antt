use Rattle.std.proofs.Common.{◌≡◌, subst, arith}
use Rattle.ttx_cycle.specs.Cycles.{slots_of}
use Rattle.ttx_page.specs.Streams.{repeated}
use Rattle.ttx_page.specs.Views.{page_of}
use Rattle.ttx_witness.specs.faults.FirstSlots.{AreFirstTaken, TakenBelow}
use Rattle.ttx_witness.proofs.faults.page_faults.first_collected.Goals as goal

pub loop-number-preserved : goal.loop-number-preserved
loop-number-preserved c = record {
  first = λ pages lines sent at.
      c.note_all.ensures lines c.item_of.result c.item_of.ensures.item c.item_of.ensures.number
      (c.sent-sent.ensures.listed (slots_of c.args.cycle.now) pages lines (page_of c.args.page.now) sent at)
      (c.loop-number.invariant.first pages lines sent at);
}

pub returns : goal.returns
returns c = λ pages lines sent at.
    let cycle = slots_of c.args.cycle.now in let p = page_of c.args.page.now in
    let all : c.loop-number.number ≡ 26 = omega (arith, c.loop-number-test.false, c.loop-number.auto.number-end) in
    subst (λ n. AreFirstTaken p (repeated cycle) (TakenBelow cycle p.id n) c.loop-number.first) all
    (c.loop-number.invariant.first pages lines sent at)
