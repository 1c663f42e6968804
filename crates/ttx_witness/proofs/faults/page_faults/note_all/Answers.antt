use Rattle.std.proofs.Common.{◌∙◌, subst, arith}
use Rattle.ttx_cycle.specs.Cycles.{slots_of, slots_of-IsCycle}
use Rattle.ttx_page.specs.Streams.{repeated}
use Rattle.ttx_page.specs.Views.{page_of}
use Rattle.ttx_witness.specs.faults.FirstSlots.{AreFirstTaken}
use Rattle.ttx_witness.proofs.lemmas.faults.CollectedSlots.{TakenWith, none_taken_with, next_taken_with, all_taken_with}
use Rattle.ttx_witness.proofs.lemmas.runs.OneMore.{take_whole}
use Rattle.ttx_witness.proofs.faults.page_faults.note_all.Goals as goal

pub loop-i-init : goal.loop-i-init
loop-i-init c = record
    { first = λ lines item it is listed f. none_taken_with (slots_of c.args.cycle.now) (page_of c.args.page.now) c.args.number c.args.first.now f }

pub loop-i-preserved : goal.loop-i-preserved
loop-i-preserved c = record {
  first = λ lines item it is listed f.
      next_taken_with (slots_of c.args.cycle.now) (page_of c.args.page.now) c.args.number (slots_of-IsCycle c.args.cycle.now).some lines item it is
      c.args.sent.now listed c.loop-i.i _ c.loop-i-test.true c.loop-i.first c.note_transmission.new.first
      c.note_transmission.ensures (c.loop-i.invariant.first lines item it is listed f);
}

pub returns : goal.returns
returns c = λ lines item it is listed f.
    let cycle = slots_of c.args.cycle.now in let p = page_of c.args.page.now in
    all_taken_with cycle p c.args.number (slots_of-IsCycle c.args.cycle.now).some lines item it is c.loop-i.first
    (subst (λ ts. AreFirstTaken p (repeated cycle) (TakenWith cycle p c.args.number ts) c.loop-i.first)
    (take_whole c.loop-i.i c.args.sent.now (omega (arith, c.loop-i-test.false)) ∙ listed) (c.loop-i.invariant.first lines item it is listed f))
