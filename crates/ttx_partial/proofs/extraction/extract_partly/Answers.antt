use Rattle.std.proofs.Common.{Ok, subst, arith}
use Rattle.ttx_cycle.specs.Cycles.{slots_of}
use Rattle.ttx_partial.specs.Partials.{Steps}
use Rattle.ttx_partial.proofs.LeftPages.{stopped, turn, longer, after_all}
use Rattle.ttx_partial.proofs.extraction.extract_partly.Goals as goal

pub loop-preserved : goal.loop-preserved
loop-preserved c =
    let slots = slots_of c.args.cycle.now in
    let rest = slots_of c.loop.rest in
    let left = c.loop.left.items in
    let page = c.in-Ok-Without.page in
    let more = c.push.new.self.items in
    let appended = c.in-Ok-push.ensures.items in
    let is = subst (λ s. Steps rest c.args.lines (Ok s)) c.in-Ok-Without.field-0-is c.in-Ok-Without.ensures in
    record {
      left = turn slots c.args.lines left rest c.loop.invariant.left page is more appended (slots_of c.in-Ok-without.rest) c.in-Ok-without.ensures.cycle;
      count = longer left page more c.loop.counter appended c.loop.invariant.count;
    }

pub returns-in-Ok-Whole : goal.returns-in-Ok-Whole
returns-in-Ok-Whole c = record {
  rest = slots_of c.loop.rest;
  left = c.loop.invariant.left;
  text = subst (λ s. Steps (slots_of c.loop.rest) c.args.lines (Ok s)) c.in-Ok-Whole.field-0-is c.in-Ok-Whole.ensures;
}

pub returns-in-Err-tried : goal.returns-in-Err-tried
returns-in-Err-tried c =
    stopped (slots_of c.args.cycle.now) c.args.lines c.loop.left.items (slots_of c.loop.rest) c.loop.invariant.left c.in-Err-tried.fault
    c.in-Err-tried.ensures

pub returns : goal.returns
returns c =
    let a = c.loop.invariant.count in
    let b = c.loop-test.false in
    let d = c.loop.auto.counter-end in
    after_all (slots_of c.args.cycle.now) c.args.lines c.loop.left.items (slots_of c.loop.rest) c.loop.invariant.left (omega arith)
    c.last.result c.last.ensures
