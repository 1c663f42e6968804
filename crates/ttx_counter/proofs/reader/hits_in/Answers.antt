use Rattle.std.proofs.Common.{◌∙◌, ◌+◌, ◌-◌, ◌*◌, ◌++◌, drop, sym, ap}
use Rattle.ttx_counter.specs.CounterReading.{hits_in}
use Rattle.ttx_counter.proofs.ReadParts.{hits_begin, hits_end, hits_all, hits_step}
use Rattle.ttx_counter.proofs.reader.hits_in.Goals as goal

pub loop-i-init : goal.loop-i-init
loop-i-init c = hits_begin c.args.count c.args.numbers.now c.new-hits.result.items c.new-hits.ensures.items

pub returns-then-rest-lt3 : goal.returns-then-rest-lt3
returns-then-rest-lt3 c = hits_end c.args.count c.loop-i.i c.args.numbers.now c.after_first-rest.result.now c.loop-i.hits.items
    c.loop-i.invariant c.after_first-rest.ensures c.if-rest-lt3.true

pub loop-i-preserved : goal.loop-i-preserved
loop-i-preserved c =
    let next = c.loop-i.i + 1 in
    hits_step c.args.count c.loop-i.i c.args.numbers.now c.after_first-rest.result.now c.loop-i.hits.items c.hit_of.result
    c.loop-i-test.true c.loop-i.invariant c.after_first-rest.ensures c.if-rest-lt3.false c.hit_of.ensures
    ∙ ap (λ xs. xs ++ hits_in (c.args.count - next) (drop (3 * next) c.args.numbers.now)) (sym c.in_ok-push_hit.ensures)

pub returns : goal.returns
returns c = hits_all c.args.count c.loop-i.i c.args.numbers.now c.loop-i.hits.items c.loop-i-test.false c.loop-i.invariant
