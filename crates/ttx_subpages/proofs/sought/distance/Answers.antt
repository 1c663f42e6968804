use Rattle.std.proofs.Common.{◌≡◌, ◌∙◌, length, sym, subst, arith}
use Rattle.ttx_subpages.proofs.NextHeaders.{NoneTo, none_more, found, never}
use Rattle.ttx_subpages.proofs.sought.distance.Goals as goal

pub returns-then-seeks-clause-is : goal.returns-then-seeks-clause-is
returns-then-seeks-clause-is c =
    found c.args.slots.now c.args.sought.now c.args.at c.loop-step.step c.loop-step.invariant.none (sym c.seeks.ensures ∙ c.if-seeks.true)

pub loop-step-preserved : goal.loop-step-preserved
loop-step-preserved c = record {
  none = none_more c.args.slots.now c.args.sought.now c.args.at c.loop-step.step c.loop-step.invariant.none (sym c.seeks.ensures ∙ c.if-seeks.false);
}

pub returns-clause-is : goal.returns-clause-is
returns-clause-is c =
    let slots = c.args.slots.now in
    let e : c.loop-step.step ≡ length slots = let a = c.loop-step.auto.step-end in let b = c.loop-step-test.false in omega arith in
    absurd (never slots c.args.sought.now c.args.at c.requires.some c.requires.here
    (subst (NoneTo slots c.args.sought.now c.args.at) e c.loop-step.invariant.none))
