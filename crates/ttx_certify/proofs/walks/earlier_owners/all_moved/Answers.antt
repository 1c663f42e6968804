use Rattle.std.proofs.Common.{None, get_or, ◌∙◌, arith}
use Rattle.std.proofs.lemmas.List.{length-set}
use Rattle.ttx_witness.specs.sent.Collected.{IsForeign}
use Rattle.ttx_certify.specs.walks.EarlierOwners.{IsMoved}
use Rattle.ttx_certify.proofs.walk_lemmas.ChangedPlaces.{set_below}
use Rattle.ttx_certify.proofs.walks.earlier_owners.all_moved.Goals as goal

pub loop-m-preserved : goal.loop-m-preserved
loop-m-preserved c =
    let l = c.loop-m in
    let v = c.moved.result in
    let owners = c.args.owners.now in
    let size = l.invariant.size in
    record {
      size = length-set l.earlier l.m v ∙ size;
      moved = set_below l.earlier l.m v None (λ m r. IsMoved c.args.by (get_or owners m None) r)
          (omega (arith, c.loop-m-test.true)) l.invariant.moved c.moved.ensures.moved;
      foreign = λ m i lt. set_below l.earlier l.m v None (λ m r. IsForeign i (get_or owners m None) → IsForeign i r)
          (omega (arith, c.loop-m-test.true)) (λ n less. l.invariant.foreign n i less) (c.moved.ensures.foreign i) m lt;
    }

pub returns-clause-foreign : goal.returns-clause-foreign
returns-clause-foreign c = λ m i lt. c.loop-m.invariant.foreign m i (omega (arith, c.loop-m-test.false))
