use Rattle.std.proofs.Common.{◌-◌, length, arith, subst, sym, rules, ◌∙◌}
use Rattle.std.specs.Io.KnownBytes.{Consumes}
use Rattle.std.proofs.KnownBytes.{Consumes-trans}
use Rattle.ttx_cycle.proofs.PutParts.{take-put_mid_part, length-put_mid}
use Rattle.ttx_cycle.proofs.slot_bytes.fill_block.Goals as goal

pub loop-at-preserved : goal.loop-at-preserved
loop-at-preserved g c = record {
  size = length-put_mid c.loop-at.at (length c.loop-at.block - c.loop-at.at) c.loop-at.block c.read.new.buf (omega arith) (omega arith)
      ∙ c.loop-at.invariant.size;
  within = search rules;
  bytes = subst (Consumes _ _) (sym
      (take-put_mid_part c.loop-at.at (length c.loop-at.block - c.loop-at.at) c.in-Ok.count c.loop-at.block c.read.new.buf
      (omega arith) c.in-Ok.ensures.bound.0)) (Consumes-trans _ _ _ _ _ c.loop-at.invariant.bytes c.in-Ok.ensures.bytes.0);
  calls = omega (arith, c.in-Ok.ensures.calls);
  faults = search rules;
}
