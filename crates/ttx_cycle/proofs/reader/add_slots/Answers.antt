use Rattle.std.proofs.Common.{◌∙◌, ◌++◌, ◌*◌, ◌+◌, drop, ap, rules}
use Rattle.ttx_cycle.specs.Files.{file_of}
use Rattle.ttx_cycle.proofs.Chunks.{one_more_slot}
use Rattle.ttx_cycle.proofs.reader.add_slots.Goals as goal

pub loop-i-preserved : goal.loop-i-preserved
loop-i-preserved c = record {
  count = search rules;
  bytes =
      ap (λ s. file_of s ++ drop (42 * (c.loop-i.i + 1)) c.args.bytes.now) c.in_ok-push.ensures.items
      ∙ one_more_slot c.loop-i.slots.items c.slot_at.result.now c.args.bytes.now _ c.loop-i.i c.slot_at.ensures c.loop-i.invariant.bytes;
}
