use Rattle.std.proofs.Common.{◌∙◌, ◌*◌, length, take, ap, arith}
use Rattle.ttx_cycle.proofs.Chunks.{take_whole}
use Rattle.ttx_cycle.proofs.reader.slot_at.Goals as goal

pub returns : goal.returns
returns c = c.first_slot.ensures ∙ ap (take 42) (take_whole (length c.args.bytes.now) (42 * c.args.i) c.args.bytes.now (omega arith))
