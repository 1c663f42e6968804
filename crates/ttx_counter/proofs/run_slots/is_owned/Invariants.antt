use Rattle.std.proofs.Common.{◌≡◌, pos, ◌-ℤ◌, length, false}
use Rattle.ttx_page.specs.Streams.{repeated}
use Rattle.ttx_counter.specs.Listening.{mine_from}
use Rattle.ttx_counter.proofs.run_slots.is_owned.Given as goal

abbrev pub invariant-loop-i : goal.invariant-loop-i
invariant-loop-i l = l.mine ≡ mine_from l.page (repeated l.slots) (pos l.start -ℤ pos (length l.slots)) false l.i
