use Rattle.std.proofs.Common.{None, pos, refl, sym, ap, ◌∙◌}
use Rattle.ttx_page.specs.Packets.{packet_of}
use Rattle.ttx_page.specs.Streams.{repeated}
use Rattle.ttx_witness.specs.sent.ItemTransmissions.{owner_scan}
use Rattle.ttx_witness.specs.faults.Comparing.{mine_after}
use Rattle.ttx_witness.proofs.lemmas.faults.OverOnePeriod.{slot_is, mine_scan}
use Rattle.ttx_witness.proofs.faults.page_faults.is_mine_at_end.Goals as goal

pub loop-j-init : goal.loop-j-init
unfolding owner_scan
loop-j-init c = record { mine = refl }

pub loop-j-preserved : goal.loop-j-preserved
loop-j-preserved c = record {
  mine = c.mine_after-mine.ensures
      ∙ ap (λ x. mine_after c.args.page (packet_of x) c.loop-j.mine) (sym (slot_is c.slots-slots.result.now c.loop-j.j c.loop-j-test.true))
      ∙ ap (λ m. mine_after c.args.page (packet_of (repeated c.slots-slots.result.now (pos c.loop-j.j))) m) c.loop-j.invariant.mine
      ∙ mine_scan c.args.page (repeated c.slots-slots.result.now) None c.loop-j.j;
}
