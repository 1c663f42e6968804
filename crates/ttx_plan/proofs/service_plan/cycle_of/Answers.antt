use Rattle.std.proofs.Common.{◌≡◌, ◌∙◌, ap, map}
use Rattle.ttx_plan.specs.Blocks.{placed, sent_blocks}
use Rattle.ttx_plan.specs.Carries.{blocks_of, blocks_sent_at}
use Rattle.ttx_plan.specs.Seen.{seen, seen_sent}
use Rattle.ttx_plan.proofs.PlannedSlots.{some_sent}
use Rattle.ttx_plan.proofs.service_plan.cycle_of.Goals as goal

pub cycle_slots-requires : goal.cycle_slots-requires
cycle_slots-requires c =
    let blocks : map seen c.deref.result.now ≡ placed c.args.places.now (blocks_of c.args.receivers.class c.args.service.now.pages) =
    ap (map seen) c.deref.ensures.value ∙ c.in_ok-blocks.ensures in
    let sent : map seen_sent c.deref-2.result.now ≡ blocks_sent_at c.args.places.now c.args.receivers.late c.args.receivers.class
    c.args.service.now.pages =
    ap (map seen_sent) c.deref-2.ensures.value ∙ c.in_ok-sent.ensures ∙ ap (sent_blocks c.args.receivers.late) blocks in
    let lines : c.from-lines.result ≡ c.args.service.now.lines = c.from-lines.ensures ∙ c.lines.ensures.value in
    record {
      lines = (rw lines c.lines.ensures.ranges.lines_from, rw lines c.lines.ensures.ranges.lines_to);
      some = some_sent c.args.places.now c.args.receivers.late c.args.receivers.class c.args.service.now.serial c.args.service.now.pages
          c.pages-pages.ensures.ranges.pages c.requires.places c.deref-2.result.now sent c.requires.some;
      few = rw (lines, sent) c.requires.few;
    }

pub is_planned-requires : goal.is_planned-requires
is_planned-requires c =
    let blocks : map seen c.deref.result.now ≡ placed c.args.places.now (blocks_of c.args.receivers.class c.args.service.now.pages) =
    ap (map seen) c.deref.ensures.value ∙ c.in_ok-blocks.ensures in
    let sent : map seen_sent c.deref-2.result.now ≡ blocks_sent_at c.args.places.now c.args.receivers.late c.args.receivers.class
    c.args.service.now.pages =
    ap (map seen_sent) c.deref-2.ensures.value ∙ c.in_ok-sent.ensures ∙ ap (sent_blocks c.args.receivers.late) blocks in
    let lines : c.from-lines.result ≡ c.args.service.now.lines = c.from-lines.ensures ∙ c.lines.ensures.value in
    let slots = rw c.unwrap-cycle.ensures at c.of.ensures.slots in
    record {
      places = c.requires.places;
      carries = rw (slots, ← c.serial.ensures, ← lines, ← c.info_packet-info.ensures, ← sent) c.in_ok-slots.ensures.carries;
    }
