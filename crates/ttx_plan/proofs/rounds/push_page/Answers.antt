use Rattle.std.proofs.Common.{◌∙◌, ◌++◌, ◌∷◌, [], get_or, ap}
use Rattle.ttx_plan.specs.Blocks.{header_packet, rest_packet}
use Rattle.ttx_plan.proofs.GrowingLists.{others_more, others_end}
use Rattle.ttx_plan.proofs.rounds.push_page.Goals as goal

pub loop-bytes-init : goal.loop-bytes-init
loop-bytes-init c = c.in_ok-push.ensures.items

pub loop-bytes-preserved : goal.loop-bytes-preserved
loop-bytes-preserved c =
    c.in_ok-push-2.ensures.items
    ∙ ap (λ x. x ++ rest_packet (get_or c.deref-bytes-items.result.now c.loop-bytes.bytes-index []) ∷ []) c.loop-bytes.invariant
    ∙ others_more c.args.packets.now.items (header_packet c.args.block.now.header) [] rest_packet c.args.block.now.rest.items
    c.deref-bytes-items.result.now c.loop-bytes.bytes-index [] c.deref-bytes-items.ensures.value c.loop-bytes-test.true

pub returns : goal.returns
returns c =
    c.loop-bytes.invariant
    ∙ others_end c.args.packets.now.items (header_packet c.args.block.now.header) [] rest_packet c.args.block.now.rest.items
    c.deref-bytes-items.result.now c.loop-bytes.bytes-index c.deref-bytes-items.ensures.value c.loop-bytes-test.false
