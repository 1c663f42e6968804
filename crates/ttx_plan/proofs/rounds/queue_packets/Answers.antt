use Rattle.std.proofs.Common.{◌≡◌, ◌++◌, [], false, map, sym, ap, ◌∙◌, arith, take_all}
use Rattle.std.specs.Prelude.{flat_map, ◌==◌, if◌then◌else◌, List}
use Rattle.std.proofs.lemmas.List.{append-nil}
use Rattle.ttx_plan.specs.declared.packet.Packet.{Packet}
use Rattle.ttx_plan.specs.Blocks.{packets_of}
use Rattle.ttx_plan.specs.Seen.{seen_sent}
use Rattle.ttx_plan.proofs.GrowingLists.{own_more, other_more}
use Rattle.ttx_plan.proofs.UsedQueues.{any_seen}
use Rattle.ttx_plan.proofs.rounds.queue_packets.Goals as goal
use Rattle.ttx_plan.proofs.rounds.queue_packets.Goals.{then-has_pages+in_ok-push, else-has_pages, then-block-queue+in_ok-push_block, else-block-queue}

pub returns : goal.returns
returns c =
    let of_blocks : List Packet = flat_map (λ b. if b.queue == c.args.queue then packets_of false b else []) (map seen_sent c.args.sent.now) in
    let sent : c.loop-block.packets.items ≡ of_blocks =
    c.loop-block.invariant
    ∙ ap (λ x. flat_map (λ b. if b.queue == c.args.queue then packets_of false b else []) (map seen_sent x))
    (take_all c.loop-block.block-index c.args.sent.now (omega arith)) in
    elim c.if-has_pages.branch [
      | then-has_pages+in_ok-push w ↦
          let used = sym (any_seen c.args.queue c.args.sent.now) ∙ sym c.has_pages.ensures ∙ w.if-has_pages.true in
          rw (w.packets-is, w.in_ok-push.ensures.items, sent, w.time_filling.ensures, used)
      | else-has_pages w ↦
          let used = sym (any_seen c.args.queue c.args.sent.now) ∙ sym c.has_pages.ensures ∙ w.if-has_pages.false in
          rw (w.packets-is, sent, used) (sym (append-nil of_blocks))
    ]

pub loop-block-preserved : goal.loop-block-preserved
loop-block-preserved c = elim c.if-block-queue.branch [
  | then-block-queue+in_ok-push_block w ↦
      ap (λ x. x.items) w.packets-is ∙ w.in_ok-push_block.ensures
      ∙ ap (λ x. x ++ packets_of false (seen_sent c.block-item.result)) c.loop-block.invariant
      ∙ own_more c.args.queue c.args.sent.now c.loop-block.block-index c.block-item.result c.loop-block-test.true c.block-item.is
      w.if-block-queue.true
  | else-block-queue w ↦
      ap (λ x. x.items) w.packets-is ∙ c.loop-block.invariant
      ∙ other_more c.args.queue c.args.sent.now c.loop-block.block-index c.block-item.result c.loop-block-test.true c.block-item.is
      w.if-block-queue.false
]
