use Rattle.std.proofs.Common.{rules, ◌+◌, map, length, sym, ap, ◌∙◌}
use Rattle.ttx_plan.specs.Blocks.{has_pages, used_to}
use Rattle.ttx_plan.specs.Seen.{seen_sent}
use Rattle.ttx_plan.proofs.SubpageLists.{as_number}
use Rattle.ttx_plan.proofs.UsedQueues.{any_seen, used_next}
use Rattle.ttx_plan.proofs.order.count_used.Goals as goal

pub loop-queue-preserved : goal.loop-queue-preserved
loop-queue-preserved c =
    let sent = map seen_sent c.args.sent.now in
    let queue = c.loop-queue.queue in
    record {
      count = ap (λ n. n + c.from-count.result) c.loop-queue.invariant.count
          ∙ ap (λ n. length (used_to sent queue) + n) (as_number c.from-count.result c.has_pages.result (has_pages sent queue) c.from-count.ensures
          (c.has_pages.ensures ∙ any_seen queue c.args.sent.now))
          ∙ sym (used_next sent queue);
      few = search rules;
    }
