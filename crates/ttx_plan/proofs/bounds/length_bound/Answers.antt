use Rattle.std.proofs.Common.{◌≡◌, ◌+◌, ◌*◌, ◌≤◌, [], length, take, take_all, eqb, refl, sym, ap, ◌∙◌, arith}
use Rattle.std.specs.Prelude.{sum_by}
use Rattle.ttx_page.specs.Views.{page_of}
use Rattle.ttx_source.specs.Services.{authored_at}
use Rattle.ttx_plan.specs.Blocks.{Block, placed, packets_in, rounds_to, used_queues}
use Rattle.ttx_plan.specs.Carries.{blocks_of, blocks_sent_at}
use Rattle.ttx_plan.specs.Ranges.{IsOften}
use Rattle.ttx_plan.proofs.ServicePages.{page_at_index, blocks_in_rounds, sum_next, used_same, same_lengths, product_most}
use Rattle.ttx_plan.proofs.PlacedBlocks.{placed_sum, placed_any}
use Rattle.ttx_plan.proofs.SentBlocks.{led_length, led_packets, same_queues, used_alike}
use Rattle.ttx_plan.proofs.RepeatedBlocks.{sum_sent, count_sent}
use Rattle.ttx_plan.proofs.bounds.length_bound.Goals as goal

pub loop-index-preserved : goal.loop-index-preserved
loop-index-preserved c =
    let often = c.times-often.result in
    let page = page_at_index c.pages-pages.result.now c.args.service.now.pages c.loop-index.index c.times-often.result
    c.index-pages-index.result c.pages-pages.ensures.value (omega arith) c.index-pages-index.is c.times-often.ensures.value in
    let authored = authored_at (page_of c.index-pages-index.result) c.times-often.result in
    let is : IsOften c.times-often.result = c.times-often.ensures.is in
    let counted = sum_next (λ (b : Block). b.often) c.args.receivers.class c.args.service.now.pages c.loop-index.index authored page in
    let summed = sum_next (λ (b : Block). b.often * (length b.rest + 1)) c.args.receivers.class c.args.service.now.pages
    c.loop-index.index authored page in
    let most : c.times-often.result * c.block_length.result ≤ 208 =
    product_most c.times-often.result c.block_length.result is.most c.block_length.ensures.few in
    record {
      blocks = ap (λ n. n + c.times-often.result) c.loop-index.invariant.blocks ∙ sym counted;
      packets = ap (λ n. n + c.times-often.result * c.block_length.result) c.loop-index.invariant.packets
          ∙ ap (λ n. sum_by (λ (b : Block). b.often * (length b.rest + 1))
          (blocks_of c.args.receivers.class (take c.loop-index.index c.args.service.now.pages)) + c.times-often.result * n)
          c.block_length.ensures.length
          ∙ sym summed;
      few = omega (arith, c.loop-index.invariant.few, is.most);
      small = omega (arith, c.loop-index.invariant.small, most);
    }

pub returns : goal.returns
returns c =
    let pages = c.args.service.now.pages in
    let plain = blocks_of c.args.receivers.class c.args.service.now.pages in
    let all = placed c.args.places.now (blocks_of c.args.receivers.class c.args.service.now.pages) in
    let sent = blocks_sent_at c.args.places.now c.args.receivers.late c.args.receivers.class c.args.service.now.pages in
    let rounds = rounds_to (placed c.args.places.now (blocks_of c.args.receivers.class c.args.service.now.pages)) 8 in
    let often = blocks_in_rounds c.args.receivers.class c.args.service.now.serial c.args.places.now c.args.service.now.pages
    c.pages-pages.ensures.ranges.pages c.requires in
    let size : length c.pages-pages.result.now ≡ length c.args.service.now.pages =
    same_lengths c.pages-pages.result.now c.args.service.now.pages c.pages-pages.ensures.value in
    let whole : take c.loop-index.index c.args.service.now.pages ≡ c.args.service.now.pages =
    take_all c.loop-index.index c.args.service.now.pages (omega arith) in
    let blocks : c.loop-index.blocks ≡ length sent =
    c.loop-index.invariant.blocks ∙ ap (λ x. sum_by (λ (b : Block). b.often) (blocks_of c.args.receivers.class x)) whole
    ∙ sym (placed_sum (λ b. b.often) (λ place b. refl) c.args.places.now plain)
    ∙ sym (count_sent all often) ∙ sym (led_length c.args.receivers.late [] rounds) in
    let rest : c.loop-index.packets ≡ sum_by (λ (b : Block). length b.rest + 1) rounds =
    c.loop-index.invariant.packets ∙ ap
    (λ x. sum_by (λ (b : Block). b.often * (length b.rest + 1)) (blocks_of c.args.receivers.class x)) whole
    ∙ sym (placed_sum (λ b. b.often * (length b.rest + 1)) (λ place b. refl) c.args.places.now plain)
    ∙ sym (sum_sent (λ b. length b.rest + 1) all often) in
    let packets : c.loop-index.packets + c.count_fillers-packets.result ≡ packets_in sent =
    ap (λ n. n + c.count_fillers-packets.result) rest
    ∙ ap (λ n. sum_by (λ (b : Block). length b.rest + 1) rounds + n) c.count_fillers-packets.ensures.count
    ∙ sym (led_packets c.args.receivers.late [] rounds) in
    let used : c.count_used.result ≡ length (used_queues sent) =
    c.count_used.ensures.count ∙ ap length
    (used_same c.args.receivers.class c.pages-pages.result.now c.args.service.now.pages 8 c.pages-pages.ensures.value
    ∙ sym (used_alike sent plain (λ q. same_queues c.args.receivers.late all often q
    ∙ placed_any (λ b. eqb b.queue q) (λ place b. refl) c.args.places.now plain) 8)) in
    let lines : c.from-lines.result ≡ c.args.service.now.lines = c.from-lines.ensures ∙ c.lines.ensures.value in
    ap (λ n. 2 * (n + c.loop-index.blocks * c.from-lines.result + c.count_used.result) + 2 * c.from-lines.result) packets
    ∙ ap (λ n. 2 * (packets_in sent + n * c.from-lines.result + c.count_used.result) + 2 * c.from-lines.result) blocks
    ∙ ap (λ n. 2 * (packets_in sent + length sent * c.from-lines.result + n) + 2 * c.from-lines.result) used
    ∙ ap (λ n. 2 * (packets_in sent + length sent * n + length (used_queues sent)) + 2 * n) lines
