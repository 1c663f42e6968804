use Rattle.std.proofs.Common.{◌<◌, get_or, length, ap, sym, subst, arith, ◌∙◌}
use Rattle.std.specs.Prelude.{slice_get}
use Rattle.ttx_page.specs.Views.{page_of}
use Rattle.ttx_source.specs.Services.{authored_at}
use Rattle.ttx_plan.proofs.ServicePages.{listed_page, page_at_index}
use Rattle.ttx_plan.proofs.SpreadPages.{page_spread, page_counted, page_passed, added_most, small_set}
use Rattle.ttx_plan.proofs.OftenNumbers.{period_range}
use Rattle.ttx_plan.proofs.spread.place_pages.Goals as goal
use Rattle.ttx_plan.proofs.spread.place_pages.Goals.{then-times-often, else-times-often}

pub loop-index-preserved : goal.loop-index-preserved
loop-index-preserved c =
    let pages = c.args.service.now.pages in
    let n = c.loop-index.index in
    let was = c.loop-index.invariant in
    let here : c.loop-index.index < length c.loop-index.places =
    omega (arith, c.loop-index.invariant.enough, c.pages-pages.ensures.count, c.loop-index-test.true) in
    elim c.if-times-often.branch [
      | then-times-often w ↦
          let page = page_at_index c.pages-pages.result.now c.args.service.now.pages c.loop-index.index c.times.result
          w.index-pages-index.result c.pages-pages.ensures.value (omega (arith, c.loop-index-test.true)) w.index-pages-index.is
          c.times.ensures.value in
          let authored = authored_at (page_of w.index-pages-index.result) c.times.result in
          record {
            enough = omega (arith, c.loop-index.invariant.enough, c.if-times-often.auto.places);
            small = rw w.places-is (λ at. small_set c.loop-index.places c.loop-index.index w.first_least-place.result at was.small
                (omega (arith, w.first_least-place.ensures.within, (period_range c.args.often c.requires.often).1)));
            spread = rw w.places-is (page_spread c.args.class c.loop-index.places c.args.service.now.pages c.loop-index.index c.args.often
                w.first_least-place.result w.burdens-burdens.result c.loop-index.packets
                (authored_at (page_of w.index-pages-index.result) c.times.result) here page
                w.if-times-often.true c.requires.often w.first_least-place.ensures (w.burdens-burdens.ensures.value _ page) was.counted was.spread);
            counted = rw (w.packets-is, w.places-is) (page_counted c.args.class c.loop-index.places c.args.service.now.pages c.loop-index.index
                c.args.often w.first_least-place.result w.block_length.result c.loop-index.packets w.add_packets.new.packets
                (authored_at (page_of w.index-pages-index.result) c.times.result) here page w.if-times-often.true
                w.block_length.ensures.length (w.add_packets.auto.packets ∙ was.counted.eight)
                (λ round lt. w.add_packets.ensures round (subst (λ k. round < k) (sym was.counted.eight) lt)) was.counted);
            room = λ round.
                let most = added_most c.loop-index.packets w.add_packets.new.packets _ w.first_least-place.result w.block_length.result round
                w.add_packets.auto.packets w.block_length.ensures.few w.add_packets.ensures in
                omega (arith, most, was.room round, ap (λ x. get_or x round 0) w.packets-is);
          }
      | else-times-often w ↦
          let listed = listed_page (slice_get pages n) c.times.result c.times.ensures.value in
          let passed = page_passed c.args.class c.loop-index.places c.args.service.now.pages c.loop-index.index c.args.often c.loop-index.packets
          listed.0 listed.1.0 (λ e. w.if-times-often.false (sym listed.1.1 ∙ e)) was.spread was.counted in
          record {
            enough = omega (arith, c.loop-index.invariant.enough, c.if-times-often.auto.places);
            small = rw w.places-is was.small;
            spread = rw w.places-is passed.0;
            counted = rw (w.packets-is, w.places-is) passed.1;
            room = λ round. omega (arith, was.room round, ap (λ x. get_or x round 0) w.packets-is);
          }
    ]

pub burdens-burdens-requires-clause-packets : goal.burdens-burdens-requires-clause-packets
burdens-burdens-requires-clause-packets c = (
  c.loop-index.invariant.counted.eight,
  λ round. omega (
    arith,
    c.loop-index.invariant.room round,
    c.requires.room round,
    c.pages-pages.ensures.ranges.count,
    c.pages-pages.ensures.count,
    c.loop-index-test.true,
  ),
)
