use Rattle.std.proofs.Common.{◌≡◌, ◌+◌, ◌-◌, ◌<◌, [], ◌&&◌, eqb, get_or, set, take, rules, refl, ap, sym, subst, ◌∙◌, arith}
use Rattle.ttx_page.specs.Views.{page_of}
use Rattle.ttx_source.specs.Services.{authored_at}
use Rattle.ttx_plan.specs.Blocks.{at_place, placed, with_fillers}
use Rattle.ttx_plan.specs.Carries.{block_at, blocks_of}
use Rattle.ttx_plan.specs.Seen.{fillers_in}
use Rattle.ttx_plan.proofs.PassedBlocks.{KeepsLatest, count_then, keeps_then, list_else}
use Rattle.ttx_plan.proofs.PlacedBlocks.{round_starts}
use Rattle.ttx_plan.proofs.SubpageLists.{as_number}
use Rattle.ttx_plan.proofs.ServicePages.{page_at_index, placed_blocks_next}
use Rattle.ttx_plan.proofs.bounds.count_fillers.Goals as goal
use Rattle.ttx_plan.proofs.bounds.count_fillers.Goals.{then-round-times, else-round-times}

pub loop-index-preserved : goal.loop-index-preserved
loop-index-preserved c =
    let class = c.args.receivers.class in
    let late = c.args.receivers.late in
    let all = placed c.args.places.now (blocks_of c.args.receivers.class c.args.service.now.pages) in
    let some = placed c.args.places.now (blocks_of c.args.receivers.class (take c.loop-index.index c.args.service.now.pages)) in
    let round = c.loop-round.round in
    let latest = c.loop-index.fillers.latest in
    let page = page_at_index c.pages-pages.result.now c.args.service.now.pages c.loop-index.index c.times.result
    c.index-pages-index.result c.pages-pages.ensures.value (omega arith) c.index-pages-index.is c.times.ensures.value in
    let authored = authored_at (page_of c.index-pages-index.result) c.times.result in
    let block = at_place (get_or c.args.places.now c.loop-index.index 0) (block_at c.args.receivers.class authored) in
    let more = placed_blocks_next c.args.places.now c.args.receivers.class c.args.service.now.pages c.loop-index.index authored page in
    elim c.if-round-times.branch [
      | then-round-times w ↦
          let mag = w.from.ensures ∙ w.mag.ensures.value ∙ ap (λ x. x.mag) c.id-id.ensures in
          let queue : w.from.result - 1 ≡ block.queue = ap (λ n. n - 1) mag in
          let number : w.page.result ≡ block.page = w.page.ensures ∙ ap (λ x. x.page) c.id-id.ensures in
          let below : block.queue < 8 = omega (arith, w.mag.ensures.ranges.mag_from, w.mag.ensures.ranges.mag_to, ap (λ x. x.mag) c.id-id.ensures) in
          let filler = w.pass.ensures.filler ∙ ap (λ b. b && eqb (get_or latest (w.from.result - 1) 0) w.page.result) c.loop-index.invariant.late
          ∙ ap (λ n. late && eqb (get_or latest n 0) w.page.result) queue ∙ ap (λ n. late && eqb (get_or latest block.queue 0) n) number in
          let passed = ap (λ x. x.latest) w.fillers-is ∙ ap (λ x. x.latest) w.pass.ensures.passed
          ∙ ap (λ n. set latest n w.page.result) queue ∙ ap (λ n. set latest block.queue n) number in
          record {
            count = w.count-is
                ∙ ap (λ n. c.loop-index.count + n) (as_number w.from-count.result w.pass.result w.pass.result w.from-count.ensures refl)
                ∙ count_then c.args.receivers.late all some _ round block w.pass.result latest c.loop-index.count more below
                (w.if-round-times.true ∙ c.place_at.ensures) c.loop-index.invariant.latest filler c.loop-index.invariant.count;
            late = ap (λ x. x.late) w.fillers-is ∙ ap (λ x. x.late) w.pass.ensures.passed ∙ c.loop-index.invariant.late;
            latest = rw passed
                (keeps_then all some _ round block latest more below (w.if-round-times.true ∙ c.place_at.ensures) c.loop-index.invariant.latest);
            few = search rules;
          }
      | else-round-times w ↦
          let same = list_else all some _ round block more (λ e. w.if-round-times.false (e ∙ sym c.place_at.ensures)) in
          record {
            count = w.count-is ∙ c.loop-index.invariant.count ∙ ap (λ x. fillers_in (with_fillers c.args.receivers.late [] x)) same;
            late = ap (λ x. x.late) w.fillers-is ∙ c.loop-index.invariant.late;
            latest = rw w.fillers-is (subst (KeepsLatest latest) same c.loop-index.invariant.latest);
            few = omega (arith, w.count-is, c.loop-index.invariant.few);
          }
    ]

pub loop-index-init : goal.loop-index-init
loop-index-init c =
    let all = placed c.args.places.now (blocks_of c.args.receivers.class c.args.service.now.pages) in
    let none = round_starts c.args.places.now all c.loop-round.round in
    record {
      count = c.loop-round.invariant.count ∙ ap (λ x. fillers_in (with_fillers c.args.receivers.late [] x)) none;
      late = c.loop-round.invariant.late;
      latest = subst (KeepsLatest c.loop-round.fillers.latest) none c.loop-round.invariant.latest;
      few = omega (arith, c.loop-round.invariant.few);
    }
