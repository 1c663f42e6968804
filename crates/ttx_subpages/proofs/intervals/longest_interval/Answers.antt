use Rattle.std.proofs.Common.{◌≤◌, length, map, arith}
use Rattle.std.proofs.lemmas.List.{length-map}
use Rattle.ttx_cycle.specs.Cycles.{slots_of}
use Rattle.ttx_page.specs.Streams.{repeated}
use Rattle.ttx_page.specs.Views.{page_of}
use Rattle.ttx_certify.proofs.PageByPage.{page_at}
use Rattle.ttx_subpages.proofs.LongestIntervals.{no_pages, interval_of_all}
use Rattle.ttx_subpages.proofs.intervals.longest_interval.Goals as goal

pub loop-index-preserved : goal.loop-index-preserved
loop-index-preserved c =
    let pages = map page_of c.args.pages.now in
    record {
      below = c.widened-most.ensures pages c.loop-index.index
          (page_at c.args.pages.now c.loop-index.index c.index-pages-index.result c.loop-index-test.true c.index-pages-index.is)
          c.loop-index.invariant.below;
    }

pub loop-index-init : goal.loop-index-init
loop-index-init c = record { below = no_pages (repeated (slots_of c.args.cycle.now)) (map page_of c.args.pages.now) c.args.mag c.args.number }

pub returns : goal.returns
returns c =
    let pages = map page_of c.args.pages.now in
    let size = length-map c.args.pages.now page_of in
    let past : length pages ≤ c.loop-index.index = let b = c.loop-index-test.false in omega arith in
    interval_of_all (repeated (slots_of c.args.cycle.now)) pages c.args.mag c.args.number c.loop-index.index past c.loop-index.most
    c.loop-index.invariant.below
