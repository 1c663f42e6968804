use Rattle.std.proofs.Common.{◌≡◌, length, map, arith}
use Rattle.std.proofs.lemmas.List.{length-map}
use Rattle.ttx_cycle.specs.Cycles.{slots_of}
use Rattle.ttx_page.specs.Streams.{repeated}
use Rattle.ttx_page.specs.Views.{page_of}
use Rattle.ttx_subpages.proofs.FirstPages.{all_pages}
use Rattle.ttx_subpages.proofs.reports.number_reports.Goals as goal

pub returns : goal.returns
returns c =
    let pages = map page_of c.args.pages.now in
    let size = length-map c.args.pages.now page_of in
    let end : c.loop-index.index ≡ length pages = let a = c.loop-index.auto.index-end in let b = c.loop-index-test.false in omega arith in
    all_pages (repeated (slots_of c.args.cycle.now)) pages c.loop-index.index end c.loop-index.reports.items c.loop-index.invariant.below
