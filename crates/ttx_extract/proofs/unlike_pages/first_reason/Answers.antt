use Rattle.std.proofs.Common.{◌≤◌, length, map, subst, arith}
use Rattle.std.proofs.lemmas.List.{length-map}
use Rattle.ttx_cycle.specs.Cycles.{slots_of}
use Rattle.ttx_page.specs.Streams.{repeated}
use Rattle.ttx_page.specs.Steady.{Steady}
use Rattle.ttx_page.specs.Views.{page_of}
use Rattle.ttx_witness.specs.faults.Faults.{IsPageFault}
use Rattle.ttx_extract.proofs.Lists.{one_more, all}
use Rattle.ttx_extract.proofs.Pages.{page_at, same_page}
use Rattle.ttx_extract.proofs.unlike_pages.first_reason.Goals as goal

pub returns-in-Some : goal.returns-in-Some
returns-in-Some c = λ lines sent others.
    let cycle = slots_of c.args.cycle.now in
    let pages = map page_of c.args.pages.now in
    let p = page_of c.index-pages-index.result in
    let at = page_at c.args.pages.now c.loop-index.index c.index-pages-index.result c.loop-index-test.true c.index-pages-index.is in
    let fault = c.fault_of.ensures pages lines sent at (c.first-other_subpage.ensures cycle pages c.loop-index.index p others at c.id.ensures) in
    record {
      page = p;
      here = at;
      page_is = c.id-in-Some.ensures;
      fault = subst (IsPageFault cycle pages p) c.in-Some.is fault;
      earlier = c.loop-index.invariant lines sent others;
    }

pub loop-index-preserved : goal.loop-index-preserved
loop-index-preserved c = λ lines sent others.
    let cycle = slots_of c.args.cycle.now in
    let pages = map page_of c.args.pages.now in
    let p = page_of c.index-pages-index.result in
    let at = page_at c.args.pages.now c.loop-index.index c.index-pages-index.result c.loop-index-test.true c.index-pages-index.is in
    let fault = c.fault_of.ensures pages lines sent at (c.first-other_subpage.ensures cycle pages c.loop-index.index p others at c.id.ensures) in
    let steady = subst (IsPageFault cycle pages p) c.in_default.is fault in
    one_more (Steady (repeated cycle) pages) pages c.loop-index.index (c.loop-index.invariant lines sent others)
    (λ q here. subst (Steady (repeated cycle) pages) (same_page p q at here) steady)

pub returns : goal.returns
returns c = λ lines sent others.
    let cycle = slots_of c.args.cycle.now in
    let pages = map page_of c.args.pages.now in
    let past : length pages ≤ c.loop-index.index = let l = length-map c.args.pages.now page_of in let t = c.loop-index-test.false in omega arith in
    all (Steady (repeated cycle) pages) pages c.loop-index.index past (c.loop-index.invariant lines sent others)
