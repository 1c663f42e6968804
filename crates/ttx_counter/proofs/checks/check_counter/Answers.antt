use Rattle.std.proofs.Common.{◌≡◌, ◌↔◌, true, map, Some}
use Rattle.std.specs.Prelude.{slice_get}
use Rattle.ttx_page.specs.Views.{page_of}
use Rattle.ttx_cycle.specs.Cycles.{slots_of}
use Rattle.ttx_counter.specs.Counters.{counter_run_of, IsCounterRun}
use Rattle.ttx_counter.specs.Checking.{IsInRange, IsRefuting}
use Rattle.ttx_counter.proofs.CheckIsExact.{whole, refuting, page_here, on_ok}
use Rattle.ttx_counter.proofs.checks.check_counter.Goals as goal
use Rattle.ttx_counter.proofs.checks.check_counter.Goals.{After-index-pages-index}

here : (c : After-index-pages-index) → slice_get (map page_of c.args.pages.now) c.args.counter.now.page ≡ Some (page_of c.index-pages-index.result)
here c = page_here c.args.pages.now c.args.counter.now.page c.index-pages-index.result c.if-index-pages.false c.index-pages-index.is

in_range : (c : After-index-pages-index) → IsInRange (slots_of c.args.cycle.now) (map page_of c.args.pages.now)
    (page_of c.index-pages-index.result) (counter_run_of c.args.counter.now)
in_range c = (c.is_in_range.ensures (page_of c.index-pages-index.result) (here c)).0 c.if-not-is_in_range.false

pub check_hits-requires-clause-all : goal.check_hits-requires-clause-all
check_hits-requires-clause-all c = (in_range c).each

pub check_hits-requires-clause-some : goal.check_hits-requires-clause-some
check_hits-requires-clause-some c = (in_range c).numbers.some_repeats

pub returns : goal.returns
returns c =
    let at = (goal.at.returns c).After-index-pages-index in
    let cycle = slots_of c.args.cycle.now in
    let pages = map page_of c.args.pages.now in
    let p = page_of c.index-pages-index.result in
    let k = counter_run_of c.args.counter.now in
    on_ok (λ b. (b ≡ true) ↔ IsRefuting cycle p k) (λ b. (b ≡ true) ↔ IsCounterRun cycle pages k) c.check_hits.result
    (λ b w. (
      (λ t. whole cycle pages p k (here at) (c.memories_keep_their_rules.ensures c.args.counter.now.former) (in_range at)
          (w.0 t)),
      (λ r. w.1 (refuting cycle pages p k (here at) r)),
    ))
    c.check_hits.ensures
