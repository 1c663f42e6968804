use Rattle.std.proofs.Common.{◌+◌, ◌∙◌, sym, subst}
use Rattle.ttx_cycle.specs.Cycles.{slots_of}
use Rattle.ttx_page.specs.Streams.{repeated}
use Rattle.ttx_page.specs.Views.{page_of}
use Rattle.ttx_page.specs.declared.selection.Selection.TheVariants.{Exact}
use Rattle.ttx_subpages.specs.Intervals.{LongestBelow}
use Rattle.ttx_subpages.specs.Stays.{IsGreatestInterval}
use Rattle.ttx_subpages.proofs.LongestIntervals.{page_skips, page_more}
use Rattle.ttx_subpages.proofs.intervals.widened.Goals as goal

pub returns-then-not-has_number : goal.returns-then-not-has_number
returns-then-not-has_number c = λ pages n here.
    page_skips pages n c.args.mag c.args.number (repeated (slots_of c.args.cycle.now)) (page_of c.args.page.now) here c.args.most
    (sym c.has_number.ensures ∙ c.if-not-has_number.true)

pub returns : goal.returns
returns c = λ pages n here below.
    let s = repeated (slots_of c.args.cycle.now) in
    let q = page_of c.args.page.now in
    subst (LongestBelow s pages (n + 1) c.args.mag c.args.number) (sym c.longer.ensures)
    (page_more pages n c.args.mag c.args.number s q here (sym c.has_number.ensures ∙ c.if-not-has_number.false) c.greatest_interval.result
    (subst (λ id. IsGreatestInterval s (Exact id) c.greatest_interval.result) c.id.ensures c.greatest_interval.ensures) c.args.most below)
