use Rattle.std.proofs.Common.{◌≡◌, ◌+◌, ◌∙◌, true, false, nat_le, map, sym, ap, subst, arith}
use Rattle.std.proofs.lemmas.Bool.{and_from, and_left, and_right, lt-leb, le-leb}
use Rattle.std.proofs.lemmas.List.{length-map}
use Rattle.std.proofs.lemmas.Option.{get_or_from_slice_get}
use Rattle.std.specs.List.{find}
use Rattle.ttx_cycle.specs.Cycles.{slots_of}
use Rattle.ttx_page.specs.Streams.{repeated}
use Rattle.ttx_page.specs.Views.{page_of}
use Rattle.ttx_page.specs.declared.selection.Selection.TheVariants.{AnySub}
use Rattle.ttx_certify.proofs.PageByPage.{page_at}
use Rattle.ttx_subpages.specs.Intervals.{IsIntervalOf}
use Rattle.ttx_subpages.specs.NumberReports.{IsStayOrNone, AreReportsBelow}
use Rattle.ttx_subpages.specs.Numbers.{has_number, is_id, is_first, count_of, leads}
use Rattle.ttx_subpages.proofs.FirstPages.{page_skips, page_more}
use Rattle.ttx_subpages.proofs.reports.note.Goals as goal

pub returns-then-not-is_first : goal.returns-then-not-is_first
returns-then-not-is_first c =
    let pages = map page_of c.args.pages.now in
    let page = page_of c.index-pages-index.result in
    let size = length-map c.args.pages.now page_of in
    let lt = c.requires in
    let at = get_or_from_slice_get pages c.args.index page page (page_at c.args.pages.now c.args.index c.index-pages-index.result lt c.index-pages-index.is) in
    let first : is_first pages page ≡ false =
    ap (λ id. is_id id (find (has_number id.mag id.page) pages)) (sym c.id-first.ensures) ∙ sym c.is_first.ensures ∙ c.if-not-is_first.true in
    page_skips (repeated (slots_of c.args.cycle.now)) pages c.args.index page (omega arith) c.args.reports.now.items
    (ap (leads pages) at ∙ and_left (is_first pages page) (nat_le 2 (count_of pages page.id.mag page.id.page)) first)

pub returns-then-count-lt2 : goal.returns-then-count-lt2
returns-then-count-lt2 c =
    let pages = map page_of c.args.pages.now in
    let page = page_of c.index-pages-index.result in
    let size = length-map c.args.pages.now page_of in
    let lt = c.requires in
    let at = get_or_from_slice_get pages c.args.index page page (page_at c.args.pages.now c.args.index c.index-pages-index.result lt c.index-pages-index.is) in
    let count : c.count_of-count.result ≡ count_of pages page.id.mag page.id.page =
    c.count_of-count.ensures ∙ ap (λ m. count_of pages m c.page.result) c.mag.ensures.value ∙ ap (count_of pages c.id-first.result.mag) c.page.ensures
    ∙ ap (λ id. count_of pages id.mag id.page) c.id-first.ensures in
    let few = c.if-count-lt2.true in
    page_skips (repeated (slots_of c.args.cycle.now)) pages c.args.index page (omega arith) c.args.reports.now.items
    (ap (leads pages) at
    ∙ and_right (is_first pages page) (nat_le 2 (count_of pages page.id.mag page.id.page)) (lt-leb 2 (count_of pages page.id.mag page.id.page) (omega arith)))

pub returns : goal.returns
returns c = λ below.
    let pages = map page_of c.args.pages.now in
    let s = repeated (slots_of c.args.cycle.now) in
    let page = page_of c.index-pages-index.result in
    let size = length-map c.args.pages.now page_of in
    let lt = c.requires in
    let at = get_or_from_slice_get pages c.args.index page page (page_at c.args.pages.now c.args.index c.index-pages-index.result lt c.index-pages-index.is) in
    let id = c.id-first.ensures in
    let first : is_first pages page ≡ true =
    ap (λ id. is_id id (find (has_number id.mag id.page) pages)) (sym id) ∙ sym c.is_first.ensures ∙ c.if-not-is_first.false in
    let told : c.count_of-count.result ≡ count_of pages c.id-first.result.mag c.id-first.result.page =
    c.count_of-count.ensures ∙ ap (λ m. count_of pages m c.page.result) c.mag.ensures.value ∙ ap (count_of pages c.id-first.result.mag) c.page.ensures in
    let count = told ∙ ap (λ id. count_of pages id.mag id.page) id in
    let several = c.if-count-lt2.false in
    let r = c.report.result in
    subst (AreReportsBelow s pages (c.args.index + 1)) (sym c.in_ok-keep.ensures)
    (page_more s pages c.args.index page (omega arith) c.args.reports.now.items r
    (ap (leads pages) at ∙ and_from (is_first pages page) (nat_le 2 (count_of pages page.id.mag page.id.page)) first
    (le-leb 2 (count_of pages page.id.mag page.id.page) (omega arith)))
    (c.report.ensures.id ∙ id ∙ ap (λ p. p.id) (sym at))
    (record {
      count = c.report.ensures.pages ∙ told ∙ ap (λ id. count_of pages id.mag id.page) (sym c.report.ensures.id);
      stay = subst (λ id. IsStayOrNone s (AnySub id.mag id.page) r.stay) (sym c.report.ensures.id) c.report.ensures.stay;
      interval = subst (λ id. IsIntervalOf s pages id.mag id.page r.interval) (sym c.report.ensures.id) c.report.ensures.interval;
    })
    below)
