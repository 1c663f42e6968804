use Rattle.std.proofs.Common.{◌≡◌, ◌+◌, suc, ◌++◌, map, string_bytes, ap, sym, ◌∙◌, subst, arith, append_assoc}
use Rattle.std.specs.Prelude.{◌==◌, if◌then◌else◌}
use Rattle.ttx_page.specs.Views.{page_of}
use Rattle.ttx_source.specs.PromiseViews.{promise_view}
use Rattle.ttx_tallies.specs.Tallies.{times_in}
use Rattle.ttx_stays.specs.ShortNumbers.{key_of, counted_text, short_lines_to, short_text}
use Rattle.ttx_numbers.proofs.NumberedPages.{value_there}
use Rattle.ttx_stays.proofs.CountedNumbers.{still_counted, counted_is_short, counted_less}
use Rattle.ttx_stays.proofs.short_numbers.push_short_numbers.Goals as goal

pub loop-page-preserved : goal.loop-page-preserved
loop-page-preserved c =
    let i = c.loop-page.page-index in
    let all = c.args.pages.now in
    let pages = map page_of all in
    let stays = map promise_view c.args.stays.now in
    let page = c.page-item.result in
    let before = string_bytes c.args.text.now in
    let key = c.key_of.ensures in
    let here = value_there all i page c.loop-page-test.true c.page-item.is in
    let next : i + 1 ≡ suc i = omega arith in
    let count = c.take_count-count.ensures.count ∙ c.loop-page.invariant.counts c.key_of.result ∙ ap (still_counted all i) key in
    let line = ap (counted_text pages stays (page_of page)) count ∙ counted_is_short all stays i page in
    record {
      text = subst (λ n. string_bytes c.push_several.new.text ≡ before ++ short_lines_to pages stays n) (sym next)
          (c.in_ok-push_several.ensures ∙ ap (λ t. t ++ counted_text pages stays (page_of page) c.take_count-count.result) c.loop-page.invariant.text
          ∙ append_assoc before (short_lines_to pages stays i) _
          ∙ ap (λ t. before ++ (short_lines_to pages stays i ++ t)) (line ∙ ap (short_text pages stays i) (sym here)));
      counts = λ n. c.take_count-count.ensures.rest n ∙ ap (λ k. if k == n then 0 else times_in c.loop-page.counts n) key
          ∙ ap (λ t. if key_of (page_of page) == n then 0 else t) (c.loop-page.invariant.counts n)
          ∙ counted_less all i n page c.loop-page-test.true c.page-item.is;
    }
