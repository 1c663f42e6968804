use Rattle.std.proofs.Common.{◌≡◌, ◌<◌, ◌≤◌, length, map, slice_get, Some, sym, refl, ap, ◌∙◌, arith}
use Rattle.std.specs.Option.{option_map}
use Rattle.std.proofs.lemmas.Bool.{false≢true}
use Rattle.std.proofs.lemmas.List.{length-map}
use Rattle.std.proofs.lemmas.Option.{slice_get-map}
use Rattle.ttx_source.specs.Services.{authored_at}
use Rattle.ttx_page.specs.Views.{page_of}
use Rattle.ttx_extract.specs.Drafts.{authored_of}
use Rattle.ttx_extract.proofs.SameLists.{one_same, all_same, authored_here, same_value, some_at}
use Rattle.ttx_extract.proofs.drafts.same_pages.Goals as goal

pub returns-then-not-is_sent_page : goal.returns-then-not-is_sent_page
returns-then-not-is_sent_page c =
    let i = c.loop-index.index in
    let pages = c.args.pages.now in
    let own = c.index-pages-index.result in
    let other = c.index-others-index.result in
    let sizes = c.if-pages-others.false in
    let lt : i < length pages = let t = c.loop-index-test.true in omega arith in
    let here = slice_get-map authored_of pages i ∙ ap (option_map authored_of) (some_at pages i own lt c.index-pages-index.is) in
    let there = authored_here c.args.service.now.pages c.pages-others.result.now i other c.often.result c.loop-index-test.true
    c.pages-others.ensures.value c.index-others-index.is c.often.ensures in (
      λ t. absurd (false≢true t),
      λ e. c.if-not-is_sent_page.ensures.1
          (same_value (authored_of own) (authored_at (page_of other) c.often.result) (sym here ∙ ap (λ xs. slice_get xs i) e ∙ there)),
    )

pub loop-index-preserved : goal.loop-index-preserved
loop-index-preserved c =
    let i = c.loop-index.index in
    let pages = c.args.pages.now in
    let own = c.index-pages-index.result in
    let other = c.index-others-index.result in
    let sizes = c.if-pages-others.false in
    let lt : i < length pages = let t = c.loop-index-test.true in omega arith in
    let here = slice_get-map authored_of pages i ∙ ap (option_map authored_of) (some_at pages i own lt c.index-pages-index.is) in
    let there = authored_here c.args.service.now.pages c.pages-others.result.now i other c.often.result c.loop-index-test.true
    c.pages-others.ensures.value c.index-others-index.is c.often.ensures in
    one_same (map authored_of pages) c.args.service.now.pages i c.loop-index.invariant
    (here ∙ ap (λ x. Some x) (c.if-not-is_sent_page.ensures.0 refl) ∙ sym there)

pub returns : goal.returns
returns c =
    let pages = c.args.pages.now in
    let service = c.args.service.now in
    let sizes = c.if-pages-others.false in
    let count = c.pages-others.ensures.count in
    let l = length-map pages authored_of in
    let past : length (map authored_of pages) ≤ c.loop-index.index = let t = c.loop-index-test.false in omega arith in
    let size : length (map authored_of pages) ≡ length service.pages = omega arith in
    (λ t. all_same (map authored_of pages) service.pages c.loop-index.index past size c.loop-index.invariant, λ e. refl)
