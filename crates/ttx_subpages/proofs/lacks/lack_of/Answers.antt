use Rattle.std.proofs.Common.{◌≡◌, ◌∙◌, MatchOption, map, pos, refl, ap, subst, arith}
use Rattle.std.proofs.lemmas.List.{length-map}
use Rattle.std.proofs.lemmas.Option.{slice_get_within}
use Rattle.ttx_cycle.specs.Cycles.{slots_of}
use Rattle.ttx_page.specs.Streams.{repeated}
use Rattle.ttx_page.specs.Views.{page_of}
use Rattle.ttx_subpages.specs.Lacks.{IsFirstMissing}
use Rattle.ttx_subpages.specs.Numbers.{count_of}
use Rattle.ttx_subpages.specs.WholeBlocks.{IsWhole}
use Rattle.ttx_subpages.proofs.HeadersOfNumbers.{few_pages, whole_block, listed_ids}
use Rattle.ttx_subpages.proofs.lacks.lack_of.Goals as goal

pub returns-then-count_of-lt2 : goal.returns-then-count_of-lt2
returns-then-count_of-lt2 c =
    let v = c.args.sendings.now in
    let pages = map page_of v.pages.now in
    let told : c.count_of.result ≡ count_of pages c.args.page.mag c.args.page.page = c.count_of.ensures
    ∙ ap (λ m. count_of pages m c.page.result) c.mag.ensures.value ∙ ap (count_of pages c.args.page.mag) c.page.ensures in
    few_pages (repeated (slots_of v.cycle.now)) pages v.lines (pos c.args.slot) c.args.page c.requires.header
    (let lt = c.if-count_of-lt2.true in omega arith)

pub missing_item-requires-clause-index : goal.missing_item-requires-clause-index
missing_item-requires-clause-index c =
    let pages = map page_of c.args.sendings.now.pages.now in
    let size = length-map c.args.sendings.now.pages.now page_of in
    let lt = slice_get_within pages c.in-Some.index c.in-Some.ensures.0 c.in-Some.ensures.1 in
    omega arith

pub returns-in-Some-missing_item : goal.returns-in-Some-missing_item
returns-in-Some-missing_item c =
    let v = c.args.sendings.now in
    let s = repeated (slots_of v.cycle.now) in
    let p = c.in-Some.ensures.0 in
    let listed = c.in-Some.ensures.1 in
    let pages = map page_of v.pages.now in
    let told : c.count_of.result ≡ count_of pages c.args.page.mag c.args.page.page = c.count_of.ensures
    ∙ ap (λ m. count_of pages m c.page.result) c.mag.ensures.value ∙ ap (count_of pages c.args.page.mag) c.page.ensures in (
      refl,
      record {
        index = c.in-Some.index;
        page = p;
        listed = listed;
        id_is = c.in-Some.ensures.2;
        several = (let ge = c.if-count_of-lt2.false in let same = told in omega arith);
        inside = c.requires.at;
        header = c.requires.header;
        missing = subst (λ o. MatchOption o (IsWhole s p v.lines (pos c.args.slot)) (IsFirstMissing s p v.lines (pos c.args.slot)))
            c.in-Some-missing_item.is (c.missing_item.ensures p listed);
      },
    )

pub returns-in-None-missing_item : goal.returns-in-None-missing_item
returns-in-None-missing_item c =
    let v = c.args.sendings.now in
    let s = repeated (slots_of v.cycle.now) in
    let pages = map page_of v.pages.now in
    let p = c.in-Some.ensures.0 in
    let listed = c.in-Some.ensures.1 in
    whole_block s pages v.lines (pos c.args.slot) c.args.page c.requires.header (listed_ids v.pages.now v.distinct) c.in-Some.index p listed
    c.in-Some.ensures.2
    (subst (λ o. MatchOption o (IsWhole s p v.lines (pos c.args.slot)) (IsFirstMissing s p v.lines (pos c.args.slot)))
    c.in-None-missing_item.is (c.missing_item.ensures p listed))
