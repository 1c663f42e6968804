use Rattle.std.proofs.Common.{◌++◌, ◌∷◌, [], map, take, sym, ap, ◌∙◌, arith}
use Rattle.std.proofs.lemmas.List.{map-append}
use Rattle.ttx_page.specs.Views.{page_of}
use Rattle.ttx_source.specs.Services.{authored_at}
use Rattle.ttx_plan.specs.Blocks.{at_place, placed}
use Rattle.ttx_plan.specs.Carries.{blocks_of}
use Rattle.ttx_plan.specs.Contents.{block_of}
use Rattle.ttx_plan.specs.Seen.{seen}
use Rattle.ttx_plan.proofs.PlacedBlocks.{placed_none}
use Rattle.ttx_plan.proofs.ServicePages.{page_at_index, each_often, placed_blocks_next}
use Rattle.ttx_plan.proofs.service_plan.blocks_of.Goals as goal

pub new-requires : goal.new-requires
new-requires c =
    let page = page_at_index c.pages-pages.result.now c.args.service.now.pages c.loop-index.index c.often-often.result
    c.index-pages-index.result c.pages-pages.ensures.value (omega arith) c.index-pages-index.is c.often-often.ensures in
    each_often c.args.service.now.serial c.args.service.now.pages c.pages-pages.ensures.ranges.pages c.loop-index.index
    (authored_at (page_of c.index-pages-index.result) c.often-often.result) page

pub loop-index-preserved : goal.loop-index-preserved
loop-index-preserved c =
    let page = page_at_index c.pages-pages.result.now c.args.service.now.pages c.loop-index.index c.often-often.result
    c.index-pages-index.result c.pages-pages.ensures.value (omega arith) c.index-pages-index.is c.often-often.ensures in
    ap (map seen) c.in_ok-push.ensures.items
    ∙ map-append seen c.loop-index.blocks.items (c.in_ok-new.field-0 ∷ [])
    ∙ ap (λ x. x ++ seen c.in_ok-new.field-0 ∷ []) c.loop-index.invariant
    ∙ ap (λ x. placed c.args.places.now (blocks_of c.args.class (take c.loop-index.index c.args.service.now.pages)) ++ x ∷ [])
    (c.in_ok-new.ensures ∙ ap (λ n. at_place n (block_of c.args.class (page_of c.index-pages-index.result) c.often-often.result)) c.place_at.ensures)
    ∙ sym (placed_blocks_next c.args.places.now c.args.class c.args.service.now.pages c.loop-index.index
    (authored_at (page_of c.index-pages-index.result) c.often-often.result) page)

pub loop-index-init : goal.loop-index-init
loop-index-init c = ap (map seen) c.new-blocks.ensures.items ∙ placed_none c.args.places.now
