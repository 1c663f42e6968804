use Rattle.std.proofs.Common.{◌++◌, ◌∷◌, [], map, take, sym, ap, ◌∙◌, arith}
use Rattle.ttx_page.specs.Views.{page_of}
use Rattle.ttx_source.specs.Services.{authored_at}
use Rattle.ttx_check.specs.Entries.{queue_entry}
use Rattle.ttx_check.proofs.Listed.{get_there, page_at_index, entries_next}
use Rattle.ttx_check.proofs.entries.entries.Goals as goal

pub loop-index-preserved : goal.loop-index-preserved
loop-index-preserved c =
    let value = get_there c.pages-pages.result.now c.loop-index.index c.index-pages-index.result c.index-pages-index.result
    (omega arith) c.index-pages-index.is in
    let page = page_at_index c.pages-pages.result.now c.args.service.now.pages c.loop-index.index c.often-often.result
    c.index-pages-index.result c.pages-pages.ensures.value value c.often-often.ensures in
    c.in_ok-push.ensures.items
    ∙ ap (λ x. x ++ c.entry_for.result ∷ []) c.loop-index.invariant
    ∙ ap (λ e. map queue_entry (take c.loop-index.index c.args.service.now.pages) ++ e ∷ []) c.entry_for.ensures
    ∙ sym (entries_next c.args.service.now.pages c.loop-index.index (authored_at (page_of c.index-pages-index.result) c.often-often.result) page)
