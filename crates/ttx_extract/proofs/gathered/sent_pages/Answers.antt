use Rattle.std.proofs.Common.{◌<◌, length, map, sym, ap, ◌∙◌, arith}
use Rattle.std.proofs.lemmas.List.{get_or-map, length-map}
use Rattle.ttx_cycle.specs.Cycles.{slots_of}
use Rattle.ttx_page.specs.Views.{page_of, ids_of}
use Rattle.ttx_extract.specs.Drafts.{authored_of, said_page}
use Rattle.ttx_extract.proofs.Pages.{page_at}
use Rattle.ttx_extract.proofs.Stripped.{pushed}
use Rattle.ttx_extract.proofs.gathered.sent_pages.Goals as goal

pub loop-index-preserved : goal.loop-index-preserved
loop-index-preserved c = λ lines sent.
    let slots = slots_of c.args.cycle.now in
    let named = c.args.named.now in
    let i = c.loop-index.index in
    let lt : i < length named = c.loop-index-test.true in
    let p = c.index-named-index.result in
    let here = page_at named i p lt c.index-named-index.is in
    let said = c.sent_page.ensures (map page_of named) lines (page_of p) sent here (sym c.id.ensures) in
    let id = c.id.ensures ∙ ap (λ q. (page_of q).id) c.index-named-index.is ∙ sym (get_or-map (λ q. (page_of q).id) named i _ c.id.result lt) in
    let within : i < length (ids_of named) = let l = length-map named (λ q. (page_of q).id) in omega arith in
    pushed (said_page slots lines c.args.serial) authored_of (ids_of named) i c.id.result c.loop-index.pages.items _ c.sent_page.result within
    (c.loop-index.invariant lines sent) (said ∙ ap (said_page slots lines c.args.serial) id) c.in_ok-push.ensures.items
