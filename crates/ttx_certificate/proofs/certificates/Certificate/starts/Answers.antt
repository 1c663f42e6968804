use Rattle.std.proofs.Common.{◌∙◌, rules}
use Rattle.std.proofs.lemmas.List.Sorted.{answers_always}
use Rattle.ttx_certificate.specs.EntryViews.{place_in}
use Rattle.ttx_certificate.proofs.EntryOrder.{looked_up}
use Rattle.ttx_certificate.proofs.certificates.Certificate.starts.Goals as goal

pub returns-in-Ok : goal.returns-in-Ok
returns-in-Ok c =
    let facts = c.binary_search_by_key.ensures in
    let by_key = facts.position place_in (answers_always _ _ _ (λ f a r g called. search rules)) in
    let here = looked_up c.args.page c.args.item c.place-place.ensures.id c.place-place.ensures.item c.place-place.result
    c.place-place.ensures.value c.args.self.now.entries.items c.as_slice-entries.result.now
    c.as_slice-entries.ensures.value c.args.self.now.rising _ facts.bound by_key in
    c.starts.ensures ∙ here.found c.in-Ok.index c.index-entries-index.result c.in-Ok.is c.index-entries-index.is

pub returns-in-Err : goal.returns-in-Err
returns-in-Err c =
    let facts = c.binary_search_by_key.ensures in
    let by_key = facts.position place_in (answers_always _ _ _ (λ f a r g called. search rules)) in
    let here = looked_up c.args.page c.args.item c.place-place.ensures.id c.place-place.ensures.item c.place-place.result
    c.place-place.ensures.value c.args.self.now.entries.items c.as_slice-entries.result.now
    c.as_slice-entries.ensures.value c.args.self.now.rising _ facts.bound by_key in
    here.absent c.in-Err.field-0 c.in-Err.is
