use Rattle.std.proofs.Common.{◌≡◌, ◌∙◌, ap, arith, get_or, rules, subst, sym}
use Rattle.std.proofs.lemmas.List.Sorted.{answers_always}
use Rattle.ttx_certificate.specs.EntryViews.{place_in}
use Rattle.ttx_certificate.specs.declared.entries.Entry.{Entry}
use Rattle.ttx_certificate.proofs.EntryOrder.{found, looked_up}
use Rattle.ttx_certificate.proofs.certificates.Certificate.starts_near.Goals as goal

pub returns-then-place-wanted : goal.returns-then-place-wanted
returns-then-place-wanted c =
    let own = c.args.self.now.entries.items in
    let entry = c.index-entries-near.result in
    let at : entry ≡ get_or own c.args.near entry =
    subst (λ es. entry ≡ get_or es c.args.near entry) c.as_slice-entries.ensures.value c.index-entries-near.is in
    let same = sym (ap place_in at) ∙ sym c.place.ensures ∙ c.if-place-wanted.true ∙ c.place-wanted.ensures.value in
    c.starts.ensures ∙ ap (λ (e : Entry). e.starts.items) at
    ∙ sym (found c.args.page c.args.item c.place-wanted.ensures.id c.place-wanted.ensures.item own c.args.self.now.rising c.args.near
    entry (let n = c.if-near-entries.true in let l = c.as_slice-entries.ensures.len in omega arith) same)

pub returns-in-Ok : goal.returns-in-Ok
returns-in-Ok c =
    let facts = c.binary_search_by_key.ensures in
    let by_key = facts.position place_in (answers_always _ _ _ (λ f a r g called. search rules)) in
    let here = looked_up c.args.page c.args.item c.place-wanted.ensures.id c.place-wanted.ensures.item c.place-wanted.result
    c.place-wanted.ensures.value c.args.self.now.entries.items c.as_slice-entries.result.now
    c.as_slice-entries.ensures.value c.args.self.now.rising _ facts.bound by_key in
    c.starts-in-Ok.ensures ∙ here.found c.in-Ok.index c.index-entries-index.result c.in-Ok.is c.index-entries-index.is

pub returns-in-Err : goal.returns-in-Err
returns-in-Err c =
    let facts = c.binary_search_by_key.ensures in
    let by_key = facts.position place_in (answers_always _ _ _ (λ f a r g called. search rules)) in
    let here = looked_up c.args.page c.args.item c.place-wanted.ensures.id c.place-wanted.ensures.item c.place-wanted.result
    c.place-wanted.ensures.value c.args.self.now.entries.items c.as_slice-entries.result.now
    c.as_slice-entries.ensures.value c.args.self.now.rising _ facts.bound by_key in
    here.absent c.in-Err.index c.in-Err.is
