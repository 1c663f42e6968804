use Rattle.std.proofs.Common.{◌<◌, ◌⊎◌, ◌≤◌, length, slice_set, refl, sym, subst, inl, inr, arith}
use Rattle.std.proofs.lemmas.Option.{slice_get_read}
use Rattle.ttx_page.specs.Views.{page_of}
use Rattle.ttx_witness.proofs.FirstFaults.{page_here}
use Rattle.ttx_certify.specs.declared.walks.page_facts.Facts.{Facts}
use Rattle.ttx_witness.specs.sent.OneSlot.{is_sent}
use Rattle.ttx_witness.specs.Elements.{HoldsAt}
use Rattle.ttx_certify.specs.walks.PageFacts.{Noted}
use Rattle.ttx_certify.proofs.walk_lemmas.ChangedFacts.{noted_here, noted_past}
use Rattle.ttx_certify.proofs.walks.page_facts.note_sent.Goals as goal

pub returns-then-at-pages-clause-noted : goal.returns-then-at-pages-clause-noted
returns-then-at-pages-clause-noted c = λ i p x at here.
    let s = c.in-Some.s in
    let all = c.args.all.now.items in
    let lt : s.page < length all = omega (arith, c.if-at-len.true, c.len.ensures) in
    subst (λ o. HoldsAt Facts (slice_set all s.page c.note_facts.new.facts) i
    (Noted c.args.limit p (λ item. is_sent i item o) c.args.slot.now.bytes.now c.args.slot.now.at x)) (sym c.in-Some.is)
    (noted_here c.args.limit c.args.pages.now s c.args.slot.now.bytes.now c.args.slot.now.at all
    (page_of c.index-pages-at.result) c.index_mut.result.now c.note_facts.new.facts
    (page_here c.args.pages.now s.page c.index-pages-at.result c.if-at-pages.true c.index-pages-at.is)
    (slice_get_read all _ s.page c.index_mut.result.now refl lt c.index_mut.ensures.value) lt c.note_facts.ensures i p x at here)

pub returns-else-at-len-clause-noted : goal.returns-else-at-len-clause-noted
returns-else-at-len-clause-noted c = λ i p x at here.
    subst (λ o. HoldsAt Facts c.args.all.now.items i
    (Noted c.args.limit p (λ item. is_sent i item o) c.args.slot.now.bytes.now c.args.slot.now.at x)) (sym c.in-Some.is)
    (noted_past c.args.limit c.args.pages.now c.in-Some.s c.args.slot.now.bytes.now c.args.slot.now.at c.args.all.now.items
    (elim c.else-at-len.either as (λ _. (length c.args.all.now.items ≤ c.in-Some.s.page) ⊎ (length c.args.pages.now ≤ c.in-Some.s.page))
    [ inl b ↦ inr b.1 | inr le ↦ inl (omega (arith, c.len.ensures)) ]) i p x at here)
