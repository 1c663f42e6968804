use Rattle.std.proofs.Common.{rules, ◌≡◌, None, slice_get, get_or, sym, ap, ◌∙◌, subst}
use Rattle.ttx_page.specs.Views.{page_of}
use Rattle.ttx_witness.specs.faults.OtherSubpages.{place}
use Rattle.ttx_witness.specs.faults.Faults.{AreFirst}
use Rattle.ttx_witness.proofs.SentItems.{ids_are, id_of_page}
use Rattle.ttx_certify.proofs.walk_lemmas.LateHeaders.{nowhere}
use Rattle.ttx_witness.proofs.FirstFaults.{placed, page_here}
use Rattle.ttx_certify.specs.walks.Passing.{ended_pages}
use Rattle.ttx_certify.proofs.walk_lemmas.FactsOfStream.{facts_first}
use Rattle.ttx_certify.proofs.walks.page_results.EndedWalk.page_fault.Goals as goal

pub returns-in_default : goal.returns-in_default
returns-in_default c = λ y p kept at.
    let h = kept.facts c.args.index p at in
    let e : c.as_slice.result.now ≡ c.args.self.now.facts.items = search rules in
    absurd (nowhere (slice_get c.args.self.now.facts.items c.args.index) h.value
    (ap (λ l. slice_get l c.args.index) (sym e) ∙ sym c.facts_at.ensures ∙ c.in_default.is) h.here)

pub returns : goal.returns
returns c = λ y p kept at.
    let self = c.args.self.now in
    let h = kept.facts c.args.index p at in
    let q = c.index-self-index.result in
    let here = page_here self.pages.now c.args.index q c.requires c.index-self-index.is in
    let same : page_of q ≡ p = placed _ (page_of q) p here at in
    let id : c.id-page.result ≡ p.id = c.id-page.ensures ∙ ap (λ x. x.id) (sym c.index-self-index.is) ∙ ap (λ x. x.id) same in
    let e : c.as_slice.result.now ≡ self.facts.items = search rules in
    let fact : c.in-Some.facts ≡ h.value = placed _ c.in-Some.facts h.value
    (ap (λ l. slice_get l c.args.index) (sym e) ∙ sym c.facts_at.ensures ∙ c.in-Some.is) h.here in
    let at_id = id_of_page self.pages.now c.args.index p at in
    let first = facts_first self y kept c.args.index p at
    (ids_are c.pages_keep_their_rules.ensures self.pages.now c.args.index p.id at_id) h.value h.is in
    c.least_fault.ensures y (ended_pages self) p id
    (subst (AreFirst y (ended_pages self) p)
    (sym (c.with_other_subpage-first.ensures ∙ ap (λ f. record f.first { other_subpage = c.first_other_header_of-other_subpage.result }) fact
    ∙ ap (λ o. record h.value.first { other_subpage = o })
    (c.first_other_header_of-other_subpage.ensures ∙ ap (λ i. get_or self.others.first.items (place i.mag i.page) None) id)))
    first)
