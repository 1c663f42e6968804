use Rattle.std.proofs.Common.{◌≡◌, ◌≤◌, length, slice_get, sym, ap, ◌∙◌, subst, arith}
use Rattle.ttx_page.specs.declared.item.Item.TheVariants.{Head as TheHead}
use Rattle.ttx_witness.specs.Coverage.{limit}
use Rattle.ttx_certify.specs.walks.PageFacts.{late_of}
use Rattle.ttx_witness.specs.laws.JudgingLaws.{IsHeaderAnswer}
use Rattle.ttx_certify.specs.walks.Passing.{ended_certificate}
use Rattle.ttx_witness.specs.sent.ItemTransmissions.{sent_in}
use Rattle.ttx_certify.proofs.walk_lemmas.LateHeaders.{late_told, nowhere}
use Rattle.ttx_witness.proofs.FirstFaults.{placed}
use Rattle.ttx_certify.proofs.walks.page_results.EndedWalk.late_header.Goals as goal

pub returns-in_default : goal.returns-in_default
returns-in_default c = λ y p ended at header.
    let h = ended.facts c.args.index p at in
    absurd (nowhere (slice_get c.args.self.now.facts.items c.args.index) h.value
    (ap (λ l. slice_get l c.args.index) (sym c.as_slice.ensures.value) ∙ sym c.facts_at.ensures ∙ c.in_default.is) h.here)

pub returns : goal.returns
returns c = λ y p ended at header.
    let self = c.args.self.now in
    let w = ended_certificate self in
    let h = ended.facts c.args.index p at in
    let some : 1 ≤ length y = let s = ended.cycle.some in omega arith in
    let fact : c.in-Some.facts ≡ h.value = placed _ c.in-Some.facts h.value
    (ap (λ l. slice_get l c.args.index) (sym c.as_slice.ensures.value) ∙ sym c.facts_at.ensures ∙ c.in-Some.is) h.here in
    subst (IsHeaderAnswer y p w)
    (sym (c.late_of.ensures ∙ ap (λ l. late_of l self.period c.in-Some.facts.heads) c.limit.ensures
    ∙ ap (λ n. late_of (limit w) n c.in-Some.facts.heads) ended.period
    ∙ ap (λ f. late_of (limit w) (length y) f.heads) fact ∙ ap (late_of (limit w) (length y)) h.is.heads
    ∙ late_told (limit w) (length y) (sent_in y p.id w.lines TheHead)))
    (c.headers_are_judged.ensures y some p w header)
