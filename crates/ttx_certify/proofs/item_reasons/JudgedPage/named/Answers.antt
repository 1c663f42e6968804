use Rattle.std.proofs.Common.{◌≡◌, ◌<◌, pos, ◌+ℤ◌, length, slice_index_or, Some, sym, ap, ◌∙◌, subst, arith}
use Rattle.ttx_witness.specs.runs.Confirming.{late_after}
use Rattle.ttx_witness.specs.declared.faults.reason.Reason.TheVariants.{WitnessBad}
use Rattle.ttx_certify.specs.ItemReasons.{judged_page, judged_certificate, IsItemReason}
use Rattle.ttx_certify.proofs.OneItem.{late_reason, judged_so}
use Rattle.ttx_certify.proofs.item_reasons.JudgedPage.named.Goals as goal

pub returns-then-next-starts : goal.returns-then-next-starts
returns-then-next-starts c = λ y ready is.
    let p = judged_page c.args.self.now in let w = judged_certificate c.args.self.now in let item = c.args.item.now in
    let j = judged_so y p w item c.items_are_judged.ensures ready.some
    (c.certificates_keep_their_rules.ensures c.args.self.now.certificate.now).1 c.requires.needed
    (subst (λ ss. 0 < length ss) c.requires.starts c.requires.some) c.args.starts.now c.args.self.now.period c.args.progress
    c.requires.starts ready.period is in
    subst (λ id. IsItemReason y p w item (Some (WitnessBad id item (slice_index_or c.args.starts.now c.args.progress.next 0))))
    (sym c.id-page.ensures) (j.bad c.if-next-starts.true)

pub returns-then-next-starts-2 : goal.returns-then-next-starts-2
returns-then-next-starts-2 c = λ y ready is.
    let p = judged_page c.args.self.now in let w = judged_certificate c.args.self.now in let item = c.args.item.now in
    let j = judged_so y p w item c.items_are_judged.ensures ready.some
    (c.certificates_keep_their_rules.ensures c.args.self.now.certificate.now).1 c.requires.needed
    (subst (λ ss. 0 < length ss) c.requires.starts c.requires.some) c.args.starts.now c.args.self.now.period c.args.progress
    c.requires.starts ready.period is in
    let n = j.next in absurd (omega (arith, c.if-next-starts-2.true))

pub returns-in-Some : goal.returns-in-Some
returns-in-Some c = λ y ready is.
    let p = judged_page c.args.self.now in let w = judged_certificate c.args.self.now in let item = c.args.item.now in
    let j = judged_so y p w item c.items_are_judged.ensures ready.some
    (c.certificates_keep_their_rules.ensures c.args.self.now.certificate.now).1 c.requires.needed
    (subst (λ ss. 0 < length ss) c.requires.starts c.requires.some) c.args.starts.now c.args.self.now.period c.args.progress
    c.requires.starts ready.period is in
    let all : c.args.progress.next ≡ length c.args.starts.now = let f = c.if-next-starts.false in let g = c.if-next-starts-2.false in omega arith in
    let q = sym (c.late_at_end.ensures ∙ ap
    (λ l. late_after l c.args.starts.now c.args.progress (c.args.progress.first_end +ℤ pos c.args.self.now.period))
    c.limit.ensures) ∙ c.in-Some.is in
    subst (λ id. IsItemReason y p w item (late_reason id item (Some c.in-Some.start))) (sym c.id-page.ensures)
    (subst (λ o. IsItemReason y p w item (late_reason p.id item o)) q (j.late all))

pub returns-in-None : goal.returns-in-None
returns-in-None c = λ y ready is.
    let p = judged_page c.args.self.now in let w = judged_certificate c.args.self.now in let item = c.args.item.now in
    let j = judged_so y p w item c.items_are_judged.ensures ready.some
    (c.certificates_keep_their_rules.ensures c.args.self.now.certificate.now).1 c.requires.needed
    (subst (λ ss. 0 < length ss) c.requires.starts c.requires.some) c.args.starts.now c.args.self.now.period c.args.progress
    c.requires.starts ready.period is in
    let all : c.args.progress.next ≡ length c.args.starts.now = let f = c.if-next-starts.false in let g = c.if-next-starts-2.false in omega arith in
    let q = sym (c.late_at_end.ensures ∙ ap
    (λ l. late_after l c.args.starts.now c.args.progress (c.args.progress.first_end +ℤ pos c.args.self.now.period))
    c.limit.ensures) ∙ c.in-None.is in
    subst (λ o. IsItemReason y p w item (late_reason p.id item o)) q (j.late all)
