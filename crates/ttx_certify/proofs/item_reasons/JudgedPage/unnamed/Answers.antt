use Rattle.std.proofs.Common.{Some, sym, subst}
use Rattle.ttx_witness.specs.declared.faults.reason.Reason.TheVariants.{NoWitness}
use Rattle.ttx_certify.specs.ItemReasons.{judged_page, judged_certificate, IsItemReason}
use Rattle.ttx_certify.proofs.OneItem.{blank_reason, unnamed_first, blank_first}
use Rattle.ttx_certify.proofs.item_reasons.JudgedPage.unnamed.Goals as goal

pub returns-then-not-is_cleared : goal.returns-then-not-is_cleared
returns-then-not-is_cleared c = λ y ready.
    let p = judged_page c.args.self.now in let w = judged_certificate c.args.self.now in let item = c.args.item.now in
    let tested = c.blank_is_tested.ensures p item (c.pages_keep_their_rules.ensures c.args.self.now.page.now)
    (c.pages_have_six_links.ensures c.args.self.now.page.now) c.requires.needed in
    subst (λ id. IsItemReason y p w item (Some (NoWitness id item))) (sym c.id-page.ensures)
    (unnamed_first y p w item c.requires.needed c.requires.none
    (λ clearing blank. let yes = c.is_cleared.ensures.1 (clearing, tested.1 blank) in let no_way = c.if-not-is_cleared.true
    in cc))

pub returns-in-Some : goal.returns-in-Some
returns-in-Some c = λ y ready.
    let p = judged_page c.args.self.now in let w = judged_certificate c.args.self.now in let item = c.args.item.now in
    let tested = c.blank_is_tested.ensures p item (c.pages_keep_their_rules.ensures c.args.self.now.page.now)
    (c.pages_have_six_links.ensures c.args.self.now.page.now) c.requires.needed in
    let both = c.is_cleared.ensures.0 c.if-not-is_cleared.false in
    subst (λ id. IsItemReason y p w item (blank_reason id item (Some c.in-Some.header))) (sym c.id-page.ensures)
    (subst (λ late. IsItemReason y p w item (blank_reason p.id item late)) c.in-Some.is
    (blank_first y p w item c.requires.needed c.requires.none both.0 (tested.0 both.1) c.args.self.now.late_header (ready.late_header both.0)))

pub returns-in-None : goal.returns-in-None
returns-in-None c = λ y ready.
    let p = judged_page c.args.self.now in let w = judged_certificate c.args.self.now in let item = c.args.item.now in
    let tested = c.blank_is_tested.ensures p item (c.pages_keep_their_rules.ensures c.args.self.now.page.now)
    (c.pages_have_six_links.ensures c.args.self.now.page.now) c.requires.needed in
    let both = c.is_cleared.ensures.0 c.if-not-is_cleared.false in
    subst (λ late. IsItemReason y p w item (blank_reason p.id item late)) c.in-None.is
    (blank_first y p w item c.requires.needed c.requires.none both.0 (tested.0 both.1) c.args.self.now.late_header (ready.late_header both.0))
