use Rattle.std.proofs.Common.{◌≡◌, ◌+◌, ◌*◌, sym, ◌∙◌, subst, arith}
use Rattle.ttx_witness.specs.sent.Collected.{place_of_item}
use Rattle.ttx_witness.specs.search.Surveys.{survey_slots, survey_pages, surveyed_page, AreNamedIn}
use Rattle.ttx_witness.proofs.lemmas.search.DueItems.{nothing_named, one_named, pages_apart}
use Rattle.ttx_witness.proofs.search.start_names.name_page.Goals as goal
use Rattle.ttx_witness.proofs.search.start_names.name_page.Goals.{then-needed+in_ok-limit, else-needed}

pub loop-number-preserved : goal.loop-number-preserved
loop-number-preserved c = record {
  named = λ before.
      let s = c.args.surveyed.now in
      let v = s.survey.now in
      let item = c.item_of-item.result in
      let m = 26 * s.index + c.loop-number.number in
      let here : place_of_item s.index item ≡ m = let e = c.item_of-item.ensures.number in omega arith in
      let a = c.loop-number.invariant.named before in
      let next : m + 1 ≡ 26 * s.index + (c.loop-number.number + 1) = omega arith in
      subst (λ n. AreNamedIn v n c.if-needed.entries.items c.if-needed.least) next
      (elim c.if-needed.branch as (λ _. AreNamedIn v (m + 1) c.if-needed.entries.items c.if-needed.least) [
        | then-needed+in_ok-limit w ↦
            let old = c.loop-number.entries.items in
            let new = w.name_seen.new.entries.items in
            subst (λ es. AreNamedIn v (m + 1) es.items c.if-needed.least) (sym w.entries-is)
            (subst (λ l. AreNamedIn v (m + 1) new l) (sym (w.least-is ∙ w.wider-least.ensures))
            (one_named (survey_pages v) v.class m s.index (surveyed_page s) item s.at c.item_of-item.ensures.item here
            (survey_slots v) v.lines v.repeat
            (pages_apart v.pages.now v.distinct) old new c.loop-number.least w.in_ok-limit.limit
            (sym c.needed.ensures ∙ w.if-needed.true) w.in_ok-limit.ensures.entries w.in_ok-limit.ensures.least a))
        | else-needed w ↦
            subst (λ es. AreNamedIn v (m + 1) es.items c.if-needed.least) (sym w.entries-is)
            (subst (λ l. AreNamedIn v (m + 1) c.loop-number.entries.items l) (sym w.least-is)
            (nothing_named (survey_pages v) v.class m s.index (surveyed_page s) item s.at c.item_of-item.ensures.item here
            (survey_slots v) v.lines v.repeat c.loop-number.entries.items c.loop-number.least
            (sym c.needed.ensures ∙ w.if-needed.false) a))
      ]);
}

pub returns : goal.returns
returns c = λ before.
    let s = c.args.surveyed.now in
    let next : 26 * s.index + c.loop-number.number ≡ 26 * (s.index + 1) = let t = c.loop-number-test.false in let e = c.loop-number.auto
    in omega arith in
    subst (λ n. AreNamedIn s.survey.now n c.loop-number.entries.items c.loop-number.least) next (c.loop-number.invariant.named before)
