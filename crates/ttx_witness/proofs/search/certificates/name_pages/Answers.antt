use Rattle.std.proofs.Common.{◌≡◌, ◌+◌, ◌*◌, length, Some, sym, subst, arith}
use Rattle.ttx_witness.specs.search.Surveys.{survey_slots, survey_pages, AreNamedIn}
use Rattle.ttx_witness.proofs.lemmas.search.LeastDeadline.{none_named}
use Rattle.ttx_witness.proofs.search.certificates.name_pages.Goals as goal

pub loop-index-init : goal.loop-index-init
loop-index-init c = record {
  named = subst (λ es. AreNamedIn c.args.survey.now 0 es (Some 0)) (sym c.requires.none)
      (let v = c.args.survey.now in none_named (survey_slots v) (survey_pages v) v.class v.lines v.repeat);
}

pub loop-index-preserved : goal.loop-index-preserved
loop-index-preserved c = record {
  named =
      let old = c.loop-index.entries.items in let new = c.name_page.new.entries.items in
      let before = c.loop-index.invariant.named in
      let named = subst (λ n. AreNamedIn c.surveyed_at-surveyed.result.survey.now
      (26 * n) old c.loop-index.least → AreNamedIn c.surveyed_at-surveyed.result.survey.now (26 * (n + 1)) new c.in_ok-least.least)
      c.surveyed_at-surveyed.ensures.index c.in_ok-least.ensures in
      subst (λ v. AreNamedIn v (26 * c.loop-index.index) old c.loop-index.least → AreNamedIn v
      (26 * (c.loop-index.index + 1)) new c.in_ok-least.least) c.surveyed_at-surveyed.ensures.survey named before;
}

pub returns : goal.returns
returns c =
    let n : c.loop-index.index ≡ length c.args.survey.now.pages.now = let a = c.loop-index-test.false in let b = c.loop-index.auto in omega arith in
    subst (λ k. AreNamedIn c.args.survey.now (26 * k) c.loop-index.entries.items c.loop-index.least) n c.loop-index.invariant.named
