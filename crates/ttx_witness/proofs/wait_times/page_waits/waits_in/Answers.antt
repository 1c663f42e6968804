use Rattle.std.proofs.Common.{rules, ◌≡◌, ◌+◌, ◌++◌, ◌∷◌, [], sym, subst, arith}
use Rattle.ttx_witness.specs.search.Surveys.{survey_slots, surveyed_page}
use Rattle.ttx_witness.specs.declared.wait_times.wait.PageWait.{PageWait}
use Rattle.ttx_witness.proofs.lemmas.search.Surveys.{surveyed_here}
use Rattle.ttx_witness.proofs.lemmas.wait_times.PageDeadline.{AreTold, one_told, all_told}
use Rattle.ttx_witness.proofs.lemmas.wait_times.SurveyedWaits.{wait_here}
use Rattle.ttx_witness.proofs.wait_times.page_waits.waits_in.Goals as goal

pub returns : goal.returns
returns c = λ others.
    let v = c.args.survey.now in
    all_told (survey_slots v) v.pages.now v.class v.repeat v.lines c.loop-index.index c.loop-index.waits.items
    (let a = c.loop-index-test.false in let b = c.loop-index.auto in omega arith) (c.loop-index.invariant.told others)

pub loop-index-preserved : goal.loop-index-preserved
loop-index-preserved c =
    let v = c.args.survey.now in
    let s = c.surveyed_at-surveyed.result in
    let index = c.loop-index.index in
    let told : PageWait = record { page = c.id-page.result; wait = c.in_ok-wait.wait } in
    let pushed : c.push.new.self.items ≡ c.loop-index.waits.items ++ told ∷ [] = search rules in
    let at = surveyed_here v index s c.surveyed_at-surveyed.ensures.survey c.surveyed_at-surveyed.ensures.index in
    record {
      told = λ others.
          subst (AreTold (survey_slots v) v.pages.now v.class v.repeat v.lines (index + 1)) (sym pushed)
          (one_told (survey_slots v) v.pages.now v.class v.repeat v.lines index c.loop-index.waits.items told (surveyed_page s) at c.id-page.ensures
          (wait_here v index s c.surveyed_at-surveyed.ensures.survey c.surveyed_at-surveyed.ensures.index
          (surveyed_page s) at c.args.others.now c.in_ok-wait.wait c.in_ok-wait.ensures others)
          (c.loop-index.invariant.told others));
    }
