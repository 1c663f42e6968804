use Rattle.std.proofs.Common.{rules, ◌≡◌, ◌+◌, ◌++◌, ◌∷◌, [], length, slice_get, Some, sym, ap, ◌∙◌, subst, arith, length-append}
use Rattle.std.proofs.lemmas.List.{length-map}
use Rattle.ttx_page.specs.Views.{page_of}
use Rattle.ttx_witness.specs.faults.Faults.{HaveFaults}
use Rattle.ttx_witness.specs.search.Surveys.{survey_slots, survey_pages, surveyed_page, AreOthersIn, IsFaultIn}
use Rattle.ttx_witness.specs.declared.faults.reason.PageFault.{PageFault}
use Rattle.ttx_witness.proofs.lemmas.search.Surveys.{surveyed_here}
use Rattle.ttx_witness.proofs.lemmas.search.LeastDeadline.{one_more_fault}
use Rattle.ttx_witness.proofs.search.certificates.faults_in.Goals as goal

pub loop-index-preserved : goal.loop-index-preserved
loop-index-preserved c =
    let v = c.args.survey.now in let s = c.surveyed_at.result in let faults = c.loop-index.faults.items in
    let fault : PageFault = record { reason = c.fault-reason.result } in
    let pushed : c.push.new.self.items ≡ faults ++ fault ∷ [] = search rules in
    let here = subst (λ n. slice_get (survey_pages v) n ≡ Some (surveyed_page s)) (sym c.loop-index.invariant.count)
    (surveyed_here v c.loop-index.index s c.surveyed_at.ensures.survey c.surveyed_at.ensures.index) in
    record {
      count = ap length pushed ∙ length-append faults (fault ∷ []) ∙ ap (λ n. n + 1) c.loop-index.invariant.count;
      told = λ others. subst (HaveFaults (survey_slots v) (survey_pages v)) (sym pushed)
          (one_more_fault (survey_slots v) (survey_pages v) faults fault (surveyed_page s) here
          (subst (λ w. AreOthersIn w c.args.others.now → IsFaultIn w (surveyed_page s) fault.reason) c.surveyed_at.ensures.survey
          c.fault-reason.ensures others) (c.loop-index.invariant.told others));
    }

pub returns : goal.returns
returns c = λ others. record {
  count = let n = c.loop-index.invariant.count in let l = length-map c.args.survey.now.pages.now page_of in let f = c.loop-index-test.false in let e = c.loop-index.auto in omega arith;
  each = c.loop-index.invariant.told others;
}
