use Rattle.std.proofs.Common.{subst}
use Rattle.std.proofs.lemmas.Result.{IfOk-weaker}
use Rattle.ttx_certify.specs.AllReasons.{AreReasons}
use Rattle.ttx_certify.specs.Verdicts.{IsVerdict, Means}
use Rattle.ttx_certify.specs.walks.Passing.{EndsAs, second_pages, second_certificate, ended_pages, ended_certificate}
use Rattle.ttx_certify.proofs.PageByPage.{are_pages}
use Rattle.ttx_certify.proofs.WalkVerdicts.{as_walked, for_same, seen_by_all}
use Rattle.ttx_certify.proofs.walks.passes.Second.finish_all.Goals as goal

pub returns-in-Some-clause-verdict : goal.returns-in-Some-clause-verdict
returns-in-Some-clause-verdict c = IfOk-weaker c.judge_all.result _ _ (λ all judged. λ x y st.
    let self = c.args.self in
    let end = subst (EndsAs x y self) c.in-Some.is (c.end.ensures x y st) in
    as_walked x y (second_pages self) (second_certificate self) end.0 all.verdict
    (for_same end.2 end.3 (λ ps w. IsVerdict y ps w all.verdict) (judged y end.1))) c.judge_all.ensures.verdict

pub returns-in-Some-clause-seen : goal.returns-in-Some-clause-seen
returns-in-Some-clause-seen c = IfOk-weaker c.judge_all.result _ _ (λ all judged. λ x y st.
    let ended = c.in-Some.ended in
    let end = subst (EndsAs x y c.args.self) c.in-Some.is (c.end.ensures x y st) in
    for_same end.2 end.3 (λ ps w. Means y ps w all.verdict)
    (seen_by_all c.accepted_is_seen.ensures y end.1.cycle (ended_pages ended)
    (are_pages c.pages_keep_their_rules.ensures ended.pages.now) (ended_certificate ended)
    (c.certificates_keep_their_rules.ensures ended.certificate.now).1 all.verdict (judged y end.1))) c.judge_all.ensures.verdict

pub returns-in-Some-clause-reasons : goal.returns-in-Some-clause-reasons
returns-in-Some-clause-reasons c = IfOk-weaker c.judge_all.result _ _ (λ all told. λ x y st _.
    let end = subst (EndsAs x y c.args.self) c.in-Some.is (c.end.ensures x y st) in
    for_same end.2 end.3 (λ ps w. AreReasons y ps w all.pages.items) (told y end.1)) c.judge_all.ensures.reasons
