use Rattle.std.proofs.Common.{subst}
use Rattle.ttx_certify.specs.Verdicts.{IsVerdict, Means}
use Rattle.ttx_certify.specs.walks.Passing.{EndsAs, second_pages, second_certificate, ended_pages, ended_certificate}
use Rattle.ttx_certify.proofs.PageByPage.{are_pages}
use Rattle.ttx_certify.proofs.WalkVerdicts.{as_walked, for_same, seen_by_all}
use Rattle.ttx_certify.proofs.walks.passes.Second.finish.Goals as goal

pub returns-in-Some : goal.returns-in-Some
returns-in-Some c =
    let self = c.args.self in
    let ended = c.in-Some.ended in
    let v = c.judge.result in
    record {
      verdict = λ x y st.
          let end = subst (EndsAs x y self) c.in-Some.is (c.end.ensures x y st) in
          as_walked x y (second_pages self) (second_certificate self) end.0 v
          (for_same end.2 end.3 (λ ps w. IsVerdict y ps w v) (c.judge.ensures y end.1));
      seen = λ x y st.
          let end = subst (EndsAs x y self) c.in-Some.is (c.end.ensures x y st) in
          for_same end.2 end.3 (λ ps w. Means y ps w v)
          (seen_by_all c.accepted_is_seen.ensures y end.1.cycle (ended_pages ended)
          (are_pages c.pages_keep_their_rules.ensures ended.pages.now) (ended_certificate ended)
          (c.certificates_keep_their_rules.ensures ended.certificate.now).1 v (c.judge.ensures y end.1));
    }

pub returns-in-None : goal.returns-in-None
returns-in-None c = record { verdict = λ x y st. subst (EndsAs x y c.args.self) c.in-None.is (c.end.ensures x y st); seen = λ x y st. tt }
