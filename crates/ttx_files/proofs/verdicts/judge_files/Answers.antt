use Rattle.ttx_cycle.specs.Counters.{inner_of}
use Rattle.ttx_files.proofs.JudgedInputs.{all_judged}
use Rattle.ttx_files.proofs.verdicts.judge_files.Goals as goal

pub returns-in-Ok-judge-clause-bytes : goal.returns-in-Ok-judge-clause-bytes
returns-in-Ok-judge-clause-bytes g c =
    all_judged (g.J.Judge.says c.args.judge.now) c.in-Ok.inputs c.in-Ok-judge.told c.in-Ok-judge.ensures
    (g.A.Read.remaining (inner_of c.args.cycle.now)) (g.B.Read.remaining (inner_of c.args.service.now))
    (g.C.Read.remaining (inner_of c.args.certificate.now)) c.in-Ok.ensures.bytes
