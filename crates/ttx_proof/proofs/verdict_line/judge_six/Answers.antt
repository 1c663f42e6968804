use Rattle.ttx_cycle.specs.Cycles.{slots_of}
use Rattle.ttx_certificate.specs.Certificates.{fields_of}
use Rattle.ttx_proof.proofs.verdict_line.judge_six.Goals as goal

pub returns-in-Ok-judge-clause-bytes : goal.returns-in-Ok-judge-clause-bytes
returns-in-Ok-judge-clause-bytes g c =
    let six = c.in-Ok.six in
    record {
      old = slots_of six.cycles.old;
      new = slots_of six.cycles.new;
      old_service = six.services.old;
      new_service = six.services.new;
      v = fields_of six.witnesses.old;
      w = fields_of six.witnesses.new;
      cycles = c.in-Ok.ensures.bytes.0;
      services = c.in-Ok.ensures.bytes.1;
      certificates = c.in-Ok.ensures.bytes.2;
      told = c.in-Ok-judge.ensures;
    }
