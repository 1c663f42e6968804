use Rattle.std.proofs.Common.{ap, ◌∙◌}
use Rattle.ttx_certificate.specs.Certificates.{fields_of}
use Rattle.ttx_certify.specs.VerdictLines.{verdict_line}
use Rattle.ttx_certify.proofs.certified_files.AtOnceJudge.judge.Goals as goal

pub returns-in-Ok-text : goal.returns-in-Ok-text
returns-in-Ok-text c = record {
  exact = c.in-Ok.ensures.exact;
  seen = c.in-Ok.ensures.seen;
  line_is = c.in-Ok-text.ensures ∙ ap (λ n. verdict_line (fields_of c.args.inputs.now.certificate) n c.in-Ok.verdict) c.pages.ensures.count;
}
