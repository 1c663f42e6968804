use Rattle.std.proofs.Common.{rules, sym, subst}
use Rattle.ttx_witness.specs.search.Finding.{IsDeadline}
use Rattle.ttx_witness.proofs.lemmas.search.LeastDeadline.{deadline_sent}
use Rattle.ttx_witness.proofs.search.certificates.deadline_of.Goals as goal

pub returns-in-Some : goal.returns-in-Some
returns-in-Some c = λ cycle pages tells.
    subst (λ x. IsDeadline cycle pages c.args.lines x c.least_field.result) (sym c.in-Some.is)
    (deadline_sent cycle pages c.args.lines c.in-Some.slots c.least_field.result (tells.0 (search rules)) c.least_field.ensures)
