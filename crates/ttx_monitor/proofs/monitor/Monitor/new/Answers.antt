use Rattle.std.proofs.Common.{◌≤◌, sym, subst}
use Rattle.ttx_certify.proofs.AuthoredIds.{distinct_ids}
use Rattle.ttx_monitor.proofs.monitor.Monitor.new.Goals as goal

pub over-requires : goal.over-requires
over-requires c = record {
  some = subst (λ z. 1 ≤ z) (sym c.repeat.ensures) (c.certificates_keep_their_rules.ensures c.args.certificate.now).1.some_repeats;
  distinct = distinct_ids c.pages.result.now c.args.service.now.pages c.pages.ensures.value c.pages.ensures.ranges.distinct;
}
