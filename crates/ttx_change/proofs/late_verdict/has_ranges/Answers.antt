use Rattle.std.proofs.Common.{subst}
use Rattle.ttx_cycle.specs.Cycles.{slots_of-IsCycle}
use Rattle.ttx_certify.specs.Laws.{ArePages}
use Rattle.ttx_certify.proofs.PageByPage.{are_pages}
use Rattle.ttx_change.proofs.late_verdict.has_ranges.Goals as goal

pub returns : goal.returns
returns c =
    let six = c.args.six.now in
    let rules = c.pages_keep_their_rules.ensures in
    let certificates = c.certificates_keep_their_rules.ensures in
    record {
      old = slots_of-IsCycle six.cycles.old;
      new = slots_of-IsCycle six.cycles.new;
      old_pages = subst ArePages c.pages.ensures.value (are_pages rules c.pages.result.now);
      new_pages = subst ArePages c.pages-2.ensures.value (are_pages rules c.pages-2.result.now);
      old_certificate = (certificates six.witnesses.old).1;
      new_certificate = (certificates six.witnesses.new).1;
    }
