use Rattle.std.proofs.Common.{refl, subst}
use Rattle.ttx_certify.proofs.AuthoredIds.{distinct_ids}
use Rattle.ttx_cycle.specs.Cycles.{slots_of}
use Rattle.ttx_source.specs.Services.{pages_of}
use Rattle.ttx_certificate.specs.Certificates.{certificate_of}
use Rattle.ttx_monitor.specs.Watching.{watched}
use Rattle.ttx_row_monitor.specs.Flags.{AreFlags}
use Rattle.ttx_row_monitor.proofs.HeardRows.{first_state}
use Rattle.ttx_row_monitor.proofs.monitor.RowMonitor.new.Goals as goal

pub flags_of-requires : goal.flags_of-requires
flags_of-requires c = record {
  distinct = distinct_ids c.pages-pages.result.now c.args.service.now.pages c.pages-pages.ensures.value c.pages-pages.ensures.ranges.distinct;
}

pub returns : goal.returns
returns c =
    first_state _ (watched (slots_of c.args.cycle.now) (pages_of c.args.service.now) (certificate_of c.args.certificate.now).repeat c.args.start)
    c.in_ok-monitor.ensures c.pages-pages.ensures.value
    (subst (λ pages. AreFlags (slots_of c.args.cycle.now) pages c.in_ok-flags.flags.items) c.pages-pages.ensures.value c.in_ok-flags.ensures) refl
