use Rattle.ttx_page.proofs.Targets.{each_target}
use Rattle.ttx_page.proofs.page.Page.of_fields.Goals as goal

pub invariant_of-result : goal.invariant_of-result
invariant_of-result c = record {
  kept = c.requires;
  linked = record { six = c.six-six.ensures.ranges.six; crc = c.six-six.ensures.ranges.crc; targets = each_target _ c.links_lead_to_targets.ensures };
}
