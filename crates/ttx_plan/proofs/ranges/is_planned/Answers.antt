use Rattle.ttx_cycle.specs.Cycles.{slots_of-IsCycle}
use Rattle.ttx_plan.proofs.PageLinks.{linked_from}
use Rattle.ttx_plan.proofs.ranges.is_planned.Goals as goal

pub returns : goal.returns
returns c = record {
  service_is = c.pages-pages.ensures.ranges;
  said = c.is_said.ensures;
  linked = linked_from c.pages-pages.result.now c.args.service.now.pages c.pages_have_links.ensures c.pages-pages.ensures.value;
  places = c.args.places.now;
  in_range = c.requires.places;
  carries = c.requires.carries;
  some = (slots_of-IsCycle c.args.cycle.now).some;
  few = (slots_of-IsCycle c.args.cycle.now).most;
}
