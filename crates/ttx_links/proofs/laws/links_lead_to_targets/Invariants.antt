use Rattle.std.proofs.Common.{ℕ, ◌<◌, Option, get_or}
use Rattle.ttx_header.specs.Ids.{Id}
use Rattle.ttx_links.specs.Sets.{IsLink}
use Rattle.ttx_links.proofs.laws.links_lead_to_targets.Given as goal

abbrev pub invariant-loop-i : goal.invariant-loop-i
invariant-loop-i l = (k : ℕ) (d : Option Id) → k < l.i → IsLink (get_or l.six k d)
