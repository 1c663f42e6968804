use Rattle.std.proofs.Common.{arith, ap, length, subst}
use Rattle.ttx_links.specs.Sets.{AreLinks}
use Rattle.ttx_links.proofs.LinksOneByOne.{are_links}
use Rattle.ttx_links.proofs.laws.links_lead_to_targets.Goals as goal

pub returns : goal.returns
returns c = subst AreLinks c.six-six.ensures.value
    (are_links c.six-six.result.now
    (λ k d l. c.loop-i.invariant k d
    (omega (arith, l, ap length c.six-six.ensures.value, c.six-six.ensures.ranges.six, c.loop-i-test.false))))
