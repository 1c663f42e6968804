use Rattle.std.proofs.Common.{◌≡◌, refl}
use Rattle.ttx_page.specs.Streams.{repeated}
use Rattle.ttx_late.proofs.GreatestGap.{nearer_widens, further_widens}
use Rattle.ttx_late.proofs.followers.widened_for.Goals as goal

pub returns-then-distance-gap : goal.returns-then-distance-gap
returns-then-distance-gap c = nearer_widens (repeated c.args.slots.now) (λ id. id ≡ c.args.page) c.args.at c.args.gap c.args.page (λ _ e _. e)
    c.in-Some.distance c.in-Some.ensures c.if-distance-gap.true

pub returns-else-distance-gap : goal.returns-else-distance-gap
returns-else-distance-gap c = further_widens (repeated c.args.slots.now) (λ id. id ≡ c.args.page) c.args.at c.args.gap c.args.page (λ _ e _. e)
    c.in-Some.distance c.in-Some.ensures c.if-distance-gap.false refl (cc)
