use Rattle.std.proofs.Common.{◌≡◌}
use Rattle.ttx_page.specs.Streams.{repeated}
use Rattle.ttx_late.proofs.GreatestGap.{IsReached}
use Rattle.ttx_late.proofs.followers.gap_after.Given as goal

abbrev pub invariant-loop-at : goal.invariant-loop-at
invariant-loop-at l = IsReached (repeated l.slots) (λ id. id ≡ l.page) l.at l.gap
