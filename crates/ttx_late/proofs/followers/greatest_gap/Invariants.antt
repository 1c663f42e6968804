use Rattle.std.proofs.Common.{map}
use Rattle.ttx_page.specs.Views.{page_of}
use Rattle.ttx_page.specs.Streams.{repeated}
use Rattle.ttx_late.specs.Followed.{IsListed}
use Rattle.ttx_late.proofs.GreatestGap.{IsReached}
use Rattle.ttx_late.proofs.followers.greatest_gap.Given as goal

abbrev pub invariant-loop-at : goal.invariant-loop-at
invariant-loop-at l = IsReached (repeated l.slots) (IsListed (map page_of l.pages)) l.at l.gap
