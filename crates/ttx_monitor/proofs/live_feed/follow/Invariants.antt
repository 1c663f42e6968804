use Rattle.std.proofs.Common.{◌≡◌, ℕ, List, []}
use Rattle.ttx_monitor.specs.Watching.{Watched}
use Rattle.ttx_monitor.specs.Standing.{Stands}
use Rattle.ttx_monitor.specs.Waiting.{IsLeft}
use Rattle.ttx_monitor.specs.Tallies.{nothing_yet}
use Rattle.ttx_monitor.specs.Followed.{telling_of}
use Rattle.ttx_monitor.proofs.FollowedFeeds.{FollowedSo}
use Rattle.ttx_monitor.proofs.live_feed.follow.Given as goal

abbrev pub invariant-loop-slot : goal.invariant-loop-slot
invariant-loop-slot g l = record {
  told : (w : Watched) (bytes : List ℕ) → Stands l.initial.following.monitor w [] →
      IsLeft l.initial.following.ahead (g.R.Read.remaining l.initial.feed.inner) bytes → l.initial.following.tally ≡ nothing_yet →
      FollowedSo w bytes (telling_of g.V.Wording.words l.how) l.following (g.R.Read.remaining l.feed.inner) (g.W.Write.contents l.initial.writer.inner)
      (g.W.Write.contents l.writer.inner) l.slot;
  feed : l.feed.faults ≡ l.initial.feed.faults;
  writer : l.writer.faults ≡ l.initial.writer.faults;
}
