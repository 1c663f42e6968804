use Rattle.std.proofs.Common.{◌≡◌, ◌≤◌, ℕ, List, None, length}
use Rattle.ttx_monitor.specs.Waiting.{waiting, IsLeft, HasMore}
use Rattle.ttx_monitor.proofs.ahead.Ahead.fill.Given as goal

abbrev pub invariant-loop-i : goal.invariant-loop-i
invariant-loop-i g l = record {
  left : (bytes : List ℕ) → IsLeft l.fn.self (g.R.Read.remaining l.fn.feed.inner) bytes → IsLeft l.self (g.R.Read.remaining l.feed.inner) bytes;
  more : HasMore l.fn.self l.self;
  open_end : l.self.end ≡ None;
  enough : l._i ≤ length (waiting l.self);
  faults : l.feed.faults ≡ l.fn.feed.faults;
}
