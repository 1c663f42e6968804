use Rattle.std.proofs.Common.{◌≡◌, ◌-◌}
use Rattle.ttx_desk.specs.Lines.{rest_after}
use Rattle.ttx_desk.proofs.lines.rest_after.Given as goal

-- the line feeds that are left
abbrev pub invariant-loop-feed : goal.invariant-loop-feed
invariant-loop-feed l = rest_after (l.feeds - l._feed) l.rest ≡ rest_after l.feeds l.text
