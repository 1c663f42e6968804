use Rattle.std.proofs.Common.{◌≡◌, ◌+◌, ◌++◌, drop}
use Rattle.ttx_check.specs.PageWarnings.{link_warnings}
use Rattle.ttx_check.proofs.links.push_links.Given as goal

abbrev pub invariant-loop-place : goal.invariant-loop-place
invariant-loop-place l = l.found.items ++ link_warnings l.entries l.page (l.place + 1) (drop l.place l.links) ≡ l.initial.found.items
    ++ link_warnings l.entries l.page 1 l.links
