use Rattle.std.proofs.Common.{◌≡◌, ◌+◌, drop}
use Rattle.toml.specs.View.{items_view}
use Rattle.ttx_check.specs.Parts.{refused_link}
use Rattle.ttx_check.proofs.acceptance.refused_link.Given as goal

abbrev pub invariant-loop-index : goal.invariant-loop-index
invariant-loop-index l = refused_link (l.index + 1) (items_view (drop l.index l.values)) ≡ refused_link 1 (items_view l.values)
