use Rattle.std.proofs.Common.{◌≡◌}
use Rattle.toml.specs.View.{members_view}
use Rattle.ttx_check.specs.Parts.{wrong_key}
use Rattle.ttx_check.proofs.acceptance.wrong_key.Given as goal

abbrev pub invariant-loop-key : goal.invariant-loop-key
invariant-loop-key l = wrong_key (members_view l.key-iterator) ≡ wrong_key (members_view l.rows.entries)
