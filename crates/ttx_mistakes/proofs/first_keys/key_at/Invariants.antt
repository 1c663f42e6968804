use Rattle.std.proofs.Common.{◌≡◌, drop}
use Rattle.ttx_mistakes.specs.FirstKeys as rule
use Rattle.ttx_mistakes.specs.GivenViews.{given_views}
use Rattle.ttx_mistakes.proofs.first_keys.key_at.Given as goal

abbrev pub invariant-loop-key : goal.invariant-loop-key
invariant-loop-key l = rule.key_at l.stop (given_views (drop l.key-index l.keys)) ≡ rule.key_at l.stop (given_views l.keys)
