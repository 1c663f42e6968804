use Rattle.std.proofs.Common.{◌≡◌, drop, None}
use Rattle.ttx_mistakes.specs.FirstKeys as rule
use Rattle.ttx_mistakes.specs.GivenViews.{given_views}
use Rattle.ttx_mistakes.proofs.first_keys.first_given.Given as goal

abbrev pub invariant-loop-key : goal.invariant-loop-key
invariant-loop-key l =
    rule.first_given l.target (given_views (drop l.key-index l.keys)) l.found ≡ rule.first_given l.target (given_views l.keys) None
