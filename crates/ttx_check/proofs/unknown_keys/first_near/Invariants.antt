use Rattle.std.proofs.Common.{◌≡◌, drop, map}
use Rattle.std.specs.Prelude.{find}
use Rattle.ttx_check.specs.UnknownKeys.{is_near_name}
use Rattle.ttx_check.proofs.unknown_keys.first_near.Given as goal

abbrev pub invariant-loop-name : goal.invariant-loop-name
invariant-loop-name l = find (is_near_name l.most l.key) (map (λ n. n.now) (drop l.name-index l.names))
    ≡ find (is_near_name l.most l.key) (map (λ n. n.now) l.names)
