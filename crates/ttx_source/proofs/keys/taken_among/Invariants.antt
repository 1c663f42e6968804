use Rattle.std.proofs.Common.{◌≡◌, drop, map}
use Rattle.ttx_source.specs.Accepted.{taken_in}
use Rattle.ttx_source.proofs.keys.taken_among.Given as goal

abbrev pub invariant-loop-key : goal.invariant-loop-key
invariant-loop-key l = taken_in (map (λ k. (k.0.now, k.1.now)) (drop l.key-index l.keys)) l.name
    ≡ taken_in (map (λ k. (k.0.now, k.1.now)) l.keys) l.name
