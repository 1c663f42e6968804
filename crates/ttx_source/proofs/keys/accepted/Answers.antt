use Rattle.std.proofs.Common.{◌≡◌, ◌∙◌, ℕ, List, Bor, map, ap}
use Rattle.ttx_source.specs.Accepted.{all_keys, key_table, taken_in, accepted_at}
use Rattle.ttx_source.proofs.keys.accepted.Goals as goal

pub returns : goal.returns
unfolding accepted_at key_table all_keys
returns c =
    let same : map (λ (k : Bor (List ℕ) × Bor (List ℕ)). (k.0.now, k.1.now)) c.as_slice.result.now ≡ key_table =
    ap (map (λ (k : Bor (List ℕ) × Bor (List ℕ)). (k.0.now, k.1.now))) c.as_slice.ensures in
    c.taken_among.ensures ∙ ap (λ table. taken_in table c.args.key.now) same
