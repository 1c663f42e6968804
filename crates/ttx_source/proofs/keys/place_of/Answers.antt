use Rattle.std.proofs.Common.{◌≡◌, ◌∙◌, ℕ, List, Bor, map, rules}
use Rattle.std.specs.List.{list_any}
use Rattle.std.specs.Str.{bytes_eq}
use Rattle.ttx_source.specs.Accepted.{all_keys, is_key_name, key_names}
use Rattle.ttx_source.proofs.RowValues.{is_some-position}
use Rattle.ttx_source.proofs.KeyPlaces.{placed}
use Rattle.ttx_source.proofs.keys.place_of.Goals as goal

pub returns-clause-among : goal.returns-clause-among
unfolding key_names all_keys
returns-clause-among c =
    let any : list_any (λ (k : Bor (List ℕ) × Bor (List ℕ)). bytes_eq k.0.now c.args.name.now) c.as_slice.result.now ≡ is_key_name c.args.name.now = search rules in
    rw c.place_among.ensures (is_some-position _ c.as_slice.result.now ∙ any)

pub returns-clause-place : goal.returns-clause-place
unfolding key_names all_keys
returns-clause-place c =
    let same : map (λ (k : Bor (List ℕ) × Bor (List ℕ)). k.0.now) c.as_slice.result.now ≡ key_names = search rules in
    placed c.as_slice.result.now c.args.name.now c.place_among.result same c.place_among.ensures
