use Rattle.std.proofs.Common.{◌≡◌, ◌∙◌, ℕ, List, Bor, map, rules, ap}
use Rattle.std.specs.List.{position}
use Rattle.std.specs.Str.{bytes_eq}
use Rattle.ttx_author.specs.Options.{option_names}
use Rattle.ttx_author.proofs.Positions.{position-map}
use Rattle.ttx_author.proofs.options.index_of.Goals as goal

pub returns-clause-place : goal.returns-clause-place
unfolding option_names
returns-clause-place c =
    let same : map (λ (known : Bor (List ℕ)). known.now) c.as_slice.result.now ≡ option_names = search rules in
    c.place_among.ensures
    ∙ position-map (λ (known : Bor (List ℕ)). known.now) (λ known. bytes_eq known c.args.name.now) c.as_slice.result.now
    ∙ ap (position (λ known. bytes_eq known c.args.name.now)) same
