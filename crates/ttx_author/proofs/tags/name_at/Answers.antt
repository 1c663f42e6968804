use Rattle.std.proofs.Common.{◌≡◌, ◌∙◌, ℕ, List, Bor, map, rules, ap, get_or, []}
use Rattle.ttx_author.specs.Tags.{names}
use Rattle.ttx_author.proofs.tags.name_at.Goals as goal

pub returns : goal.returns
unfolding names
returns c =
    let same : map (λ (known : Bor (List ℕ)). known.now) c.as_slice.result.now ≡ names = search rules in
    c.nth_name.ensures ∙ ap (λ list. get_or list c.args.index []) same
