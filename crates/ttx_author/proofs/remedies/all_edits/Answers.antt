use Rattle.std.proofs.Common.{◌≡◌, ◌∙◌, ◌<◌, ℕ, List, [], length, map, sym, arith, subst}
use Rattle.std.proofs.lemmas.Grind.{same_number_lists}
use Rattle.std.proofs.lemmas.List.{get_or-map, length-map}
use Rattle.ttx_author.specs.Tags.{names}
use Rattle.ttx_author.specs.Remedies.{edits}
use Rattle.ttx_author.proofs.Written.{names-count}
use Rattle.ttx_author.proofs.remedies.all_edits.Goals as goal

pub returns : goal.returns
returns c =
    let counts : List ℕ = c.loop-index.counts in
    let f = λ (known : List ℕ). edits known c.args.name.now in
    let long : length counts ≡ 34 = c.loop-index.invariant.0 in
    same_number_lists counts (map f names) (long ∙ sym (length-map names f ∙ names-count))
    (λ k inside.
    let here : k < length names = subst (λ n. k < n) (long ∙ sym names-count) inside in
    c.loop-index.invariant.1 k (omega arith) ∙ sym (get_or-map f names k [] 0 here))
