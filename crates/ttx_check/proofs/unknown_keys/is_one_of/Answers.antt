use Rattle.std.proofs.Common.{◌≡◌, ◌∙◌, ◌||◌, ℕ, List, [], ◌∷◌, Bor, map, refl, ap}
use Rattle.std.specs.List.{list_any}
use Rattle.std.specs.Str.{bytes_eq}
use Rattle.ttx_check.specs.UnknownKeys.{is_one_of}
use Rattle.ttx_check.proofs.unknown_keys.is_one_of.Goals as goal

any-map : (names : List (Bor (List ℕ))) (key : List ℕ) → list_any (λ n. bytes_eq n.now key) names ≡ is_one_of (map (λ n. n.now) names) key
any-map [] key = refl
any-map (n ∷ names) key = ap (λ b. bytes_eq n.now key || b) (any-map names key)

pub returns : goal.returns
returns c = c.is_any.ensures ∙ any-map c.args.names.now c.args.key.now
