use Rattle.std.proofs.Common.{◌≡◌, ◌++◌, ℕ, List, Option, Some, Bor, option_map, string_bytes, subst, sym, refl}
use Rattle.ttx_desk.specs.Words.{IsBraceWords, near_words}
use Rattle.ttx_desk.proofs.Appends.{on_ok}
use Rattle.ttx_desk.proofs.words.push_brace.Goals as goal

pub returns : goal.returns
returns c =
    let out = string_bytes c.push_near.new.text in
    let old = string_bytes c.args.text.now in
    let name = c.in-Some.name.now in
    let nearest = c.in_ok-nearest.nearest.now in
    let Says : Option (Bor (List ℕ)) → Type 0 =
    λ name. (words : List ℕ) × IsBraceWords (option_map (λ (n : Bor (List ℕ)). n.now) name) words × (out ≡ old ++ words) in
    on_ok (out ≡ old ++ near_words name nearest) (Says c.args.name) c.push_near.result
    (λ e. subst Says (sym c.in-Some.is) (near_words name nearest, (nearest, c.in_ok-nearest.ensures, refl), e))
    c.push_near.ensures
