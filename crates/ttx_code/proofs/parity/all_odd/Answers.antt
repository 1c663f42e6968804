use Rattle.std.proofs.Common.{◌≡◌, ◌∙◌, ◌&&◌, true, false, sym, ap, ap₂, take, drop}
use Rattle.std.specs.List.{list_all}
use Rattle.ttx_code.specs.Words.{is_odd}
use Rattle.ttx_code.proofs.Parities.{All_odd-from_test, test_from_All_odd, all_of_parts}
use Rattle.ttx_code.proofs.parity.all_odd.Goals as goal

pub returns-then-all_odd : goal.returns-then-all_odd
returns-then-all_odd c =
    let block : true ≡ list_all is_odd (take 32 c.args.bytes.now) = sym c.if-all_odd.true ∙ c.all_odd.ensures
    ∙ ap (list_all is_odd) c.split_at.ensures.front in
    let rest = c.all_odd-then-all_odd.ensures ∙ ap (list_all is_odd) c.split_at.ensures.back in
    let whole = ap₂ (λ x y. x && y) block rest ∙ all_of_parts is_odd 32 c.args.bytes.now in
    (λ t. All_odd-from_test _ (sym whole ∙ t), λ h. whole ∙ test_from_All_odd _ h)

pub returns-else-all_odd : goal.returns-else-all_odd
returns-else-all_odd c =
    let block : false ≡ list_all is_odd (take 32 c.args.bytes.now) = sym c.if-all_odd.false ∙ c.all_odd.ensures
    ∙ ap (list_all is_odd) c.split_at.ensures.front in
    let whole : false ≡ list_all is_odd c.args.bytes.now =
    ap (λ x. x && list_all is_odd (drop 32 c.args.bytes.now)) block ∙ all_of_parts is_odd 32 c.args.bytes.now in
    (λ t. All_odd-from_test _ (sym whole ∙ sym c.if-all_odd.false ∙ t), λ h. c.if-all_odd.false ∙ whole ∙ test_from_All_odd _ h)
