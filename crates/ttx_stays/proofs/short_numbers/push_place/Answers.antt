use Rattle.std.proofs.Common.{◌≡◌, ◌∙◌, ◌++◌, codes, string_bytes, append_assoc, subst, ap}
use Rattle.std.specs.Prelude.{OnOk}
use Rattle.ttx_numbers.specs.Numbers.{number_text}
use Rattle.ttx_stays.specs.ShortNumbers.{place_text}
use Rattle.ttx_stays.proofs.short_numbers.push_place.Goals as goal

pub returns : goal.returns
unfolding place_text
returns c =
    let old = string_bytes c.args.text.now in
    let number = number_text c.args.id in
    let whole = ap (λ t. t ++ number) c.in_ok-push_str.ensures.bytes ∙ append_assoc old (codes "warning number ") number in
    subst (λ t. OnOk c.push_number.result (string_bytes c.push_number.new.text ≡ t)) whole c.push_number.ensures
