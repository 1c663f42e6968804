use Rattle.std.proofs.Common.{◌≡◌, ◌∙◌, ◌++◌, codes, string_bytes, append_assoc, subst, ap}
use Rattle.std.specs.Prelude.{OnOk}
use Rattle.ttx_numbers.specs.Numbers.{number_text}
use Rattle.ttx_carousel.specs.StayLines.{number_words}
use Rattle.ttx_carousel.proofs.lines.push_name.Goals as goal

pub returns : goal.returns
unfolding number_words
returns c =
    let old = string_bytes c.args.text.now in
    let number = number_text c.args.number in
    let whole = ap (λ t. t ++ number) c.in_ok-push_str.ensures.bytes ∙ append_assoc old (codes "stays ") number in
    subst (λ t. OnOk c.push_number.result (string_bytes c.push_number.new.text ≡ t)) whole c.push_number.ensures
