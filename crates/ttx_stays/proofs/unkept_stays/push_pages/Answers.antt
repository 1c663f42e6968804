use Rattle.std.proofs.Common.{◌≡◌, ◌∙◌, ◌++◌, codes, string_bytes, append_assoc, subst, ap}
use Rattle.std.specs.Fmt.{decimal}
use Rattle.std.specs.Prelude.{OnOk}
use Rattle.ttx_stays.specs.UnkeptStays.{pages_text}
use Rattle.ttx_stays.proofs.unkept_stays.push_pages.Goals as goal

pub returns : goal.returns
unfolding pages_text
returns c =
    let old = string_bytes c.args.text.now in
    let count = decimal c.args.count in
    let after = codes " pages of its number" in
    let whole = ap (λ t. t ++ after) (append_assoc old (codes "the ") count) ∙ append_assoc old (codes "the " ++ count) after in
    subst (λ t. OnOk c.push_counted.result (string_bytes c.push_counted.new.text ≡ t)) whole c.push_counted.ensures
