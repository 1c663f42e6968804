use Rattle.std.proofs.Common.{◌≡◌, ◌∙◌, ◌++◌, ◌∷◌, [], codes, string_bytes, append_assoc, subst, sym, ap}
use Rattle.std.specs.Fmt.{decimal}
use Rattle.std.specs.Prelude.{OnOk}
use Rattle.ttx_stays.specs.UnkeptStays.{slots_text}
use Rattle.ttx_stays.proofs.unkept_stays.push_slots.Goals as goal

pub returns : goal.returns
unfolding slots_text
returns c =
    let old = string_bytes c.args.text.now in
    let slots = decimal c.args.slots in
    let after = codes " slots, and a cycle has at most 65536" in
    let line = 10 ∷ [] in
    let whole = ap (λ t. t ++ (after ++ line)) (append_assoc old (codes " take ") slots) ∙ append_assoc old (codes " take " ++ slots) (after ++ line)
    ∙ ap (λ t. old ++ t) (sym (append_assoc (codes " take " ++ slots) after line)) in
    subst (λ t. OnOk c.push_counted.result (string_bytes c.push_counted.new.text ≡ t)) whole c.push_counted.ensures
