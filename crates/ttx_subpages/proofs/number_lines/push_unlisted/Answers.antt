use Rattle.std.proofs.Common.{◌≡◌, ◌++◌, ◌∙◌, OnOk, string_bytes, codes, ap, subst, append_assoc}
use Rattle.ttx_numbers.specs.Numbers.{number_text}
use Rattle.ttx_subpages.specs.NumberReports.{slot_text}
use Rattle.ttx_subpages.proofs.number_lines.push_unlisted.Goals as goal

pub returns : goal.returns
returns c =
    let text = string_bytes c.args.text.now in
    let name = codes "no 15 unlisted " in
    let page = number_text c.args.page in
    let slot = slot_text c.args.slot in
    subst (λ xs. OnOk c.push_at.result (string_bytes c.push_at.new.text ≡ xs))
    (ap (λ x. (x ++ page) ++ slot) c.in_ok-push_str.ensures.bytes ∙ append_assoc (text ++ name) page slot ∙ append_assoc text name (page ++ slot))
    c.push_at.ensures
