use Rattle.std.proofs.Common.{◌≡◌, ◌∙◌, ◌++◌, codes, string_bytes, append_assoc, subst, ap}
use Rattle.std.specs.Prelude.{OnOk}
use Rattle.ttx_digits.specs.PageIds.{id_text}
use Rattle.ttx_promise.specs.PromiseLines.{page_text}
use Rattle.ttx_promise.proofs.promise_lines.push_page.Goals as goal

pub returns : goal.returns
unfolding page_text
returns c =
    let old = string_bytes c.args.text.now in
    let id = id_text c.args.page in
    let whole = ap (λ t. t ++ id) c.in_ok-push_str.ensures.bytes ∙ append_assoc old (codes "late ") id in
    subst (λ t. OnOk c.push_id.result (string_bytes c.push_id.new.text ≡ t)) whole c.push_id.ensures
