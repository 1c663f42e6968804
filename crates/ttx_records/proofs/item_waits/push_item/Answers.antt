use Rattle.std.proofs.Common.{◌≡◌, ◌++◌, ◌∙◌, List, ℕ, OnOk, string_bytes, subst}
use Rattle.ttx_digits.specs.PageIds.{id_text}
use Rattle.ttx_records.specs.ItemWaits.{item_members, own_members, item_record}
use Rattle.ttx_records.specs.Names.{line}
use Rattle.ttx_records.proofs.item_waits.push_item.Goals as goal

pub returns : goal.returns
unfolding item_record
returns c =
    let wait = c.args.told.wait in
    let page = id_text c.args.page in
    subst (λ (item : List ℕ). OnOk c.push_own.result (string_bytes c.push_own.new.text ≡ string_bytes c.args.text.now
    ++ line (item_members page item (own_members wait)))) c.item_name.ensures
    (subst (λ (id : List ℕ). OnOk c.push_own.result (string_bytes c.push_own.new.text ≡ string_bytes c.args.text.now
    ++ line (item_members id c.item_name.result.now (own_members wait)))) (c.as_str.ensures.value ∙ c.in_ok-page.ensures)
    c.push_own.ensures)
