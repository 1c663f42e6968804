use Rattle.std.proofs.Common.{◌≡◌, ◌++◌, ◌∙◌, List, ℕ, OnOk, string_bytes, subst}
use Rattle.std.specs.Prelude.{Option}
use Rattle.ttx_digits.specs.PageIds.{id_text}
use Rattle.ttx_records.specs.Names.{line}
use Rattle.ttx_records.specs.Waits.{of_page, wait_members, page_record}
use Rattle.ttx_records.specs.declared.waits.Beside.{Beside}
use Rattle.ttx_records.proofs.waits.push_page.Goals as goal

pub returns : goal.returns
unfolding page_record
returns c =
    let wait = c.args.one.told.wait in
    subst (λ (b : Option Beside). OnOk c.push_wait.result (string_bytes c.push_wait.new.text ≡ string_bytes c.args.text.now
    ++ line (of_page (id_text c.args.one.told.page) (wait_members wait b)))) c.promise_beside-beside.ensures
    (subst (λ (id : List ℕ). OnOk c.push_wait.result (string_bytes c.push_wait.new.text ≡ string_bytes c.args.text.now
    ++ line (of_page id (wait_members wait c.promise_beside-beside.result)))) (c.as_str.ensures.value ∙ c.in_ok-page.ensures)
    c.push_wait.ensures)
