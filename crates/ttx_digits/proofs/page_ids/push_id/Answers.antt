use Rattle.std.proofs.Common.{◌≡◌, ℕ, ◌++◌, OnOk, string_bytes, subst}
use Rattle.ttx_header.specs.Ids.{Id, id_at}
use Rattle.ttx_digits.specs.PageIds.{id_text}
use Rattle.ttx_digits.proofs.page_ids.push_id.Goals as goal

id_by_numbers : (id : Id) (mag page sub : ℕ) → mag ≡ id.mag → page ≡ id.page → sub ≡ id.sub → id_at mag page sub ≡ id
id_by_numbers id mag page sub m p s = λ i. record { mag = m i; page = p i; sub = s i }

pub returns : goal.returns
returns c =
    subst (λ id. OnOk c.push_numbers.result (string_bytes c.push_numbers.new.text ≡ string_bytes c.args.text.now ++ id_text id))
    (id_by_numbers c.args.id _ _ _ c.mag.ensures.value c.page.ensures c.sub.ensures) c.push_numbers.ensures
