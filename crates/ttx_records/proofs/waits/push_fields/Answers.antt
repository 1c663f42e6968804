use Rattle.std.proofs.Common.{◌∙◌, [], codes, refl, sym, ap}
use Rattle.ttx_json.specs.Objects.{word, count}
use Rattle.ttx_records.proofs.Lines.{told, both}
use Rattle.ttx_records.specs.Waits.{of_page, fields_beside}
use Rattle.ttx_records.proofs.waits.push_fields.Goals as goal

pub returns-in-None : goal.returns-in-None
returns-in-None c =
    told _ _ _
    (both c.word.ensures (both (c.count.ensures ∙ ap (count (codes "fields")) c.from.ensures)
    (both (c.word-2.ensures ∙ ap (word (codes "seconds")) (c.as_str.ensures.value ∙ c.in_ok-seconds.ensures))
    (both {l = []} (c.word-in-None.ensures ∙ ap (word (codes "needed_by")) c.item_name.ensures) refl)))
    ∙ sym (ap (λ beside. of_page c.args.page.now (fields_beside c.args.wait.0 c.args.wait.1 beside)) c.in-None.is)) c.push_joined.ensures
