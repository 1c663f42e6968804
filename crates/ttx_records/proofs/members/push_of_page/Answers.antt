use Rattle.std.proofs.Common.{◌∙◌, codes, refl, ap}
use Rattle.ttx_json.specs.Objects.{word}
use Rattle.ttx_records.proofs.Lines.{told, both}
use Rattle.ttx_records.proofs.members.push_of_page.Goals as goal

pub returns : goal.returns
returns c =
    told _ _ _
    (both c.word.ensures (both c.count.ensures (both c.word-2.ensures
    (both (c.word-3.ensures ∙ ap (word (codes "page")) (c.as_str.ensures.value ∙ c.in_ok-page.ensures)) refl)))) c.push_joined.ensures
