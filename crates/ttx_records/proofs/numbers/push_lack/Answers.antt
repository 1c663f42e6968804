use Rattle.std.proofs.Common.{◌∙◌, [], ◌∷◌, codes, refl, sym, ap}
use Rattle.ttx_json.specs.Objects.{Member, word}
use Rattle.ttx_records.proofs.Lines.{told, both}
use Rattle.ttx_records.specs.NumberRecords.{lack_members}
use Rattle.ttx_records.specs.Verdicts.{no_members, of_item}
use Rattle.ttx_records.proofs.numbers.push_lack.Goals as goal

pub returns-in-Unwhole : goal.returns-in-Unwhole
returns-in-Unwhole c =
    told _ _ _
    (ap (λ (m : Member). of_item 14 (codes "unwhole") c.in-Unwhole.page c.in-Unwhole.item (m ∷ [])) c.count.ensures
    ∙ sym (ap lack_members c.in-Unwhole.is)) c.push_of_item.ensures

pub returns-in_ok-number-in-Unlisted : goal.returns-in_ok-number-in-Unlisted
returns-in_ok-number-in-Unlisted c =
    told _ _ _
    (ap (no_members 15 (codes "unlisted"))
    (both (c.word-page.ensures ∙ ap (word (codes "page_number")) (c.as_str.ensures.value ∙ c.in_ok-number-in-Unlisted.ensures))
    (both {l = []} c.count-in-Unlisted.ensures refl)) ∙ sym (ap lack_members c.in-Unlisted.is)) c.push_no.ensures
