use Rattle.std.proofs.Common.{◌∙◌, [], ◌∷◌, codes, sym, ap}
use Rattle.ttx_json.specs.Objects.{Member, count}
use Rattle.ttx_records.proofs.Lines.{told}
use Rattle.ttx_records.specs.Verdicts.{of_page, of_item, reason_members}
use Rattle.ttx_records.proofs.verdicts.push_reason.Goals as goal

pub returns-in-OtherSubpage : goal.returns-in-OtherSubpage
returns-in-OtherSubpage c =
    told _ _ _
    (ap (λ (m : Member). of_page 3 (codes "other-subpage") c.in-OtherSubpage.page (m ∷ [])) c.at-in-OtherSubpage.ensures
    ∙ sym (ap reason_members c.in-OtherSubpage.is)) c.push_of_page-in-OtherSubpage.ensures

pub returns-in-Erased : goal.returns-in-Erased
returns-in-Erased c =
    told _ _ _
    (ap (λ (m : Member). of_page 4 (codes "erased") c.in-Erased.page (m ∷ [])) c.at-in-Erased.ensures ∙ sym (ap reason_members c.in-Erased.is))
    c.push_of_page-in-Erased.ensures

pub returns-in-RowDiffers : goal.returns-in-RowDiffers
returns-in-RowDiffers c =
    told _ _ _
    (ap (λ (m : Member). of_page 6 (codes "row-differs") c.in-RowDiffers.page (m ∷ [])) c.at-in-RowDiffers.ensures
    ∙ sym (ap reason_members c.in-RowDiffers.is)) c.push_of_page-in-RowDiffers.ensures

pub returns-in-LinksDiffer : goal.returns-in-LinksDiffer
returns-in-LinksDiffer c =
    told _ _ _
    (ap (λ (m : Member). of_page 7 (codes "links-differ") c.in-LinksDiffer.page (m ∷ [])) c.at-in-LinksDiffer.ensures
    ∙ sym (ap reason_members c.in-LinksDiffer.is)) c.push_of_page-in-LinksDiffer.ensures

pub returns-in-LateBlank : goal.returns-in-LateBlank
returns-in-LateBlank c =
    told _ _ _
    (ap (λ (m : Member). of_item 12 (codes "late-blank") c.in-LateBlank.page c.in-LateBlank.item (m ∷ []))
    (c.count-in-LateBlank.ensures ∙ ap (count (codes "header")) c.from-in-LateBlank.ensures) ∙ sym (ap reason_members c.in-LateBlank.is))
    c.push_of_item-in-LateBlank.ensures
