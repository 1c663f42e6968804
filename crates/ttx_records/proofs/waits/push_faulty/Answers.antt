use Rattle.std.proofs.Common.{◌∙◌, ◌++◌, [], ◌∷◌, sym, ap}
use Rattle.ttx_json.specs.Objects.{Member}
use Rattle.ttx_records.proofs.Lines.{told}
use Rattle.ttx_records.specs.Waits.{never, of_page, fault_members, beside_members}
use Rattle.ttx_records.proofs.waits.push_faulty.Goals as goal

pub returns-in-NoHeader : goal.returns-in-NoHeader
returns-in-NoHeader c =
    told _ _ _
    (ap (λ (m : Member). of_page c.args.page.now (never (m ∷ []) ++ beside_members c.args.beside)) c.word.ensures
    ∙ sym (ap (λ r. of_page c.args.page.now (fault_members r ++ beside_members c.args.beside)) c.in-NoHeader.is)) c.push_never.ensures

pub returns-in-HeadDiffers : goal.returns-in-HeadDiffers
returns-in-HeadDiffers c =
    told _ _ _ (sym (ap (λ r. of_page c.args.page.now (fault_members r ++ beside_members c.args.beside)) c.in-HeadDiffers.is))
    c.push_faulty_at-in-HeadDiffers.ensures

pub returns-in-RowDiffers : goal.returns-in-RowDiffers
returns-in-RowDiffers c =
    told _ _ _ (sym (ap (λ r. of_page c.args.page.now (fault_members r ++ beside_members c.args.beside)) c.in-RowDiffers.is))
    c.push_faulty_at-in-RowDiffers.ensures

pub returns-in-LinksDiffer : goal.returns-in-LinksDiffer
returns-in-LinksDiffer c =
    told _ _ _ (sym (ap (λ r. of_page c.args.page.now (fault_members r ++ beside_members c.args.beside)) c.in-LinksDiffer.is))
    c.push_faulty_at-in-LinksDiffer.ensures
