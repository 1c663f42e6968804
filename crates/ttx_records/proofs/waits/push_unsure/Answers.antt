use Rattle.std.proofs.Common.{◌∙◌, ◌++◌, List, [], codes, refl, ap}
use Rattle.ttx_json.specs.Objects.{Member, word}
use Rattle.ttx_records.proofs.Lines.{told, both}
use Rattle.ttx_records.specs.Waits.{never, of_page, beside_members}
use Rattle.ttx_records.proofs.waits.push_unsure.Goals as goal

pub returns : goal.returns
returns c =
    told _ _ _
    (ap (λ (ms : List Member). of_page c.args.page.now (never ms ++ beside_members c.args.beside))
    (both (c.word.ensures ∙ ap (word (codes "needed_by")) c.item_name.ensures)
    (both c.count.ensures (both c.count-2.ensures (both {l = []} c.count-3.ensures refl))))) c.push_never.ensures
