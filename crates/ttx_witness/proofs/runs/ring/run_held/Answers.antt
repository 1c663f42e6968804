use Rattle.std.proofs.Common.{sym, ap, ◌∙◌}
use Rattle.ttx_witness.specs.runs.Transmissions.{run_between}
use Rattle.ttx_witness.proofs.lemmas.runs.OneMore.{run_of_ends}
use Rattle.ttx_witness.proofs.runs.ring.run_held.Goals as goal

pub returns : goal.returns
returns c =
    let h = c.in-Some-Some in
    c.run_from.ensures ∙ ap (run_between h.first.now h.last.now) c.all_sure-sure.ensures
    ∙ run_of_ends c.args.window.now.items h.first.now h.last.now (sym h.ensures) (sym h.ensures')
