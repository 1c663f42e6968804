use Rattle.std.proofs.Common.{sym, ap, ◌∙◌}
use Rattle.ttx_witness.specs.runs.Transmissions.{run_between}
use Rattle.ttx_witness.proofs.lemmas.runs.OneMore.{run_of_ends}
use Rattle.ttx_witness.proofs.runs.transmissions.run_in.Goals as goal

pub returns : goal.returns
returns c =
    let h = c.in-Some-Some in
    c.run_from.ensures ∙ ap (run_between h.first.now h.last.now) c.each_sure-sure.ensures
    ∙ run_of_ends c.args.transmissions.now h.first.now h.last.now (sym h.ensures.value) (sym h.ensures'.value)
