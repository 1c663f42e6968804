use Rattle.std.proofs.Common.{◌-◌, None, pos, refl}
use Rattle.ttx_witness.proofs.lemmas.runs.OneByOne.{track_begins}
use Rattle.ttx_witness.proofs.runs.one_item.nothing_confirmed.Goals as goal

pub returns : goal.returns
returns c = λ limit starts. track_begins (c.args.repeat - 1) limit starts
    (record { recent = c.nothing_sent.result; progress = record { next = 0; previous = pos 0; first_end = pos 0; late = None } })
    c.nothing_sent.ensures refl
