use Rattle.ttx_logbook.proofs.CutTexts.{cut_is}
use Rattle.ttx_logbook.proofs.cuts.cut.Goals as goal

pub returns : goal.returns
returns c = cut_is c.args.mark c.args.text.now c.split_once.result (c.split_once.ensures.byte c.requires (λ w o finds. finds))
