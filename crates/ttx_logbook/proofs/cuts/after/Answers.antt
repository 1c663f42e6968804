use Rattle.ttx_logbook.proofs.CutTexts.{after_is}
use Rattle.ttx_logbook.proofs.cuts.after.Goals as goal

pub returns : goal.returns
returns c = after_is c.args.key.now c.args.text.now c.strip_prefix.result c.strip_prefix.ensures.cases
