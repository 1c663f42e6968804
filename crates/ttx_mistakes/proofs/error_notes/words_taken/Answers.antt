use Rattle.std.proofs.Common.{◌∙◌, sym}
use Rattle.ttx_mistakes.proofs.Takes.{takes_named}
use Rattle.ttx_mistakes.proofs.error_notes.words_taken.Goals as goal

pub returns : goal.returns
returns c = c.takes.ensures ∙ sym (takes_named c.args.key)
