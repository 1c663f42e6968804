use Rattle.std.proofs.Common.{◌∙◌}
use Rattle.ttx_info.proofs.reader.digit.Goals as goal

pub returns-clause-value : goal.returns-clause-value
returns-clause-value c = c.from.ensures ∙ c.saturating_sub.ensures
