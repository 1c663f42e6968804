use Rattle.ttx_mistakes.proofs.WholeTexts as whole
use Rattle.ttx_mistakes.proofs.laws.no_mistake_where_read.Goals as goal

pub returns : goal.returns
returns c = whole.no_mistake_where_read
