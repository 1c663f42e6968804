use Rattle.std.proofs.Common.{rules}
use Rattle.ttx_source.specs.Keys.{row_keys}
use Rattle.ttx_check.proofs.acceptance.row_names.Goals as goal

pub returns : goal.returns
unfolding row_keys
returns c = search rules
