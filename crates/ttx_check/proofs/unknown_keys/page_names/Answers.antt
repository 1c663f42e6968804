use Rattle.std.proofs.Common.{rules}
use Rattle.ttx_check.specs.UnknownKeys.{page_keys}
use Rattle.ttx_check.proofs.unknown_keys.page_names.Goals as goal

pub returns : goal.returns
unfolding page_keys
returns c = search rules
