use Rattle.std.proofs.Common.{rules}
use Rattle.ttx_check.specs.UnknownKeys.{info_keys}
use Rattle.ttx_check.proofs.unknown_keys.info_names.Goals as goal

pub returns : goal.returns
unfolding info_keys
returns c = search rules
