use Rattle.std.proofs.Common.{rules}
use Rattle.ttx_check.specs.UnknownKeys.{service_keys}
use Rattle.ttx_check.proofs.unknown_keys.service_names.Goals as goal

pub returns : goal.returns
unfolding service_keys
returns c = search rules
