use Rattle.ttx_info.proofs.ReadableInfo.{read_infos_are_said}
use Rattle.ttx_info.proofs.laws.read_infos_are_said.Goals as goal

pub returns : goal.returns
returns c = read_infos_are_said c.read_link_is_said.ensures
