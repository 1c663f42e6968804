use Rattle.ttx_info.proofs.SaidInfo.{info_said}
use Rattle.ttx_info.proofs.laws.said_infos_are_read.Goals as goal

pub returns : goal.returns
returns c = λ f s is target slot says. info_said c.odd_bytes_hold_their_codes.ensures c.said_link_is_read.ensures f s is target slot.size says
