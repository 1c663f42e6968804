use Rattle.ttx_packet.proofs.Free.{clocks_are_free, infos_are_free}
use Rattle.ttx_packet.proofs.laws.free_bytes_are_anything.Goals as goal

pub returns-clause-clocks : goal.returns-clause-clocks
returns-clause-clocks c = clocks_are_free c.each_byte_is_near_itself.ensures

pub returns-clause-infos : goal.returns-clause-infos
returns-clause-infos c = infos_are_free c.each_byte_is_near_itself.ensures
