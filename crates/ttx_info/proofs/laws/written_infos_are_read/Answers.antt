use Rattle.ttx_info.proofs.WrittenInfo.{written_infos_are_read}
use Rattle.ttx_info.proofs.laws.written_infos_are_read.Goals as goal

pub returns : goal.returns
returns c =
    written_infos_are_read c.words_are_read.ensures c.odd_bytes_hold_their_codes.ensures c.address_is_read_back.ensures c.said_link_is_read.ensures
    c.written_link_is_said.ensures
