use Rattle.ttx_info.proofs.reader.network_of.Goals as goal

pub returns : goal.returns
returns c = c.copy_from_slice.ensures.after
