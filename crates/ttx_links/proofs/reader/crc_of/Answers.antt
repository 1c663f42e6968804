use Rattle.ttx_links.proofs.reader.crc_of.Goals as goal

pub returns : goal.returns
returns c = c.copy_from_slice.ensures.after
