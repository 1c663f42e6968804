use Rattle.ttx_header.proofs.reader.text_of.Goals as goal

pub returns : goal.returns
returns c = c.copy_from_slice.ensures.after
