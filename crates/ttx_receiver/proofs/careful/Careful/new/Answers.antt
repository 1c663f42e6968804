use Rattle.ttx_receiver.proofs.careful.Careful.new.Goals as goal

pub returns : goal.returns
returns c = c.new.ensures
