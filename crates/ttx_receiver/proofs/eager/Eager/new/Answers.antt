use Rattle.ttx_receiver.proofs.eager.Eager.new.Goals as goal

pub returns : goal.returns
returns c = c.new.ensures
