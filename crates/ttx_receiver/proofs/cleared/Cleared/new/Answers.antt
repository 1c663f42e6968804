use Rattle.ttx_receiver.proofs.cleared.Cleared.new.Goals as goal

pub returns : goal.returns
returns c = c.new.ensures
