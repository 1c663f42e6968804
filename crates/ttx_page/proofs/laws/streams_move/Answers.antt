use Rattle.ttx_page.proofs.MovedStreams.{streams_move}
use Rattle.ttx_page.proofs.laws.streams_move.Goals as goal

pub returns : goal.returns
returns c = streams_move
