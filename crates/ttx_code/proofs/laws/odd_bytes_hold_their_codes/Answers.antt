use Rattle.ttx_code.proofs.Parities.{odd_bytes_hold_their_codes}
use Rattle.ttx_code.proofs.laws.odd_bytes_hold_their_codes.Goals as goal

pub returns : goal.returns
returns c = odd_bytes_hold_their_codes
