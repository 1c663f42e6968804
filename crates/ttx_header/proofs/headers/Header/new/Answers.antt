use Rattle.std.proofs.Common.{refl}
use Rattle.ttx_header.proofs.headers.Header.new.Goals as goal

pub returns-then-control-lt2048 : goal.returns-then-control-lt2048
returns-then-control-lt2048 c = (c.if-control-lt2048.true, refl)
