use Rattle.std.proofs.Common.{length, ap, arith}
use Rattle.std.proofs.lemmas.List.{length-take}
use Rattle.ttx_recognition.proofs.recognition.judged.Goals as goal

pub returns-clause-few : goal.returns-clause-few
returns-clause-few c = let e = ap length c.first.ensures in let l = length-take 2688 c.args.bytes.now in omega arith
