use Rattle.ttx_archive.proofs.Found.{AreOthers}
use Rattle.ttx_archive.proofs.digests.find_text.Given as goal

abbrev pub invariant-loop-filed : goal.invariant-loop-filed
invariant-loop-filed l = AreOthers l.archive l.digest l.filed-index
