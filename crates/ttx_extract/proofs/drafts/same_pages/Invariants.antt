use Rattle.std.proofs.Common.{map}
use Rattle.ttx_extract.specs.Drafts.{authored_of}
use Rattle.ttx_extract.proofs.SameLists.{SameBefore}
use Rattle.ttx_extract.proofs.drafts.same_pages.Given as goal

abbrev pub invariant-loop-index : goal.invariant-loop-index
invariant-loop-index l = SameBefore (map authored_of l.pages) l.service.pages l.index
