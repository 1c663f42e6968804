use Rattle.std.proofs.Common.{◌≡◌, ℕ, ◌<◌, [], length, get_or}
use Rattle.ttx_author.specs.Tags.{names}
use Rattle.ttx_author.specs.Remedies.{edits}
use Rattle.ttx_author.proofs.remedies.all_edits.Given as goal

abbrev pub invariant-loop-index : goal.invariant-loop-index
invariant-loop-index l = (length l.counts ≡ 34) × ((k : ℕ) → k < l.index → get_or l.counts k 0 ≡ edits (get_or names k []) l.name)
