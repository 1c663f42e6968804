use Rattle.ttx_subpages.proofs.ListedBlocks as L
use Rattle.ttx_subpages.proofs.laws.listed_blocks_are_seen.Goals as goal

pub returns : goal.returns
returns c = L.listed_blocks_are_seen c.runs_are_seen.ensures c.kind_is_kept.ensures c.header_is_kept.ensures c.steps_keep_memories.ensures
