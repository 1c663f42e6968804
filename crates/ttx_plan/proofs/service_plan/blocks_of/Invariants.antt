use Rattle.std.proofs.Common.{◌≡◌, map, take}
use Rattle.ttx_plan.specs.Blocks.{placed}
use Rattle.ttx_plan.specs.Carries.{blocks_of}
use Rattle.ttx_plan.specs.Seen.{seen}
use Rattle.ttx_plan.proofs.service_plan.blocks_of.Given as goal

abbrev pub invariant-loop-index : goal.invariant-loop-index
invariant-loop-index l = map seen l.blocks.items ≡ placed l.places (blocks_of l.class (take l.index l.service.pages))
