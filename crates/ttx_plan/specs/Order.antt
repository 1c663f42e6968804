-- Cycles that send pages in a given order (profile).
--
--   picked                  blocks by their indexes; an index beyond the last block picks none
--   sent_in_order           the blocks of pages in an order, with the time-filling headers between them
--   CarriesInOrder          a cycle that carries these blocks of a service
--   IsInOrder, IsPlanInOrder        a cycle of blocks, or none since it might be too long; each answer for an order
use Rattle.std.specs.Prelude.{◌≡◌, ℕ, ◌<◌, ◌≤◌, ⊤, Bool, Result, Ok, Err, List, [], ◌∷◌, ◌++◌, slice_get, Option, Some, None, option_map}
use Rattle.ttx_cycle.specs.Cycles.{slots_of}
use Rattle.ttx_cycle.specs.declared.cycles.Cycle.{Cycle}
use Rattle.ttx_info.specs.Infos.{info_bytes}
use Rattle.ttx_page.specs.declared.class.Class.{Class}
use Rattle.ttx_source.specs.Services.{Authored, ServiceFields}
use Rattle.ttx_plan.specs.Blocks.{Block, with_fillers, length_bound}
use Rattle.ttx_plan.specs.Carries.{CarriesBlocks, blocks_of}
use Rattle.ttx_plan.specs.declared.faults.PlanFault.{PlanFault}
use Rattle.ttx_plan.specs.declared.faults.PlanFault.TheVariants.{NoPages, TooLong, NoMemory}

abbrev pub some_block : Option Block → List Block
some_block None = []
some_block (Some block) = block ∷ []

abbrev pub picked : List Block → List ℕ → List Block
picked blocks [] = []
picked blocks (index ∷ order) = some_block (slice_get blocks index) ++ picked blocks order

abbrev pub sent_in_order : List ℕ → Bool → Class → List Authored → List Block
sent_in_order order late class pages = with_fillers late [] (picked (blocks_of class pages) order)

abbrev pub CarriesInOrder : List ℕ → Bool → Class → ServiceFields → List (List ℕ) → Type 0
CarriesInOrder order late class service cycle =
    CarriesBlocks service.serial service.lines (option_map info_bytes service.info) (sent_in_order order late class service.pages) cycle

-- the bound holds, or there is no cycle
abbrev pub IsInOrder : ServiceFields → List Block → Option Cycle → Type 0
IsInOrder service sent None = 65536 < length_bound service.lines sent
IsInOrder service sent (Some cycle) = CarriesBlocks service.serial service.lines (option_map info_bytes service.info) sent (slots_of cycle)
    × (length_bound service.lines sent ≤ 65536)

-- each answer for an order
abbrev pub IsPlanInOrder : List ℕ → Bool → Class → ServiceFields → Result Cycle PlanFault → Type 0
IsPlanInOrder order late class service (Ok cycle) = CarriesInOrder order late class service (slots_of cycle)
    × (length_bound service.lines (sent_in_order order late class service.pages) ≤ 65536)
IsPlanInOrder order late class service (Err NoPages) = order ≡ []
IsPlanInOrder order late class service (Err TooLong) = 65536 < length_bound service.lines (sent_in_order order late class service.pages)
IsPlanInOrder order late class service (Err NoMemory) = ⊤
