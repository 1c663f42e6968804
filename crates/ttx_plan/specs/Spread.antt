-- Places of pages among the rounds that make the rounds similar in length, and keep the pages of one page number apart (profile). Pages
-- take their places one after another, those that are sent most often first, and equal ones in authored order.
--
--   earlier, packets_so_far     the blocks that take their places before one, and their packets in a round
--   IsFirstLeast            the first number below a count with the least value
--   IsAtPlace, IsSpread     a page at the first place with the least burden; each page at such a place
--   IsSpreadPlan, IsTooLongSpread   a cycle with its pages at such places; such places with which the cycle might be too long
use Rattle.std.specs.Prelude.{◌≡◌, ℕ, ◌/◌, ◌<◌, ◌≤◌, Bool, List, ◌++◌, filter, take, ◌==◌, nat_lt, slice_get, slice_index, Some}
use Rattle.ttx_page.specs.declared.class.Class.{Class}
use Rattle.ttx_source.specs.Services.{Authored, ServiceFields}
use Rattle.ttx_plan.specs.Blocks.{Block, placed, round_of, packets_in, length_bound}
use Rattle.ttx_plan.specs.Carries.{CarriesAt, blocks_of, blocks_sent_at}
use Rattle.ttx_plan.specs.SubpageTurns.{burden}

-- the blocks that take their places before the one at this index, which is sent this often
abbrev pub earlier : List Block → ℕ → ℕ → List Block
earlier blocks often index = filter (λ block. nat_lt often block.often) blocks ++ filter (λ block. block.often == often) (take index blocks)

-- how many packets these blocks have in a round; neither empty slots nor time-filling headers count
abbrev pub packets_so_far : List Block → ℕ → ℕ → ℕ → ℕ
packets_so_far blocks often index round = packets_in (round_of (earlier blocks often index) round)

-- the first of the numbers below a count with the least value
pub record IsFirstLeast (value : ℕ → ℕ) (count number : ℕ) : Type 0 where
  pub within : number < count
  pub least : (other : ℕ) → other < count → value number ≤ value other
  pub first : (other : ℕ) → other < number → value number < value other

-- the burden of a place, from the pages that take theirs before
abbrev pub burden_so_far : Class → List Authored → List ℕ → ℕ → Authored → ℕ → ℕ
burden_so_far class pages places index p round =
    burden pages places index p (packets_so_far (placed places (blocks_of class pages)) p.often index round) round

-- The page is at the first place with the least burden. The first round of a place stands for all of them: the pages before are sent as
-- often or more often, so each round of a place has the same ones.
abbrev pub IsAtPlace : Class → List Authored → List ℕ → ℕ → Authored → Type 0
IsAtPlace class pages places index p = IsFirstLeast (burden_so_far class pages places index p) (8 / p.often) (slice_index places index)

abbrev pub IsSpread : Class → List Authored → List ℕ → Type 0
IsSpread class pages places = (index : ℕ) (p : Authored) → slice_get pages index ≡ Some p → IsAtPlace class pages places index p

-- the cycle carries the service with its pages at such places, and the bound holds for them
pub record IsSpreadPlan (late : Bool) (class : Class) (service : ServiceFields) (cycle : List (List ℕ)) : Type 0 where
  pub places : List ℕ
  pub spread : IsSpread class service.pages places
  pub carries : CarriesAt places late class service cycle
  pub fits : length_bound service.lines (blocks_sent_at places late class service.pages) ≤ 65536

-- with the pages at such places the bound does not hold
pub record IsTooLongSpread (late : Bool) (class : Class) (service : ServiceFields) : Type 0 where
  pub places : List ℕ
  pub spread : IsSpread class service.pages places
  pub long : 65536 < length_bound service.lines (blocks_sent_at places late class service.pages)
