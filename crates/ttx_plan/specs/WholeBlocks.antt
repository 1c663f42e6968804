-- Whole blocks: under each header of a page comes all that is sent of it.
--
--   PlannedBlocksAreWhole   so it is in a planned cycle, and no receiver may miss it
use Rattle.std.specs.Prelude.{◌≡◌, ℕ, ℤ, Bool, true, List, slice_get, Some}
use Rattle.ttx_page.specs.declared.class.Class.{Class}
use Rattle.ttx_page.specs.declared.item.Item.{Item}
use Rattle.ttx_page.specs.Pages.{Page}
use Rattle.ttx_page.specs.Packets.{packet_of}
use Rattle.ttx_page.specs.Streams.{repeated, heads_page, IsOwned, IsSure}
use Rattle.ttx_plan.specs.Acceptance.{IsPlanned}
use Rattle.ttx_plan.specs.Contents.{is_sent_to}
use Rattle.ttx_source.specs.Services.{ServiceFields, pages_of}

-- each item that is sent to receivers of the class comes under each header of its page, sure
abbrev pub PlannedBlocksAreWhole : Type 0
PlannedBlocksAreWhole = (late : Bool) (class : Class) (service : ServiceFields) (cycle : List (List ℕ)) → IsPlanned late class service cycle →
    (n : ℕ) (p : Page) → slice_get (pages_of service) n ≡ Some p → (h : ℤ) → heads_page p.id (packet_of (repeated cycle h)) ≡ true →
    (item : Item) → is_sent_to class p item ≡ true →
    (j : ℤ) × IsOwned (repeated cycle) p.id item h j × IsSure (repeated cycle) service.lines p.id.mag item h j
