-- The subpages of planned cycles.
--
--   PlannedSendWhole        a planned cycle sends each subpage whole, to receivers that do not surely clear
--   PlannedAreSeen          so where it is planned for receivers that show a page late, too, each is seen in turn
use Rattle.std.specs.Prelude.{◌≡◌, ℕ, ◌+◌, Bool, true, List}
use Rattle.ttx_page.specs.Pages.{Page}
use Rattle.ttx_page.specs.declared.class.Class.TheVariants.{Any}
use Rattle.ttx_page.specs.Streams.{repeated}
use Rattle.ttx_cycle.specs.Files.{IsCycle}
use Rattle.ttx_source.specs.Services.{ServiceFields, pages_of}
use Rattle.ttx_witness.specs.Coverage.{Certificate, IsCertificate, Accepts, limit}
use Rattle.ttx_plan.specs.Acceptance.{IsPlanned}
use Rattle.ttx_late.specs.Followed.{AreFollowedWithin}
use Rattle.ttx_subpages.specs.WholeBlocks.{IsSubpage, SendsWhole}
use Rattle.ttx_subpages.specs.SeenInTurn.{SeenInTurn}

abbrev pub PlannedSendWhole : Type 0
PlannedSendWhole = (late : Bool) (service : ServiceFields) (cycle : List (List ℕ)) → IsPlanned late Any service cycle →
    (mag number : ℕ) (p : Page) → IsSubpage (pages_of service) mag number p →
    SendsWhole (repeated cycle) (pages_of service) service.lines mag number

-- Each such cycle is accepted with some certificate, and its pages are followed by other numbers within its length; so with each
-- certificate with which it is accepted, and each such gap:
abbrev pub PlannedAreSeen : Type 0
PlannedAreSeen = (service : ServiceFields) (cycle : List (List ℕ)) → IsPlanned true Any service cycle → IsCycle cycle →
    (w : Certificate) → IsCertificate w → w.lines ≡ service.lines → Accepts cycle (pages_of service) w →
    (gap : ℕ) → AreFollowedWithin cycle (pages_of service) gap → (mag number : ℕ) (p : Page) → IsSubpage (pages_of service) mag number p →
    SeenInTurn (repeated cycle) (pages_of service) w.class w.lines (limit w + gap) mag number p
