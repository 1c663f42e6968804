-- How the time within which viewers have to see a page is shared (profile). Viewers whose receivers show a page late see it a gap after the
-- deadline. Both may grow: the time is shared as the first edition needs it.
--
--   viewers_in              the viewers for whom plans are made
--   gap_share               the fields for the gap, where an edition needs at least these
--   receivers_with          the receivers that have to be served, with a gap of so many slots if they show a page late
--   IsGapInFields           the gap that an edition needs, in whole fields; receivers that show rows as they come have none
--   IsHouse                 the house of an air, with so many fields for the gap
--   Needs                   the least deadline and the gap that an edition needs
--   IsMore, IsSharing       an edition needs more than there is; the house of one that does not
--   IsShared, IsUnshared    the same for an edition
use Rattle.std.specs.Prelude.{◌≡◌, ℕ, ◌+◌, ◌-◌, ◌*◌, ◌/◌, ◌<◌, ◌≤◌, Bool, true, false, List, Option, Some, None}
use Rattle.ttx_page.specs.Pages.{Page}
use Rattle.ttx_page.specs.declared.class.Class.TheVariants.{Any}
use Rattle.ttx_late.specs.Followed.{IsGreatestGap}
use Rattle.ttx_air.specs.declared.airtime.Receivers.{Receivers}
use Rattle.ttx_air.specs.declared.airtime.Receivers.TheVariants.{AtOnce, Late}
use Rattle.ttx_deadline.specs.LateRequirements.{fields_up}
use Rattle.ttx_promise.specs.declared.promised_plan.Viewers.{Viewers}
use Rattle.ttx_witness.specs.Coverage.{Certificate}
use Rattle.ttx_witness.specs.search.Finding.{IsFoundFor}
use Rattle.ttx_press.specs.declared.demand.Demand.{Demand}
use Rattle.ttx_press.specs.declared.house.House.{House}

abbrev pub viewers_in : Demand → Viewers
viewers_in d = record { receivers = record { class = Any; late = d.late }; repeat = d.repeat }

-- in the proportion of the fields that the gap and the deadline need
abbrev pub gap_share : ℕ → ℕ → ℕ → ℕ
gap_share within deadline gap = within * gap / (deadline + gap)

abbrev pub receivers_with : Bool → ℕ → Receivers
receivers_with false slots = AtOnce
receivers_with true slots = Late slots

abbrev pub IsGapInFields : Bool → List (List ℕ) → List Page → ℕ → ℕ → Type 0
IsGapInFields false cycle pages lines gap = gap ≡ 0
IsGapInFields true cycle pages lines gap = (slots : ℕ) × IsGreatestGap cycle pages slots × (gap ≡ fields_up slots lines)

-- the deadline and the gap together are what is asked for
pub record IsHouse (d : Demand) (lines share : ℕ) (h : House) : Type 0 where
  pub deadline : h.deadline ≡ d.within - share
  pub receivers : h.receivers ≡ receivers_with d.late (share * lines)
  pub repeat : h.repeat ≡ d.repeat
  pub spread : h.spread ≡ d.spread

-- the least deadline, and the fields of the gap
pub record Needs (d : Demand) (cycle : List (List ℕ)) (pages : List Page) (lines : ℕ) (least : Option ℕ) (gap : ℕ) : Type 0 where
  pub found : Certificate
  pub is : IsFoundFor cycle pages d.repeat lines Any found least
  pub late : IsGapInFields d.late cycle pages lines gap

abbrev pub IsMore : ℕ → Option ℕ → ℕ → Type 0
IsMore within None gap = Unit {0}
IsMore within (Some least) gap = within < least + gap

-- the house of an edition that fits, or it needs more than there is
abbrev pub IsSharing : Demand → ℕ → Option ℕ → ℕ → Option House → Type 0
IsSharing d lines least gap (Some h) =
    (deadline : ℕ) × (least ≡ Some deadline) × (deadline + gap ≤ d.within) × (gap ≤ gap_share d.within deadline gap)
    × (deadline + gap_share d.within deadline gap ≤ d.within) × IsHouse d lines (gap_share d.within deadline gap) h
IsSharing d lines least gap None = IsMore d.within least gap

pub record IsShared (d : Demand) (cycle : List (List ℕ)) (pages : List Page) (lines : ℕ) (h : House) : Type 0 where
  pub least : ℕ
  pub gap : ℕ
  pub needs : Needs d cycle pages lines (Some least) gap
  pub enough : least + gap ≤ d.within
  pub room : gap ≤ gap_share d.within least gap
  pub house : IsHouse d lines (gap_share d.within least gap) h

pub record IsUnshared (d : Demand) (cycle : List (List ℕ)) (pages : List Page) (lines gap : ℕ) : Type 0 where
  pub least : Option ℕ
  pub needs : Needs d cycle pages lines least gap
  pub more : IsMore d.within least gap
