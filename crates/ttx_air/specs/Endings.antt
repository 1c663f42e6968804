-- What happens at the end of each period of the edition on the air.
--
--   Ending                  what happened at the end of a period
--   taken_by, taken_in      the edition that takes over; the editions that took over
--   Playout, opened         what is on the air, since when, and the schedule that led up to it; how it begins
--   with_period, after_change, playout_after        one period more, the change at its end, and the ends of many periods
--   field_after             the field before which the next period ends
--   IsEnding, AreEndings    what happened is right: the newsroom is asked where a change may be made, and the verdict decides
--   answer_at, Asked, Answers       what the newsroom answered, at one end of a period and at many
use Rattle.std.specs.Prelude.{◌≡◌, ℕ, ◌+◌, ◌-◌, ◌^◌, ◌/◌, ◌<◌, ◌≤◌, min, if◌then◌else◌, List, [], ◌∷◌, ◌++◌, length, Option, Some, None}
use Rattle.ttx_witness.specs.Coverage.{limit}
use Rattle.ttx_playout.specs.Schedules.{Edition, Showing, one_more, taken}
use Rattle.ttx_playout.specs.declared.late_change.LateChange.{LateChange}
use Rattle.ttx_air.specs.declared.airtime.Receivers.{Receivers}
use Rattle.ttx_air.specs.Newsrooms.{Candidate, News, Nothing, Next, Refused}
use Rattle.ttx_air.specs.Judgements.{is_yes, IsJudgement}

-- The edition on the air is held, since a change would be too soon. Or the newsroom is asked: it has nothing, a text that is no edition, or a
-- next edition. That one is judged, and takes over if the verdict is yes; or there was no memory to judge it.
pub data Ending : Type 0 where
  Held : Ending
  Quiet : Ending
  Unfit : List ℕ → List ℕ → Ending
  Judged : Candidate → LateChange → Ending
  Unjudged : Candidate → Ending

abbrev pub taken_by : Ending → Option Edition
taken_by (Judged next verdict) = if is_yes verdict then Some next.edition else None
taken_by Held = None
taken_by Quiet = None
taken_by (Unfit mark words) = None
taken_by (Unjudged next) = None

-- the editions that took over, in their order; of the endings the newest one stands first
abbrev pub with_taken : List Edition → Option Edition → List Edition
with_taken earlier None = earlier
with_taken earlier (Some next) = earlier ++ next ∷ []

abbrev pub taken_in : List Ending → List Edition
taken_in [] = []
taken_in (ending ∷ past) = with_taken (taken_in past) (taken_by ending)

-- The edition on the air, for how many slots it has been sent (up to the largest u32), the schedule's later editions, and the slots that were
-- sent since the begin.
pub record Playout : Type 0 where
  pub current : Edition
  pub held : ℕ
  pub later : List Showing
  pub slots : ℕ

-- the first edition has no begin, so it needs no hold
abbrev pub opened : Edition → Playout
opened first = record { current = first; held = 2 ^ 32 - 1; later = []; slots = 0 }

abbrev pub with_period : Playout → Playout
with_period p = record {
  current = p.current;
  held = min (p.held + length p.current.cycle) (2 ^ 32 - 1);
  later = one_more p.later;
  slots = p.slots + length p.current.cycle;
}

-- the edition that takes over, if one does
abbrev pub current_after : Edition → Option Edition → Edition
current_after current None = current
current_after current (Some next) = next

abbrev pub held_after : ℕ → Option Edition → ℕ
held_after held None = held
held_after held (Some next) = 0

abbrev pub later_after : List Showing → Option Edition → List Showing
later_after later None = later
later_after later (Some next) = taken later next

abbrev pub after_change : Playout → Option Edition → Playout
after_change p change = record {
  current = current_after p.current change;
  held = held_after p.held change;
  later = later_after p.later change;
  slots = p.slots;
}

-- the endings so far, the newest one first
abbrev pub playout_after : Edition → List Ending → Playout
playout_after first [] = opened first
playout_after first (ending ∷ past) = after_change (with_period (playout_after first past)) (taken_by ending)

-- the next period after these endings ends before this field
abbrev pub field_after : Edition → List Ending → ℕ
field_after first past = (with_period (playout_after first past)).slots / first.certificate.lines

-- Of the edition on the air, which has been sent for so many slots.
abbrev pub IsEnding : Receivers → Edition → ℕ → Ending → Type 0
IsEnding receivers current held Held = held < limit current.certificate
IsEnding receivers current held Quiet = limit current.certificate ≤ held
IsEnding receivers current held (Unfit mark words) = limit current.certificate ≤ held
IsEnding receivers current held (Judged next verdict) = (limit current.certificate ≤ held) × IsJudgement receivers current next.edition verdict
IsEnding receivers current held (Unjudged next) = limit current.certificate ≤ held

abbrev pub AreEndings : Receivers → Edition → List Ending → Type 0
AreEndings receivers first [] = Unit {0}
AreEndings receivers first (ending ∷ past) = AreEndings receivers first past
    × IsEnding receivers (playout_after first past).current (with_period (playout_after first past)).held ending

-- the newsroom's answer, where it was asked
abbrev pub answer_at : Ending → Option News
answer_at Held = None
answer_at Quiet = Some Nothing
answer_at (Unfit mark words) = Some (Refused mark words)
answer_at (Judged next verdict) = Some (Next next)
answer_at (Unjudged next) = Some (Next next)

abbrev pub Asked : {N : Type 0} → (N → Edition → ℕ → News → N → Type 0) → N → Edition → ℕ → Option News → N → Type 0
Asked gives old current field None new = new ≡ old
Asked gives old current field (Some news) new = gives old current field news new

abbrev pub Answers : {N : Type 0} → (N → Edition → ℕ → News → N → Type 0) → Edition → N → List Ending → N → Type 0
Answers gives first old [] new = new ≡ old
Answers {N} gives first old (ending ∷ past) new = (mid : N) × Answers gives first old past mid
    × Asked gives mid (playout_after first past).current (field_after first past) (answer_at ending) new
