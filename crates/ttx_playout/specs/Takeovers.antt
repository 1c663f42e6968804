-- The edition on the air, and how the next one takes over.
--
--   edition_of, current_of, at_of, held_of  the values of the program in terms of schedules
--   IsSentFor                               the last edition has been sent for at least a number of slots
--   IsOnAir                                 a handed-on schedule has led to the edition on the air
--   IsPlace, HasSent                        which slot of the schedule is next; the slots sent so far are part of what it sends
--   after_slot                              the schedule after the next slot
--   IsStart, IsChange, TakesOver            the answer to a first edition, and to a next one
use Rattle.std.specs.Prelude.{◌≡◌, ℕ, ◌+◌, ◌-◌, ◌^◌, ◌<◌, ◌≤◌, min, ℤ, pos, ◌-ℤ◌, nat_lt, if◌then◌else◌, List, [], ◌∷◌, length, Result, Ok, Err}
use Rattle.ttx_page.specs.Streams.{turned}
use Rattle.ttx_page.specs.Laws.{sent_from}
use Rattle.ttx_cycle.specs.Cycles.{slots_of}
use Rattle.ttx_source.specs.Services.{pages_of}
use Rattle.ttx_page.specs.declared.class.Class.TheVariants.{Any, Clearing}
use Rattle.ttx_certificate.specs.Certificates.{certificate_of}
use Rattle.ttx_witness.specs.Coverage.{Accepts, limit}
use Rattle.ttx_certify.specs.Verdicts.{IsVerdict}
use Rattle.ttx_certify.specs.declared.verdict.Verdict as verdict
use Rattle.ttx_certify.specs.declared.verdict.Verdict.TheVariants as certified
use Rattle.ttx_proof.specs.Verdicts.{IsSpliceVerdict}
use Rattle.ttx_proof.specs.declared.verdict.SpliceVerdict.{SpliceVerdict}
use Rattle.ttx_proof.specs.declared.verdict.SpliceVerdict.TheVariants.{Yes, No}
use Rattle.ttx_playout.specs.declared.edition.Edition.{Edition as EditionValue}
use Rattle.ttx_playout.specs.declared.state.OnAir.{OnAir}
use Rattle.ttx_playout.specs.declared.faults.StartFault.{StartFault}
use Rattle.ttx_playout.specs.declared.faults.StartFault.TheVariants as start
use Rattle.ttx_playout.specs.declared.faults.ChangeFault.{ChangeFault}
use Rattle.ttx_playout.specs.declared.faults.ChangeFault.TheVariants.{TooSoon, Amid, Refused, NoMemory}
use Rattle.ttx_playout.specs.Schedules.{Edition, Showing, span, edition_at, first_slot, sent, one_more, AreEditions, change, IsHandedOn}

abbrev pub edition_of : EditionValue → Edition
edition_of e = record { cycle = slots_of e.cycle; pages = pages_of e.service; certificate = certificate_of e.certificate }

abbrev pub current_of : OnAir → Edition
current_of o = edition_of o.current

abbrev pub at_of : OnAir → ℕ
at_of o = o.at

-- the number of slots for which it has been sent, or fewer
abbrev pub held_of : OnAir → ℕ
held_of o = o.held

-- the last edition has been sent for at least that many slots; the first one has no beginning
abbrev pub IsSentFor : List Showing → ℕ → Type 0
IsSentFor [] slots = Unit {0}
IsSentFor (t ∷ []) slots = slots ≤ span t
IsSentFor (t ∷ next ∷ later) slots = IsSentFor (next ∷ later) slots

-- The schedule has led to what is on the air: it is handed on, and its last edition is the one on the air.
pub record IsOnAir (o : OnAir) (first : Edition) (later : List Showing) : Type 0 where
  pub editions : AreEditions first later
  pub handed : IsHandedOn first later
  pub current : edition_at first later (length later) ≡ current_of o
  pub sent : IsSentFor later (held_of o)

-- The slot at this place of the last edition's cycle is slot i of the schedule, the next one.
abbrev pub IsPlace : Edition → List Showing → ℕ → ℤ → Type 0
IsPlace first [] at i = turned (length first.cycle) i ≡ at
IsPlace first (t ∷ later) at i = i ≡ pos (first_slot (t ∷ later) (length (t ∷ later)) + at)

-- The log has the slots sent up to now, in order. They are what the schedule sends just before its slot `next`.
pub record HasSent (log : List (List ℕ)) (o : OnAir) (first : Edition) (later : List Showing) : Type 0 where
  pub on_air : IsOnAir o first later
  pub next : ℤ
  pub place : IsPlace first later (at_of o) next
  pub is_log : sent_from (sent first later) (next -ℤ pos (length log)) (length log) ≡ log

-- the last slot of a period adds one period
abbrev pub after_slot : OnAir → List Showing → List Showing
after_slot o later = if nat_lt (at_of o + 1) (length (current_of o).cycle) then later else one_more later

-- The place of the slot after the next one; and the number of slots for which the edition has been sent after the next slot. The last slot of
-- a period adds the period, and the number stops at the largest u32.
abbrev pub after_place : OnAir → ℕ
after_place o = if nat_lt (at_of o + 1) (length (current_of o).cycle) then at_of o + 1 else 0

abbrev pub after_hold : OnAir → ℕ
after_hold o = if nat_lt (at_of o + 1) (length (current_of o).cycle) then held_of o
    else min (held_of o + length (current_of o).cycle) (2 ^ 32 - 1)

abbrev pub IsCertified : Edition → verdict.Verdict → Type 0
IsCertified e v = IsVerdict e.cycle e.pages e.certificate v

abbrev pub IsChangeVerdict : Edition → Edition → SpliceVerdict → Type 0
IsChangeVerdict old new v = IsSpliceVerdict (change old new) v

-- a first edition is on the air, or why it is not
abbrev pub IsStart : Edition → Result OnAir StartFault → Type 0
IsStart first (Ok o) = (current_of o ≡ first) × (at_of o ≡ 0) × (held_of o ≡ 2 ^ 32 - 1) × Accepts first.cycle first.pages first.certificate
    × (first.certificate.class ≡ Any)
IsStart first (Err (start.Refused reason)) = IsCertified first (certified.No reason)
IsStart first (Err start.Clearing) = Accepts first.cycle first.pages first.certificate × (first.certificate.class ≡ Clearing)
IsStart first (Err start.NoMemory) = Unit {0}

-- after a deadline and between two periods
pub record IsTime (o : OnAir) : Type 0 where
  pub held : limit (current_of o).certificate ≤ held_of o
  pub between : at_of o ≡ 0

-- whether the next edition may take over: at such a time, and if the change is accepted
abbrev pub IsChange : OnAir → Edition → Result (Unit {0}) ChangeFault → Type 0
IsChange o next (Ok _) = IsTime o × IsChangeVerdict (current_of o) next Yes
IsChange o next (Err (TooSoon left)) = (0 < left) × (held_of o + left ≡ limit (current_of o).certificate)
IsChange o next (Err (Amid left)) = (limit (current_of o).certificate ≤ held_of o) × (0 < at_of o) × (at_of o + left ≡ length (current_of o).cycle)
IsChange o next (Err (Refused reason)) = IsTime o × IsChangeVerdict (current_of o) next (No reason)
IsChange o next (Err NoMemory) = IsTime o

-- it has taken over from the edition that left the air
abbrev pub IsTaken : OnAir → Edition → OnAir → EditionValue → Type 0
IsTaken old next new off = (current_of new ≡ next) × (at_of new ≡ 0) × (held_of new ≡ 0) × (off ≡ old.current)

-- it has taken over, or nothing has changed
abbrev pub TakesOver : OnAir → Edition → OnAir → Result EditionValue ChangeFault → Type 0
TakesOver old next new (Ok off) = IsChange old next (Ok tt) × (current_of new ≡ next) × (at_of new ≡ 0) × (held_of new ≡ 0) × (off ≡ old.current)
TakesOver old next new (Err fault) = IsChange old next (Err fault) × (new ≡ old)
