-- What is written while a feed is read, and after it, in whatever words (profile).
--
--   Words                   how each line is worded: a slip; a breach; the state; a verdict; a feed whose breaches were passed over, which
--                           begins with this slot of the cycle and after whose last slot so many bytes follow; what was lost and wrong
--   Telling                 what is written depends on: the words, each breach or not, the pages, the slots of the cycle, the one with which
--                           the feed begins, the slots of a field, and after how many slots the state
--   shift_text, breach_text a slip, and a breach, if there is one
--   is_due, state_at        whether the state is written after so many slots; it, if so
--   bad_text                a slot that breaks the rule, if each is reported
--   event_text, told_text   what is written for one slot; for several
--   a_minute, sums_of       a count of a feed of so many slots, for 3,000 fields; what was lost and wrong, in all and in a minute
--   sum_text, said_text     the same, if each breach is reported; the verdict, or, where breaches were passed over, how many there were
--   last_text               both
use Rattle.std.specs.Prelude.{ℕ, ◌*◌, ◌/◌, ◌%◌, ◌-◌, ◌^◌, min, max, Bool, false, ◌==◌, if◌then◌else◌, List, [], ◌∷◌, ◌++◌, Option, Some, None}
use Rattle.ttx_page.specs.Pages.{Page}
use Rattle.ttx_monitor.specs.Tallies.{added}
use Rattle.ttx_monitor.specs.declared.breach.Breach.{Breach}
use Rattle.ttx_monitor.specs.declared.event.Event.{Event}
use Rattle.ttx_monitor.specs.declared.sums.Sums.{Sums}
use Rattle.ttx_monitor.specs.declared.tally.Tally.{Tally}
use Rattle.ttx_monitor.specs.declared.verdict.FeedVerdict.{FeedVerdict}

pub record Words : Type 0 where
  pub slip : (count slot by : ℕ) → List ℕ
  pub breach : List Page → (slot : ℕ) → Breach → List ℕ
  pub state : Tally → List ℕ
  pub verdict : List Page → FeedVerdict → List ℕ
  pub broken : (start : ℕ) → Tally → (rest : ℕ) → List ℕ
  pub sums : Sums → List ℕ

pub record Telling : Type 0 where
  pub words : Words
  pub all : Bool
  pub pages : List Page
  pub count : ℕ
  pub start : ℕ
  pub lines : ℕ
  pub span : Option ℕ

abbrev pub shift_text : Words → ℕ → ℕ → Option ℕ → List ℕ
shift_text words count slot None = []
shift_text words count slot (Some by) = words.slip count slot by

abbrev pub breach_text : Words → List Page → ℕ → Option Breach → List ℕ
breach_text words pages slot None = []
breach_text words pages slot (Some breach) = words.breach pages slot breach

abbrev pub is_due : Option ℕ → ℕ → Bool
is_due None slots = false
is_due (Some span) slots = slots % max span 1 == 0

abbrev pub bad_text : Telling → Tally → Event → List ℕ
bad_text g t e = if g.all then shift_text g.words g.count t.slots e.shift ++ breach_text g.words g.pages t.slots e.breach else []

abbrev pub state_at : Telling → Tally → List ℕ
state_at g t = if is_due g.span t.slots then g.words.state t else []

abbrev pub event_text : Telling → Tally → Event → List ℕ
event_text g t e = bad_text g t e ++ state_at g (added t e)

abbrev pub told_text : Telling → Tally → List Event → List ℕ
told_text g t [] = []
told_text g t (e ∷ events) = event_text g t e ++ told_text g (added t e) events

abbrev pub a_minute : ℕ → ℕ → ℕ → ℕ
a_minute count slots lines = if slots == 0 then 0 else min (count * (3000 * lines) / slots) (2 ^ 64 - 1)

abbrev pub sums_of : Tally → ℕ → Sums
sums_of t lines = record {
  lost = t.lost;
  bits = t.bits;
  minute_lost = a_minute t.lost t.slots lines;
  minute_bits = a_minute t.bits t.slots lines;
}

abbrev pub sum_text : Telling → Tally → List ℕ
sum_text g t = if g.all then g.words.sums (sums_of t g.lines) else []

abbrev pub said_text : Telling → Tally → ℕ → Option FeedVerdict → List ℕ
said_text g t rest (Some verdict) = g.words.verdict g.pages verdict
said_text g t rest None = g.words.broken g.start t rest

abbrev pub last_text : Telling → Tally → ℕ → Option FeedVerdict → List ℕ
last_text g t rest verdict = said_text g t rest verdict ++ sum_text g t
