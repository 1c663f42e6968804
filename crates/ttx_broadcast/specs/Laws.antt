-- The laws of replays. Each is proved by the function of its name in `laws`.
--
--   EndingsAreReplayed      where a newsroom answers what a log records, the same editions take over at the same fields, and the log is the same
--   AirIsReplayed           then the packets are the same, too
use Rattle.std.specs.Prelude.{◌≡◌, ℕ, List, length}
use Rattle.ttx_send.specs.Airing.{Times}
use Rattle.ttx_playout.specs.Schedules.{Edition, IsEdition}
use Rattle.ttx_air.specs.declared.airtime.Receivers.{Receivers}
use Rattle.ttx_air.specs.Newsrooms.{Candidate, News}
use Rattle.ttx_air.specs.Endings.{Ending, playout_after, AreEndings}
use Rattle.ttx_air.specs.LogLines.{lines_of}
use Rattle.ttx_air.specs.Airings.{Scene, Aired, air_of}
use Rattle.ttx_air.specs.Laws.{AreAnswers, AreNews}
use Rattle.ttx_broadcast.specs.Recordings.{recorded_in}

abbrev pub EndingsAreReplayed : Type 0
EndingsAreReplayed =
    (receivers : Receivers) (times : Times) (first : Edition) (past again : List Ending) → IsEdition first → AreNews (recorded_in past) →
    AreEndings receivers first past → AreEndings receivers first again → AreAnswers (recorded_in past) again →
    (playout_after first again ≡ playout_after first past) × (lines_of times first again ≡ lines_of times first past)

-- Two airings of one first edition, by one clock, for the same receivers. The newsroom of the second one answers what the log of the first one
-- records, at each end of a period at which it is asked, and there is memory to judge what it hands out.
abbrev pub AirIsReplayed : {N M : Type 0} → (N → Edition → ℕ → News → N → Type 0) → (M → Edition → ℕ → News → M → Type 0) → Type 0
AirIsReplayed {N} {M} gives again =
    (receivers : Receivers) (times : Times) (first : Candidate) (before after : Scene N) (before' after' : Scene M) (last last' : List ℕ) →
    (a : Aired gives receivers times first before after last) → (b : Aired again receivers times first before' after' last') →
    IsEdition first.edition → AreNews (recorded_in a.past) → AreAnswers (recorded_in a.past) b.past → length a.slots ≡ length b.slots →
    (air_of times first.edition b.slots ≡ air_of times first.edition a.slots) × (lines_of times first.edition b.past ≡ lines_of times first.edition a.past)
