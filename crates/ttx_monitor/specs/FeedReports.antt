-- A feed that is reported while it comes (profile).
--
--   telling_for             how it is reported: as it is asked for, with its state every so many fields of a certificate's lines
--   IsFirstBad              the latest of some slots is the first that breaks the rule, or at which the feed has slipped
--   IsReason                what ends the report: the end of the feed, or the first breach if only that is reported
--   IsSaid                  what the verdict at the end says
--   IsReport                what is written and counted of the slots, and the verdict at the end
--   EndsWith, ReportsFrom   what goes out, from the slot with which the feed begins on
--   IsUnbegun, WritesUnlike nothing goes out before that slot is known; for a feed without packets only the words that say so
--   ReportsFeed             the same where that slot is named or found
--   IsEnded, rest_of        how the reading has ended, and how many bytes follow the last slot
use Rattle.std.specs.Prelude.{◌≡◌, ◌⊎◌, ℕ, ◌*◌, ◌<◌, ◌≤◌, true, false, ⊤, List, [], ◌∷◌, ◌++◌, length, take, Option, Some, None, Result, Ok, Err}
use Rattle.std.specs.Io.KnownBytes.{Appends, Keeps}
use Rattle.ttx_page.specs.Pages.{Page}
use Rattle.ttx_witness.specs.Coverage.{Certificate}
use Rattle.ttx_recognition.specs.declared.form.Unlike.{Unlike}
use Rattle.ttx_monitor.specs.Watching.{watched}
use Rattle.ttx_monitor.specs.Events.{IsWalk}
use Rattle.ttx_monitor.specs.Feeds.{IsEnding}
use Rattle.ttx_monitor.specs.FeedVerdicts.{IsFoundIn, BeginsAt, start_of, IsVerdictOf}
use Rattle.ttx_monitor.specs.Tallies.{nothing_yet, tally_of, is_bad}
use Rattle.ttx_monitor.specs.Wordings.{Words, Telling, told_text, last_text}
use Rattle.ttx_monitor.specs.Followed.{IsEnd, IsUnwritten, IsCutOff}
use Rattle.ttx_monitor.specs.declared.asked.Asked.{Asked}
use Rattle.ttx_monitor.specs.declared.event.Event.{Event}
use Rattle.ttx_monitor.specs.declared.live_feed.FollowFault.{FollowFault}
use Rattle.ttx_monitor.specs.declared.live_feed.FollowFault.TheVariants as follow
use Rattle.ttx_monitor.specs.declared.verdict.FeedVerdict.{FeedVerdict}
use Rattle.ttx_monitor.specs.declared.verdict.FeedVerdict.TheVariants as verdict
use Rattle.ttx_monitor.specs.declared.live_feed.Followed.{Followed}
use Rattle.ttx_monitor.specs.declared.live_feed.Followed.TheVariants.{End, Stopped}
use Rattle.ttx_monitor.specs.declared.feed_verdict.Heard.{Heard}
use Rattle.ttx_monitor.specs.declared.feed_verdict.Heard.TheVariants as heard
use Rattle.ttx_monitor.specs.declared.tally.Tally.{Tally}

abbrev pub span_of : Option ℕ → ℕ → Option ℕ
span_of None lines = None
span_of (Some fields) lines = Some (fields * lines)

abbrev pub telling_for : Words → List (List ℕ) → List Page → Certificate → Asked → ℕ → Telling
telling_for words cycle pages c asked start = record {
  words = words;
  all = asked.all;
  pages = pages;
  count = length cycle;
  start = start;
  lines = c.lines;
  span = span_of asked.every c.lines;
}

abbrev pub IsFirstBad : List Event → Type 0
IsFirstBad events =
    (before : List Event) × (e : Event) × (events ≡ before ++ e ∷ []) × ((tally_of nothing_yet before).breaches ≡ 0) × (is_bad e ≡ true)

-- the feed has ended, and no breach was passed over; or the latest slot is the first bad one
abbrev pub IsReason : Telling → ℕ → List ℕ → List Event → Option FeedVerdict → Type 0
IsReason g rest left events None = (g.all ≡ true) × IsEnd rest left events × (1 ≤ (tally_of nothing_yet events).breaches)
IsReason g rest left events (Some verdict) =
    (IsEnd rest left events × ((tally_of nothing_yet events).breaches ≡ 0)) ⊎ ((g.all ≡ false) × IsFirstBad events)

abbrev pub IsSaid : List (List ℕ) → List Page → Certificate → List ℕ → ℕ → Option FeedVerdict → Type 0
IsSaid cycle pages c bytes start None = ⊤
IsSaid cycle pages c bytes start (Some verdict) = (start_of verdict ≡ start) × IsVerdictOf cycle pages c bytes verdict

pub record IsReport (cycle : List (List ℕ)) (pages : List Page) (c : Certificate) (bytes : List ℕ) (g : Telling) (told : List ℕ) (t : Tally)
    (rest : ℕ) (verdict : Option FeedVerdict) : Type 0 where
  pub events : List Event
  pub left : List ℕ
  pub walk : IsWalk (watched cycle pages c.repeat g.start) [] bytes events left
  pub reason : IsReason g rest left events verdict
  pub said : IsSaid cycle pages c bytes g.start verdict
  pub told_is : told ≡ told_text g nothing_yet events
  pub tally_is : t ≡ tally_of nothing_yet events

-- what was written, and then the last lines, or their first `written` bytes
abbrev pub EndsWith : List (List ℕ) → List Page → Certificate → List ℕ → Telling → Option FeedVerdict → (List ℕ → List ℕ → Type 0) → Type 0
EndsWith cycle pages c bytes g verdict Out =
    (told : List ℕ) × (t : Tally) × (rest : ℕ) × IsReport cycle pages c bytes g told t rest verdict × Out told (last_text g t rest verdict)

abbrev pub ReportsFrom : List (List ℕ) → List Page → Certificate → List ℕ → Telling → Option (List ℕ) → Option (List ℕ) →
    Result (Option FeedVerdict) FollowFault → Type 0
ReportsFrom cycle pages c bytes g old new (Ok verdict) = EndsWith cycle pages c bytes g verdict (λ told last. Appends old new (told ++ last))
ReportsFrom cycle pages c bytes g old new (Err (follow.Write written)) =
    IsUnwritten (watched cycle pages c.repeat g.start) bytes g old new written
    ⊎ ((verdict : Option FeedVerdict) × EndsWith cycle pages c bytes g verdict
    (λ told last. (written < length last) × Appends old new (told ++ take written last)))
ReportsFrom cycle pages c bytes g old new (Err (follow.Feed fault)) = IsCutOff (watched cycle pages c.repeat g.start) bytes g old new

abbrev pub IsUnbegun : {T : Type 0} → Option (List ℕ) → Option (List ℕ) → Result T FollowFault → Type 0
IsUnbegun old new (Err (follow.Feed fault)) = Keeps old new
IsUnbegun old new _ = ⊥

-- a feed without packets is not judged
abbrev pub WritesUnlike : Words → Unlike → Option (List ℕ) → Option (List ℕ) → Result (Option FeedVerdict) FollowFault → Type 0
WritesUnlike words u old new (Ok v) = (v ≡ Some (verdict.Unlike u)) × Appends old new (words.verdict [] (verdict.Unlike u))
WritesUnlike words u old new (Err (follow.Write written)) =
    (written < length (words.verdict [] (verdict.Unlike u))) × Appends old new (take written (words.verdict [] (verdict.Unlike u)))
WritesUnlike words u old new (Err (follow.Feed fault)) = Keeps old new

abbrev pub ReportsFeed : Words → List (List ℕ) → List Page → Certificate → Asked → List ℕ → Option (List ℕ) → Option (List ℕ) →
    Result (Option FeedVerdict) FollowFault → Type 0
ReportsFeed words cycle pages c asked bytes old new result =
    IsUnbegun old new result
    ⊎ (((u : Unlike) × IsFoundIn cycle bytes (Some u) × WritesUnlike words u old new result)
    ⊎ ((start : ℕ) × IsFoundIn cycle bytes None × BeginsAt cycle bytes asked.start start
    × ReportsFrom cycle pages c bytes (telling_for words cycle pages c asked start) old new result))

-- how the reading has ended, if no breach was passed over
abbrev pub IsEnded : Followed → ℕ → Option Heard → Type 0
IsEnded (End rest) breaches None = 1 ≤ breaches
IsEnded (End rest) breaches (Some h) = (breaches ≡ 0) × (h ≡ heard.End rest)
IsEnded (Stopped slot e) breaches None = (e.shift ≡ None) × (e.breach ≡ None)
IsEnded (Stopped slot e) breaches (Some h) = IsEnding slot e h

abbrev pub rest_of : Followed → ℕ
rest_of (End rest) = rest
rest_of (Stopped slot e) = 0
