-- A feed that is followed, and what is written of it while it comes (profile).
--
--   telling_of              what is written of it, in these words
--   WritesEvent             what goes out for one slot
--   CountsFollowed, CountsWrites    a fault of the feed or of the writer is returned if one failed, and only then
--   IsEnd                   what is left at the end of the feed
--   IsClean                 a feed of which no slot breaks the rule
--   Follows                 what is read and written for each answer
use Rattle.std.specs.Prelude.{◌≡◌, ◌⊎◌, ℕ, ◌-◌, ◌^◌, ◌<◌, ◌≤◌, true, false, List, [], ◌∷◌, ◌++◌, length, take, map, Option, Result, Ok, Err}
use Rattle.std.specs.Io.KnownBytes.{Appends, Keeps}
use Rattle.ttx_page.specs.Views.{page_of}
use Rattle.ttx_cycle.specs.Counts.{HasRisen}
use Rattle.ttx_cycle.specs.Files.{file_of}
use Rattle.ttx_monitor.specs.Watching.{Watched, IsWithin}
use Rattle.ttx_monitor.specs.Standing.{Stands}
use Rattle.ttx_monitor.specs.Events.{IsWalk}
use Rattle.ttx_monitor.specs.Feeds.{IsEnding, HearsAll}
use Rattle.ttx_monitor.specs.Tallies.{nothing_yet, tally_of, is_bad}
use Rattle.ttx_monitor.specs.Wordings.{Words, Telling, event_text, told_text}
use Rattle.ttx_monitor.specs.declared.event.Event.{Event}
use Rattle.ttx_monitor.specs.declared.event_texts.How.{How}
use Rattle.ttx_monitor.specs.declared.live_feed.Following.{Following}
use Rattle.ttx_monitor.specs.declared.live_feed.FollowFault.{FollowFault}
use Rattle.ttx_monitor.specs.declared.live_feed.FollowFault.TheVariants as follow
use Rattle.ttx_monitor.specs.declared.live_feed.Followed.{Followed}
use Rattle.ttx_monitor.specs.declared.live_feed.Followed.TheVariants.{End, Stopped}
use Rattle.ttx_monitor.specs.declared.feed_verdict.Heard.{Heard}
use Rattle.ttx_files.specs.declared.faults.FeedFault.TheVariants.{Read, NoMemory}

abbrev pub telling_of : Words → How → Telling
telling_of words h = record {
  words = words;
  all = h.all;
  pages = map page_of h.pages.now;
  count = h.count;
  start = h.start;
  lines = h.lines;
  span = h.span;
}

abbrev pub WritesEvent : {T : Type 0} → List ℕ → Option (List ℕ) → Option (List ℕ) → Result T FollowFault → Type 0
WritesEvent text old new (Ok _) = Appends old new text
WritesEvent text old new (Err (follow.Write written)) = (written < length text) × Appends old new (take written text)
WritesEvent text old new (Err (follow.Feed Read)) = ⊥
WritesEvent text old new (Err (follow.Feed NoMemory)) = Keeps old new

abbrev pub CountsFollowed : {T : Type 0} → Result T FollowFault → ℕ → ℕ → Type 0
CountsFollowed (Err (follow.Feed Read)) old new = HasRisen old new
CountsFollowed _ old new = new ≡ old

abbrev pub CountsWrites : {T : Type 0} → Result T FollowFault → ℕ → ℕ → Type 0
CountsWrites (Err (follow.Write written)) old new = HasRisen old new
CountsWrites _ old new = new ≡ old

-- less than the bytes of a slot (no feed of 2 ^ 64 - 1 slots has an end)
abbrev pub IsEnd : ℕ → List ℕ → List Event → Type 0
IsEnd rest left events = ((rest < 42) × (length left ≡ rest)) ⊎ (2 ^ 64 - 1 ≤ length events)

-- if no slot breaks the rule, these are the slots of the feed
pub record IsClean (w : Watched) (bytes left : List ℕ) (events : List Event) (f : Following) : Type 0 where
  pub slots : List (List ℕ)
  pub size : length slots ≡ length events
  pub same : bytes ≡ file_of slots ++ left
  pub stands : Stands f.monitor w slots
  pub within : IsWithin w slots

pub record IsFollowed (w : Watched) (bytes : List ℕ) (g : Telling) (f : Following) (old new : Option (List ℕ)) (rest : ℕ) : Type 0 where
  pub events : List Event
  pub left : List ℕ
  pub walk : IsWalk w [] bytes events left
  pub ended : IsEnd rest left events
  pub tally : f.tally ≡ tally_of nothing_yet events
  pub out : Appends old new (told_text g nothing_yet events)
  pub none : g.all ≡ false → f.tally.breaches ≡ 0
  pub clean : f.tally.breaches ≡ 0 → IsClean w bytes left events f

pub record IsStopped (w : Watched) (bytes : List ℕ) (g : Telling) (f : Following) (old new : Option (List ℕ)) (slot : ℕ) (e : Event) : Type 0 where
  pub events : List Event
  pub left : List ℕ
  pub walk : IsWalk w [] bytes (events ++ e ∷ []) left
  pub out : Appends old new (told_text g nothing_yet (events ++ e ∷ []))
  pub one : g.all ≡ false
  pub bad : is_bad e ≡ true
  pub first : (tally_of nothing_yet events).breaches ≡ 0
  pub slot_is : slot ≡ length events
  pub tally : f.tally ≡ tally_of nothing_yet (events ++ e ∷ [])
  pub heard : (heard : Heard) → IsEnding slot e heard → HearsAll w bytes f.monitor heard

pub record IsUnwritten (w : Watched) (bytes : List ℕ) (g : Telling) (old new : Option (List ℕ)) (written : ℕ) : Type 0 where
  pub events : List Event
  pub event : Event
  pub left : List ℕ
  pub walk : IsWalk w [] bytes (events ++ event ∷ []) left
  pub few : written < length (event_text g (tally_of nothing_yet events) event)
  pub out : Appends old new (told_text g nothing_yet events ++ take written (event_text g (tally_of nothing_yet events) event))

pub record IsCutOff (w : Watched) (bytes : List ℕ) (g : Telling) (old new : Option (List ℕ)) : Type 0 where
  pub events : List Event
  pub left : List ℕ
  pub walk : IsWalk w [] bytes events left
  pub out : Appends old new (told_text g nothing_yet events)

abbrev pub Follows : Watched → List ℕ → Telling → Following → Option (List ℕ) → Option (List ℕ) → Result Followed FollowFault → Type 0
Follows w bytes g f old new (Ok (End rest)) = IsFollowed w bytes g f old new rest
Follows w bytes g f old new (Ok (Stopped slot e)) = IsStopped w bytes g f old new slot e
Follows w bytes g f old new (Err (follow.Write written)) = IsUnwritten w bytes g old new written
Follows w bytes g f old new (Err (follow.Feed fault)) = IsCutOff w bytes g old new
