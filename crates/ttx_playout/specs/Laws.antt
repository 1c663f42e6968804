-- The laws of schedules. Each is proved by the function of its name in `laws`.
--
--   HandedOnIsSeen          a page is seen as long as it stays
--   SentSoFarIsSeen         the same for a head-end that sends a schedule from some slot on, up to now, whatever was sent before
--   IsLogFrom, HeadEndIsSeen        the same for all that a head-end has sent, whatever calls it made
--   AcrossIsDecided         two headers decide whether a page is followed across a change
--   EachScheduleRuns        the laws are not empty: each schedule has a reception, and each receiver a run over it
--   MoreIsSame, PastStays   one more period of the last edition, or a further edition, does not change what was sent before
--   AlwaysSeen              a page of all editions is seen by the deadline after tuning, and from then on
--   LatestIsSeen            each page of the last edition is seen by the deadline after tuning or after it began, and from then on
--   HandedOnIsSeenOnAir, TimedIsSeen        the same for what a head-end puts on the air, whatever its clock says
--   HandedOnIsShown, HandedOnIsShownOnAir   the same for receivers that show pages late, if the page is followed by another page number
--   SentSoFarIsShown, HeadEndIsShown        the same for a head-end that began at some time
--   CountedIsHandedOn       a script that counts periods keeps a schedule handed on
--   ThroughIsWhile, ThroughGoesOn           what the late verdict requires is what each page needs while it stays
use Rattle.std.specs.Prelude.{◌≡◌, ◌↔◌, true, ℕ, ◌<◌, ◌≤◌, ℤ, pos, ◌*◌, ◌+ℤ◌, ◌-ℤ◌, ◌<ℤ◌, ◌≤ℤ◌, List, [], length, slice_index_or}
use Rattle.ttx_header.specs.Ids.{Id}
use Rattle.ttx_page.specs.declared.class.Class.{Class}
use Rattle.ttx_page.specs.Pages.{Page}
use Rattle.ttx_page.specs.declared.selection.Selection.{Selection}
use Rattle.ttx_page.specs.declared.class.Class.TheVariants.{Any}
use Rattle.ttx_page.specs.Memories.{Memory, IsFormer}
use Rattle.ttx_page.specs.Receivers.{Run}
use Rattle.ttx_page.specs.Receptions.{Received}
use Rattle.ttx_page.specs.Packets.{packet_of}
use Rattle.ttx_page.specs.Streams.{Stream, heads, heads_page, IsLatestHeader}
use Rattle.ttx_page.specs.Followers.{heads_another}
use Rattle.ttx_witness.specs.Coverage.{limit}
use Rattle.ttx_certify.specs.Seen.{HasView, SomeRun}
use Rattle.ttx_send.specs.Times.{Moment}
use Rattle.ttx_send.specs.Airing.{at_time}
use Rattle.ttx_send.specs.Laws.{IsAiring}
use Rattle.ttx_proof.specs.SentVerdicts.{IsSentVerdict}
use Rattle.ttx_proof.specs.declared.sent.SentVerdict.TheVariants.{Yes}
use Rattle.ttx_playout.specs.Schedules.{Edition, Showing, sent, edition_at, first_slot, one_more, taken, AreEditions, change, IsHandedOn, Stands, StaysOn, HasBegun, IsStillOn, IsSeenWhile}
use Rattle.ttx_playout.specs.Takeovers.{IsSentFor, HasSent}
use Rattle.ttx_playout.specs.declared.state.OnAir.{OnAir}
use Rattle.ttx_late.specs.Followed.{AreFollowedWithin}
use Rattle.ttx_late.specs.LateReceivers.{LateMemory, LateRun}
use Rattle.ttx_playout.specs.LateSchedules.{IsFollowedAcross, AllAreFollowedAcross, IsFollowedThrough, IsFollowedWhile, IsShownWhile}

abbrev pub HandedOnIsSeen : Type 0
HandedOnIsSeen =
    (first : Edition) (later : List Showing) → AreEditions first later → IsHandedOn first later →
    (p : Page) (sel : Selection) (from to : ℕ) → from ≤ to → to ≤ length later → StaysOn first later p sel from to →
    IsSeenWhile (sent first later) first later p sel from to

-- From slot `start` on, up to now, the stream is what the schedule sends. Before that it may be anything: silence, or another service.
abbrev pub SentSoFarIsSeen : Type 0
SentSoFarIsSeen =
    (first : Edition) (later : List Showing) → AreEditions first later → IsHandedOn first later →
    (s : Stream) (start now : ℤ) → ((i : ℤ) → start ≤ℤ i → i <ℤ now → s i ≡ sent first later i) →
    (p : Page) (sel : Selection) (from to : ℕ) → from ≤ to → to ≤ length later → StaysOn first later p sel from to →
    (tau begin : ℤ) (former m : Memory) (received : List (List ℕ)) → start ≤ℤ begin → tau ≤ℤ begin → HasBegun later from begin →
    IsFormer Any former → Received s p.id first.certificate.repeat tau received →
    (begin +ℤ pos (limit first.certificate)) ≤ℤ (tau +ℤ pos (length received)) → (tau +ℤ pos (length received)) ≤ℤ now →
    IsStillOn later to (tau +ℤ pos (length received)) → Run Any first.certificate.lines sel former received m → HasView p m

-- the slots of the log are those of the stream from slot `start` on
abbrev pub IsLogFrom : List (List ℕ) → Stream → ℤ → Type 0
IsLogFrom log s start = (n : ℕ) → n < length log → s (start +ℤ pos n) ≡ slice_index_or log n []

-- Each page that stays in the editions that a head-end has put on the air is seen by each receiver of what the head-end has sent, a deadline
-- after tuning or after the page came.
abbrev pub HeadEndIsSeen : Type 0
HeadEndIsSeen =
    (log : List (List ℕ)) (o : OnAir) (first : Edition) (later : List Showing) → (has : HasSent log o first later) →
    (s : Stream) → IsLogFrom log s (has.next -ℤ pos (length log)) →
    (p : Page) (sel : Selection) (from to : ℕ) → from ≤ to → to ≤ length later → StaysOn first later p sel from to →
    (tau begin : ℤ) (former m : Memory) (received : List (List ℕ)) →
    (has.next -ℤ pos (length log)) ≤ℤ begin → tau ≤ℤ begin → HasBegun later from begin →
    IsFormer Any former → Received s p.id first.certificate.repeat tau received →
    (begin +ℤ pos (limit first.certificate)) ≤ℤ (tau +ℤ pos (length received)) → (tau +ℤ pos (length received)) ≤ℤ has.next →
    IsStillOn later to (tau +ℤ pos (length received)) → Run Any first.certificate.lines sel former received m → HasView p m

-- tuned at any slot tau, by each permitted receiver, and from then on
abbrev pub AlwaysSeen : Type 0
AlwaysSeen =
    (first : Edition) (later : List Showing) → AreEditions first later → IsHandedOn first later →
    (p : Page) (sel : Selection) → ((n : ℕ) → Stands (edition_at first later n) p sel) →
    (tau : ℤ) (former m : Memory) (received : List (List ℕ)) → IsFormer Any former →
    Received (sent first later) p.id first.certificate.repeat tau received → limit first.certificate ≤ length received →
    Run Any first.certificate.lines sel former received m → HasView p m

abbrev pub LatestIsSeen : Type 0
LatestIsSeen =
    (first : Edition) (later : List Showing) → AreEditions first later → IsHandedOn first later →
    (p : Page) (sel : Selection) → Stands (edition_at first later (length later)) p sel →
    (tau begin : ℤ) (former m : Memory) (received : List (List ℕ)) → tau ≤ℤ begin → HasBegun later (length later) begin → IsFormer Any former →
    Received (sent first later) p.id first.certificate.repeat tau received →
    (begin +ℤ pos (limit first.certificate)) ≤ℤ (tau +ℤ pos (length received)) →
    Run Any first.certificate.lines sel former received m → HasView p m

-- from any head-end that changes only bytes that may be received as anything
abbrev pub HandedOnIsSeenOnAir : Type 0
HandedOnIsSeenOnAir =
    (first : Edition) (later : List Showing) → AreEditions first later → IsHandedOn first later →
    (air : Stream) → IsAiring (sent first later) air →
    (p : Page) (sel : Selection) (from to : ℕ) → from ≤ to → to ≤ length later → StaysOn first later p sel from to →
    IsSeenWhile air first later p sel from to

-- what a schedule sends, with the time that a clock shows at each slot
abbrev pub timed : (ℤ → Moment) → Stream → Stream
timed clock s i = at_time (clock i) (s i)

abbrev pub TimedIsSeen : Type 0
TimedIsSeen =
    (first : Edition) (later : List Showing) → AreEditions first later → IsHandedOn first later → (clock : ℤ → Moment) →
    (p : Page) (sel : Selection) (from to : ℕ) → from ≤ to → to ≤ length later → StaysOn first later p sel from to →
    IsSeenWhile (timed clock (sent first later)) first later p sel from to

-- The same for receivers that show pages late, and for what a head-end sends from slot `start` on, up to now.
abbrev pub SentSoFarIsShown : Type 0
SentSoFarIsShown =
    (first : Edition) (later : List Showing) → AreEditions first later → IsHandedOn first later →
    (s : Stream) (start now : ℤ) → ((i : ℤ) → start ≤ℤ i → i <ℤ now → s i ≡ sent first later i) →
    (p : Page) (sel : Selection) (from to : ℕ) → from ≤ to → to ≤ length later → StaysOn first later p sel from to →
    (gap : ℕ) → IsFollowedWhile first later p.id gap from to →
    (tau begin : ℤ) (former d : LateMemory) (received : List (List ℕ)) → start ≤ℤ begin → tau ≤ℤ begin → HasBegun later from begin →
    IsFormer Any former.gathered → Received s p.id first.certificate.repeat tau received →
    ((begin +ℤ pos (limit first.certificate)) +ℤ pos gap) ≤ℤ (tau +ℤ pos (length received)) → (tau +ℤ pos (length received)) ≤ℤ now →
    IsStillOn later to (tau +ℤ pos (length received)) → LateRun Any first.certificate.lines sel former received d → HasView p d.shown

abbrev pub HeadEndIsShown : Type 0
HeadEndIsShown =
    (log : List (List ℕ)) (o : OnAir) (first : Edition) (later : List Showing) → (has : HasSent log o first later) →
    (s : Stream) → IsLogFrom log s (has.next -ℤ pos (length log)) →
    (p : Page) (sel : Selection) (from to : ℕ) → from ≤ to → to ≤ length later → StaysOn first later p sel from to →
    (gap : ℕ) → IsFollowedWhile first later p.id gap from to →
    (tau begin : ℤ) (former d : LateMemory) (received : List (List ℕ)) →
    (has.next -ℤ pos (length log)) ≤ℤ begin → tau ≤ℤ begin → HasBegun later from begin →
    IsFormer Any former.gathered → Received s p.id first.certificate.repeat tau received →
    ((begin +ℤ pos (limit first.certificate)) +ℤ pos gap) ≤ℤ (tau +ℤ pos (length received)) → (tau +ℤ pos (length received)) ≤ℤ has.next →
    IsStillOn later to (tau +ℤ pos (length received)) → LateRun Any first.certificate.lines sel former received d → HasView p d.shown

abbrev pub HandedOnIsShown : Type 0
HandedOnIsShown =
    (first : Edition) (later : List Showing) → AreEditions first later → IsHandedOn first later →
    (p : Page) (sel : Selection) (from to : ℕ) → from ≤ to → to ≤ length later → StaysOn first later p sel from to →
    (gap : ℕ) → IsFollowedWhile first later p.id gap from to → IsShownWhile (sent first later) first later p sel from to gap

abbrev pub HandedOnIsShownOnAir : Type 0
HandedOnIsShownOnAir =
    (first : Edition) (later : List Showing) → AreEditions first later → IsHandedOn first later →
    (air : Stream) → IsAiring (sent first later) air →
    (p : Page) (sel : Selection) (from to : ℕ) → from ≤ to → to ≤ length later → StaysOn first later p sel from to →
    (gap : ℕ) → IsFollowedWhile first later p.id gap from to → IsShownWhile air first later p sel from to gap

abbrev pub EachScheduleRuns : Type 0
EachScheduleRuns =
    (first : Edition) (later : List Showing) → AreEditions first later → (page : Id) (class : Class) (lines repeat : ℕ) → 1 ≤ repeat →
    (sel : Selection) (former : Memory) (tau : ℤ) (n : ℕ) → SomeRun (sent first later) page class lines repeat sel former tau n

-- so a schedule may grow while it is sent
abbrev pub MoreIsSame : Type 0
MoreIsSame = (first : Edition) (later : List Showing) (i : ℤ) → sent first (one_more later) i ≡ sent first later i

-- a further edition begins where the periods of the last one end
abbrev pub PastStays : Type 0
PastStays = (first next : Edition) (later : List Showing) (i : ℤ) → i <ℤ pos (first_slot later (length later)) →
    sent first (taken later next) i ≡ sent first later i

-- The last header of the magazine before slot 0 and the first one from slot 0 on decide: either the former is not the page's, or the latter
-- has another page number and comes in time.
abbrev pub AcrossIsDecided : Type 0
AcrossIsDecided =
    (s : Stream) (page : Id) (gap : ℕ) (last first : ℤ) → last <ℤ pos 0 → pos 0 ≤ℤ first →
    IsLatestHeader s page.mag last first → heads page.mag (packet_of (s first)) ≡ true →
    IsFollowedAcross s page gap
    ↔ (heads_page page (packet_of (s last)) ≡ true → (heads_another page (packet_of (s first)) ≡ true) × (first ≤ℤ (last +ℤ pos gap)))

-- A script that counts the periods of the cycle on the air, and changes only when the splice is accepted, keeps a schedule handed on.
abbrev pub CountedIsHandedOn : Type 0
CountedIsHandedOn =
    (first next : Edition) (later : List Showing) (periods : ℕ) → IsHandedOn first later →
    IsSentFor later (periods * length (edition_at first later (length later)).cycle) →
    IsSentVerdict (change (edition_at first later (length later)) next) periods Yes → IsHandedOn first (taken later next)

-- What `judge_late` requires of each change and of the first edition is what each page needs while it stays.
abbrev pub ThroughIsWhile : Type 0
ThroughIsWhile =
    (first : Edition) (later : List Showing) (p : Page) (sel : Selection) (from to : ℕ) → to ≤ length later → StaysOn first later p sel from to →
    (gap : ℕ) → IsFollowedThrough gap first later → IsFollowedWhile first later p.id gap from to

-- after a change that it accepts, this still holds
abbrev pub ThroughGoesOn : Type 0
ThroughGoesOn =
    (first next : Edition) (later : List Showing) (gap : ℕ) → IsFollowedThrough gap first later →
    AreFollowedWithin next.cycle next.pages gap →
    AllAreFollowedAcross (edition_at first later (length later)).cycle next.cycle (edition_at first later (length later)).pages gap →
    IsFollowedThrough gap first (taken later next)
