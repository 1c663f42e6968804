-- Laws of receivers that show a page late. Each is proved by the function of its name in `laws`.
--
--   RunsAreShown            in any stream: if each needed item comes between two slots, the page is shown soon after the second slot
--   FollowedIsWithin        in the stream of a cycle, the next header of the magazine comes within the length of the cycle
--   AcceptedIsShown         each page of an accepted cycle that is followed by another page number is seen on receivers that show it late
--   NeverFollowedIsUnshown  a page that is never followed is never shown by some such receiver
--   EachListRunsLate        such receivers have a run over every list of slots
--   SomeGapIsGreatest       if each page of a cycle is followed by another page number, some gap is the greatest one
use Rattle.std.specs.Prelude.{◌≡◌, ℕ, ◌<◌, ◌≤◌, ℤ, pos, ◌+ℤ◌, ◌≤ℤ◌, true, false, List, length, slice_get, Some}
use Rattle.ttx_packet.specs.Slots.{IsSlot, is_clean}
use Rattle.ttx_header.specs.Ids.{Id}
use Rattle.ttx_page.specs.Packets.{packet_of}
use Rattle.ttx_page.specs.Pages.{Page, IsPage, matches, needed}
use Rattle.ttx_page.specs.declared.selection.Selection.{Selection}
use Rattle.ttx_page.specs.declared.item.Item.{Item}
use Rattle.ttx_page.specs.declared.class.Class.{Class}
use Rattle.ttx_page.specs.Memories.{IsFormer}
use Rattle.ttx_page.specs.Streams.{Stream, repeated, heads_page, heads_matched}
use Rattle.ttx_page.specs.Receptions.{Received}
use Rattle.ttx_page.specs.Followers.{IsFollowed, IsFollowedByAnother, IsFollowedWithin, IsNeverFollowed}
use Rattle.ttx_receiver.specs.Laws.{IsSteadyFrom, IsBrought}
use Rattle.ttx_cycle.specs.Files.{IsCycle}
use Rattle.ttx_witness.specs.Coverage.{Certificate, IsCertificate, Accepts}
use Rattle.ttx_certify.specs.Seen.{HasView}
use Rattle.ttx_certify.specs.Laws.{ArePages}
use Rattle.ttx_late.specs.Followed.{AllAreFollowed, IsGreatestGap}
use Rattle.ttx_late.specs.LateReceivers.{LateMemory, LateRun}
use Rattle.ttx_late.specs.SeenLate.{SeenLate}

-- each header of the page from slot `begin` on is followed by one with another page number, at most `gap` slots later
abbrev pub IsFollowedFrom : Stream → Id → ℕ → ℤ → Type 0
IsFollowedFrom s page gap begin = (h : ℤ) → begin ≤ℤ h → heads_page page (packet_of (s h)) ≡ true →
    (f : IsFollowed s page h) × (f.slot ≤ℤ (h +ℤ pos gap))

-- The same as RunsAreSeen of the headline, for what is shown instead of what is gathered: it has the page's View once the next header of
-- the magazine must have come, that is, `gap` slots after the deadline.
abbrev pub RunsAreShown : Type 0
RunsAreShown =
    (s : Stream) (p : Page) (sel : Selection) (class : Class) (lines repeat : ℕ) (begin end : ℤ) →
    IsPage p → lines ≤ 32 → matches sel p.id ≡ true → IsSteadyFrom s p sel begin →
    ((item : Item) → needed p item ≡ true → IsBrought s p class lines repeat item begin end) →
    (gap : ℕ) → IsFollowedFrom s p.id gap begin →
    (former d : LateMemory) (received : List (List ℕ)) → IsFormer class former.gathered → Received s p.id repeat begin received →
    LateRun class lines sel former received d → (end +ℤ pos gap) ≤ℤ (begin +ℤ pos (length received)) → HasView p d.shown

abbrev pub FollowedIsWithin : Type 0
FollowedIsWithin =
    (cycle : List (List ℕ)) (page : Id) → 0 < length cycle → IsFollowedByAnother (repeated cycle) page →
    IsFollowedWithin (repeated cycle) page (length cycle)

-- What is accepted and followed is shown late: the second sentence of the headline.
abbrev pub AcceptedIsShown : Type 0
AcceptedIsShown =
    (cycle : List (List ℕ)) (pages : List Page) (w : Certificate) → IsCycle cycle → ArePages pages → IsCertificate w →
    Accepts cycle pages w → (n : ℕ) (p : Page) → slice_get pages n ≡ Some p →
    (gap : ℕ) → IsFollowedWithin (repeated cycle) p.id gap → SeenLate cycle pages p w gap

-- The condition is needed. If the headers that the selection matches are the page's, and none of them is followed by another page
-- number, then some receiver that shows pages late never shows anything new, whatever it receives of the page.
abbrev pub NeverFollowedIsUnshown : Type 0
NeverFollowedIsUnshown =
    (s : Stream) (page : Id) (sel : Selection) (class : Class) (lines repeat : ℕ) (begin : ℤ) → matches sel page ≡ true →
    ((j : ℤ) → begin ≤ℤ j → IsSlot (s j) × (is_clean (s j) ≡ true)) →
    ((j : ℤ) → begin ≤ℤ j → heads_matched sel (packet_of (s j)) ≡ true → heads_page page (packet_of (s j)) ≡ true) →
    IsNeverFollowed s page → (former : LateMemory) → former.gathered.storing ≡ false →
    (received : List (List ℕ)) → Received s page repeat begin received →
    (d : LateMemory) × LateRun class lines sel former received d × (d.shown ≡ former.shown)

abbrev pub EachListRunsLate : Type 0
EachListRunsLate =
    (class : Class) (lines : ℕ) (sel : Selection) (d : LateMemory) (received : List (List ℕ)) →
    (new : LateMemory) × LateRun class lines sel d received new

abbrev pub SomeGapIsGreatest : Type 0
SomeGapIsGreatest =
    (cycle : List (List ℕ)) (pages : List Page) → 0 < length cycle → AllAreFollowed cycle pages → (gap : ℕ) × IsGreatestGap cycle pages gap
