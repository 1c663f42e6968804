-- Receivers that show a page late, while it stays in the editions of a schedule (profile).
--
--   IsFollowedAcross        the last header of a page before a change is followed in time by one of another page number
--   AllAreFollowedAcross, IsFollowedThrough         the same for each page of a list; each page of each edition, within it and across the change
--   IsFollowedWhile         each header of one page is followed, in some editions and across the changes between them
--   IsShownWhile            which receiver shows such a page, from when on, and for how long
use Rattle.std.specs.Prelude.{◌≡◌, ℕ, suc, ◌<◌, ◌≤◌, ℤ, pos, ◌+ℤ◌, ◌<ℤ◌, ◌≤ℤ◌, true, false, List, [], ◌∷◌, length, slice_get, Some}
use Rattle.ttx_header.specs.Ids.{Id}
use Rattle.ttx_page.specs.Packets.{packet_of}
use Rattle.ttx_page.specs.Pages.{Page}
use Rattle.ttx_page.specs.declared.selection.Selection.{Selection}
use Rattle.ttx_page.specs.declared.class.Class.TheVariants.{Any}
use Rattle.ttx_page.specs.Memories.{IsFormer}
use Rattle.ttx_page.specs.Streams.{Stream, repeated, joined, heads, heads_page}
use Rattle.ttx_page.specs.Receptions.{Received}
use Rattle.ttx_page.specs.Followers.{IsFollowed, IsFollowedWithin}
use Rattle.ttx_witness.specs.Coverage.{limit}
use Rattle.ttx_certify.specs.Seen.{HasView}
use Rattle.ttx_late.specs.LateReceivers.{LateMemory, LateRun}
use Rattle.ttx_late.specs.Followed.{AreFollowedWithin}
use Rattle.ttx_playout.specs.Schedules.{Edition, Showing, edition_at, HasBegun, IsStillOn}

-- If the last header of the magazine before slot 0 is the page's, the next one has another page number and comes at most `gap` slots later.
abbrev pub IsFollowedAcross : Stream → Id → ℕ → Type 0
IsFollowedAcross s page gap = (h : ℤ) → h <ℤ pos 0 → heads_page page (packet_of (s h)) ≡ true →
    ((i : ℤ) → h <ℤ i → i <ℤ pos 0 → heads page.mag (packet_of (s i)) ≡ false) → (f : IsFollowed s page h) × (f.slot ≤ℤ (h +ℤ pos gap))

-- the same for each page of a list
abbrev pub AllAreFollowedAcross : List (List ℕ) → List (List ℕ) → List Page → ℕ → Type 0
AllAreFollowedAcross old new pages gap = (n : ℕ) (p : Page) → slice_get pages n ≡ Some p → IsFollowedAcross (joined old new) p.id gap

-- Each page of each edition is followed by another page number within `gap` slots, in the edition and across the change to the next one.
abbrev pub IsFollowedThrough : ℕ → Edition → List Showing → Type 0
IsFollowedThrough gap first [] = AreFollowedWithin first.cycle first.pages gap
IsFollowedThrough gap first (t ∷ later) =
    AreFollowedWithin first.cycle first.pages gap × AllAreFollowedAcross first.cycle t.edition.cycle first.pages gap
    × IsFollowedThrough gap t.edition later

pub record IsFollowedWhile (first : Edition) (later : List Showing) (page : Id) (gap from to : ℕ) : Type 0 where
  pub within : (n : ℕ) → from ≤ n → n ≤ to → IsFollowedWithin (repeated (edition_at first later n).cycle) page gap
  pub across : (n : ℕ) → from ≤ n → n < to →
      IsFollowedAcross (joined (edition_at first later n).cycle (edition_at first later (suc n)).cycle) page gap

-- As IsSeenWhile, for what the receiver shows instead of what it holds: it has the page's View `gap` slots later.
pub record IsShownWhile (s : Stream) (first : Edition) (later : List Showing) (p : Page) (sel : Selection) (from to gap : ℕ) : Type 0 where
  pub shown :
      (tau begin : ℤ) (former d : LateMemory) (received : List (List ℕ)) →
      tau ≤ℤ begin →
      HasBegun later from begin →
      IsFormer Any former.gathered →
      Received s p.id first.certificate.repeat tau received →
      ((begin +ℤ pos (limit first.certificate)) +ℤ pos gap) ≤ℤ (tau +ℤ pos (length received)) →
      IsStillOn later to (tau +ℤ pos (length received)) →
      LateRun Any first.certificate.lines sel former received d →
      HasView p d.shown
