-- What receivers that show pages late need of a change (profile), and how it is decided.
--
--   TellsFirstHeader        the first slot of a cycle that is a header of a magazine
--   EndsInTime              this header has another page number, and comes in time after the page's last header
--   IsFirstUnfollowed       the first page of the old list that is not followed across the change
--   IsUnshown               why a page of a cycle is not followed in time
--   IsFollowedChange        whether the pages are followed in time, in the next edition and across the change
--   IsLateChange            the late verdict on a change
use Rattle.std.specs.Prelude.{◌≡◌, ℕ, ◌+◌, ◌<◌, true, false, List, [], length, get_or, slice_get, Option, Some, None}
use Rattle.ttx_header.specs.Ids.{Id}
use Rattle.ttx_page.specs.Packets.{packet_of}
use Rattle.ttx_page.specs.Pages.{Page}
use Rattle.ttx_page.specs.Streams.{joined, heads}
use Rattle.ttx_page.specs.Followers.{heads_another}
use Rattle.ttx_late.specs.Followed.{AreFollowedWithin, IsGreatestGap}
use Rattle.ttx_late.specs.LateVerdicts.{IsNeverShown}
use Rattle.ttx_proof.specs.declared.verdict.SpliceVerdict.TheVariants as splice
use Rattle.ttx_playout.specs.declared.late_change.LateChange.{LateChange}
use Rattle.ttx_playout.specs.declared.late_change.LateChange.TheVariants.{Yes, No, NeverShown, TooFar, Unfollowed}
use Rattle.ttx_playout.specs.Schedules.{Edition}
use Rattle.ttx_playout.specs.Takeovers.{IsChangeVerdict}
use Rattle.ttx_playout.specs.LateSchedules.{IsFollowedAcross, AllAreFollowedAcross}

abbrev pub TellsFirstHeader : List (List ℕ) → ℕ → Option ℕ → Type 0
TellsFirstHeader cycle mag None = (i : ℕ) → i < length cycle → heads mag (packet_of (get_or cycle i [])) ≡ false
TellsFirstHeader cycle mag (Some at) = (at < length cycle) × (heads mag (packet_of (get_or cycle at [])) ≡ true)
    × ((i : ℕ) → i < at → heads mag (packet_of (get_or cycle i [])) ≡ false)

-- the page's last header is `back` slots before the end of the old cycle
abbrev pub EndsInTime : List (List ℕ) → Id → ℕ → ℕ → Type 0
EndsInTime new page back gap =
    (at : ℕ) × TellsFirstHeader new page.mag (Some at) × (heads_another page (packet_of (get_or new at [])) ≡ true) × (at + back < gap)

pub record IsFirstUnfollowed (old new : List (List ℕ)) (pages : List Page) (gap : ℕ) (page : Id) : Type 0 where
  pub index : ℕ
  pub first : Page
  pub listed : slice_get pages index ≡ Some first
  pub is : first.id ≡ page
  pub here : IsFollowedAcross (joined old new) first.id gap → ⊥
  pub none_before : (i : ℕ) (q : Page) → i < index → slice_get pages i ≡ Some q → IsFollowedAcross (joined old new) q.id gap

-- a header is not followed, or not within that many slots
abbrev pub IsUnshown : List (List ℕ) → List Page → ℕ → LateChange → Type 0
IsUnshown cycle pages gap (NeverShown page slot) = IsNeverShown cycle pages page slot
IsUnshown cycle pages gap (TooFar greatest) = IsGreatestGap cycle pages greatest × (gap < greatest)
IsUnshown cycle pages gap _ = ⊥

abbrev pub IsFollowedChange : Edition → Edition → ℕ → LateChange → Type 0
IsFollowedChange old new gap Yes = AreFollowedWithin new.cycle new.pages gap × AllAreFollowedAcross old.cycle new.cycle old.pages gap
IsFollowedChange old new gap (No reason) = ⊥
IsFollowedChange old new gap (NeverShown page slot) = IsUnshown new.cycle new.pages gap (NeverShown page slot)
IsFollowedChange old new gap (TooFar greatest) = IsUnshown new.cycle new.pages gap (TooFar greatest)
IsFollowedChange old new gap (Unfollowed page) =
    AreFollowedWithin new.cycle new.pages gap × IsFirstUnfollowed old.cycle new.cycle old.pages gap page

-- the splice's own reason, or the decision on an accepted change
abbrev pub IsLateChange : Edition → Edition → ℕ → LateChange → Type 0
IsLateChange old new gap (No reason) = IsChangeVerdict old new (splice.No reason)
IsLateChange old new gap verdict = IsChangeVerdict old new splice.Yes × IsFollowedChange old new gap verdict
