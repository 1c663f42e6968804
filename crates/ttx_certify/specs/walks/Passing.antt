-- What two passes keep of the two lists of slots they are given. Slots are counted from 0.
--
--   ids, walk_pages, walk_certificate   the pages and the certificate of a walk
--   second_pages, second_certificate    those of a walk in its second pass
--   ended_pages, ended_certificate      those of a walk that has ended
--   AreReady                what a walk keeps that depends only on its pages
--   AreSeen                 the owners after a list, as the pages see them
--   AreTracked, AreNoted, AreTold, AreKept  tracks, facts and headers of other subpages after a list, given the owners before it
--   Starts                  a walk after a first list
--   IsPassed, Stands        a walk after a second list, which follows a first one
--   IsBorneOut              a second list that bears out what a first one left
--   IsEnded                 a walk that has ended with the owners with which its second pass began
--   EndsAs                  the answer at the end of the second list
use Rattle.std.specs.Prelude.{◌≡◌, ◌↔◌, ℕ, Vec, ◌<◌, ◌≤◌, false, List, [], length, map, get_or, slice_get, slice_index_or, Option, Some, None, IsTrue}
use Rattle.std.specs.List.{All}
use Rattle.std.specs.declared.alloc.Global.{Global}
use Rattle.ttx_packet.specs.Slots.{IsSlot, is_clean}
use Rattle.ttx_header.specs.Ids.{Id, IsId}
use Rattle.ttx_page.specs.Pages.{Page}
use Rattle.ttx_page.specs.Views.{page_of, ids_of}
use Rattle.ttx_page.specs.Streams.{repeated}
use Rattle.ttx_page.specs.declared.item.Item.{Item}
use Rattle.ttx_cycle.specs.Files.{IsCycle}
use Rattle.ttx_certificate.specs.Certificates.{certificate_of}
use Rattle.ttx_witness.specs.sent.Collected.{IsIndex, AreApart, IsItem, owner_for}
use Rattle.ttx_witness.specs.Coverage.{Certificate}
use Rattle.ttx_certify.specs.walks.PageFacts.{FirstBelow, AreFacts}
use Rattle.ttx_witness.specs.Elements.{HoldsAt}
use Rattle.ttx_certify.specs.walks.PackedTracks.{IsTrackedAt}
use Rattle.ttx_witness.specs.faults.OtherSubpages as table
use Rattle.ttx_witness.specs.faults.OtherSubpages.{AreAllSubcodes, HeadsOtherAt, TellsBelow}
use Rattle.ttx_witness.specs.sent.ItemTransmissions.{PageOwner, owner_scan, sent_scan, entry_owner}
use Rattle.ttx_witness.specs.declared.sent.owners.Owner.{Owner}
use Rattle.ttx_certify.specs.declared.walks.page_facts.Facts.{Facts}
use Rattle.ttx_certify.specs.declared.walks.packed_track.PackedTrack.{PackedTrack}
use Rattle.ttx_certify.specs.declared.walks.other_headers.OtherHeaders.{OtherHeaders}
use Rattle.ttx_certify.specs.declared.walks.passes.Walk.{Walk}
use Rattle.ttx_certify.specs.declared.walks.passes.Second.{Second}
use Rattle.ttx_certify.specs.declared.walks.page_results.EndedWalk.{EndedWalk}

abbrev pub walk_pages : Walk → List Page
walk_pages walk = map page_of walk.pages.now

abbrev pub ids : Walk → List Id
ids walk = ids_of walk.pages.now

abbrev pub walk_certificate : Walk → Certificate
walk_certificate walk = certificate_of walk.certificate.now

abbrev pub second_pages : Second → List Page
second_pages second = walk_pages second.walk

abbrev pub second_certificate : Second → Certificate
second_certificate second = walk_certificate second.walk

abbrev pub ended_pages : EndedWalk → List Page
ended_pages ended = map page_of ended.pages.now

abbrev pub ended_certificate : EndedWalk → Certificate
ended_certificate ended = certificate_of ended.certificate.now

pub record AreReady (walk : Walk) : Type 0 where
  pub index : IsIndex (ids walk) walk.index
  pub subcodes : AreAllSubcodes (walk_pages walk) (length walk.pages.now) walk.others.subcodes.items

-- the owners after the list y, given the owners before it
pub record AreSeen (walk : Walk) (entry : Id → Option PageOwner) (y : List (List ℕ)) (owners : List (Option Owner)) : Type 0 where
  pub each : (i : ℕ) (id : Id) → slice_get (ids walk) i ≡ Some id → IsId id → owner_for owners i id ≡ owner_scan id (repeated y) (entry id) (length y)
  pub apart : AreApart (ids walk) owners

-- the track of each item of each page
abbrev pub AreTracked : List Page → Certificate → (Id → Option PageOwner) → List (List ℕ) → List (Vec PackedTrack Global) → Type 0
AreTracked pages w entry y tracks = (i : ℕ) (p : Page) (item : Item) → slice_get pages i ≡ Some p → IsItem item →
    IsTrackedAt w p item (sent_scan p.id w.lines item (repeated y) (entry p.id) (length y)) i tracks

-- the facts of each page
abbrev pub AreNoted : List Page → Certificate → (Id → Option PageOwner) → List (List ℕ) → List Facts → Type 0
AreNoted pages w entry y all = (i : ℕ) (p : Page) → slice_get pages i ≡ Some p →
    HoldsAt Facts all i (AreFacts w p (repeated y) (entry p.id) (length y))

-- the first header of another subpage, of each page number
abbrev pub AreTold : List (List ℕ) → OtherHeaders → Type 0
AreTold y others = (mag number : ℕ) → 1 ≤ mag → mag ≤ 8 → number < 256 →
    TellsBelow (HeadsOtherAt others.subcodes.items (repeated y) mag number) (length y) (get_or others.first.items (table.place mag number) None)

pub record AreKept (walk : Walk) (entry : Id → Option PageOwner) (y : List (List ℕ)) : Type 0 where
  pub tracks : AreTracked (walk_pages walk) (walk_certificate walk) entry y walk.tracks.each.items
  pub facts : AreNoted (walk_pages walk) (walk_certificate walk) entry y walk.facts.items
  pub others : AreTold y walk.others

-- Of the first list a walk keeps its length and the owners at its end.
pub record Starts (walk : Walk) (x : List (List ℕ)) : Type 0 where
  pub ready : AreReady walk
  pub few : length x ≤ 65536
  pub count : walk.count ≡ length x
  pub owners : AreSeen walk (λ id. None) x walk.owners
  pub nothing : AreKept walk (λ id. None) []

-- Of the second list it keeps tracks, facts, and its owners, as if the owners before it were those at the end of the first.
pub record IsPassed (second : Second) (x y : List (List ℕ)) : Type 0 where
  pub count : second.walk.count ≡ length y
  pub owners : AreSeen second.walk (entry_owner x) y second.walk.owners
  pub kept : AreKept second.walk (entry_owner x) y
  pub slots : All IsSlot y
  pub bad : FirstBelow (λ j. is_clean (slice_index_or y j []) ≡ false) (length y) second.bad

pub record Stands (second : Second) (x y : List (List ℕ)) : Type 0 where
  pub ready : AreReady second.walk
  pub few : length x ≤ 65536
  pub entry : (i : ℕ) (id : Id) → slice_get (ids second.walk) i ≡ Some id → IsId id → owner_for second.entry i id ≡ entry_owner x id
  pub over : IsTrue second.over ↔ (65536 < length y)
  pub passed : length y ≤ 65536 → IsPassed second x y

-- The owners before the second list were the list's own.
pub record IsEnded (ended : EndedWalk) (y : List (List ℕ)) : Type 0 where
  pub cycle : IsCycle y
  pub bad : FirstBelow (λ j. is_clean (slice_index_or y j []) ≡ false) (length y) ended.bad
  pub subcodes : AreAllSubcodes (ended_pages ended) (length ended.pages.now) ended.others.subcodes.items
  pub period : ended.period ≡ length y
  pub tracks : AreTracked (ended_pages ended) (ended_certificate ended) (entry_owner y) y ended.tracks.each.items
  pub facts : AreNoted (ended_pages ended) (ended_certificate ended) (entry_owner y) y ended.facts.items
  pub others : AreTold y ended.others

-- The second list is not empty, has at most 65,536 slots, and before its slot 0 the magazine of each page has the owner that it has before
-- slot 0 of the first one.
pub record IsBorneOut (x y : List (List ℕ)) (pages : List Page) : Type 0 where
  pub some : 1 ≤ length y
  pub few : length y ≤ 65536
  pub owners : (i : ℕ) (p : Page) → slice_get pages i ≡ Some p → entry_owner x p.id ≡ entry_owner y p.id

-- None exactly if the second list does not bear out the first. For two equal lists that is so only if they are empty.
abbrev pub EndsAs : List (List ℕ) → List (List ℕ) → Second → Option EndedWalk → Type 0
EndsAs x y second None = (IsBorneOut x y (second_pages second) → ⊥) × (x ≡ y → y ≡ [])
EndsAs x y second (Some ended) = IsBorneOut x y (second_pages second) × IsEnded ended y × (ended_pages ended ≡ second_pages second)
    × (ended_certificate ended ≡ second_certificate second)
