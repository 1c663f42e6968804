-- What acceptance guarantees on the air if receivers may show pages late, and if one cycle follows another. Each law is proved by the
-- function of its name in `laws`.
--
--   SeenLateOnAir           each receiver of the air that shows pages late shows the page from so many slots after the deadline on
--   LateYesIsSeenOnAir      if `certify --late` accepts a cycle, receivers of both kinds show each page from the air
--   IsSeenFromAir, JoinedSeenOnAir  who sees which page of a splice from when on, from the air
--   SplicedIsSeenOnAir      if `splice` accepts a change, the joined stream is so seen
use Rattle.std.specs.Prelude.{◌≡◌, ℕ, ◌+◌, ◌≤◌, ℤ, pos, ◌+ℤ◌, ◌≤ℤ◌, List, length, slice_get, Some, Contains}
use Rattle.ttx_page.specs.Pages.{Page, Fits}
use Rattle.ttx_page.specs.declared.selection.Selection.{Selection}
use Rattle.ttx_page.specs.Memories.{Memory, IsFormer}
use Rattle.ttx_page.specs.Receivers.{Run}
use Rattle.ttx_page.specs.Receptions.{Received}
use Rattle.ttx_page.specs.Streams.{Stream, repeated}
use Rattle.ttx_cycle.specs.Files.{IsCycle}
use Rattle.ttx_witness.specs.Coverage.{Certificate, IsCertificate, limit}
use Rattle.ttx_certify.specs.Seen.{HasView}
use Rattle.ttx_certify.specs.Laws.{ArePages}
use Rattle.ttx_late.specs.LateReceivers.{LateMemory, LateRun}
use Rattle.ttx_late.specs.LateVerdicts.{IsLateVerdict}
use Rattle.ttx_late.specs.declared.verdict.LateVerdict.TheVariants as late
use Rattle.ttx_proof.specs.Laws.{IsSplice}
use Rattle.ttx_proof.specs.Splices.{Splice, stream, IsCommon}
use Rattle.ttx_proof.specs.Verdicts.{IsSpliceVerdict}
use Rattle.ttx_proof.specs.declared.verdict.SpliceVerdict.TheVariants as spliced
use Rattle.ttx_send.specs.Laws.{IsAiring, SeenOnAir}

-- For each selection that fits the page, each tuning slot, whatever was gathered and shown before, and each reception of the air within the
-- error rule that lasts at least `gap` slots beyond the deadline: what the receiver shows has the page's View.
pub record SeenLateOnAir (air : Stream) (pages : List Page) (p : Page) (w : Certificate) (gap : ℕ) : Type 0 where
  pub shown : (sel : Selection) → Fits pages p sel → (tau : ℤ) (former d : LateMemory) (received : List (List ℕ)) → IsFormer w.class former.gathered →
      Received air p.id w.repeat tau received → limit w + gap ≤ length received → LateRun w.class w.lines sel former received d → HasView p d.shown

abbrev pub LateYesIsSeenOnAir : Type 0
LateYesIsSeenOnAir =
    (cycle : List (List ℕ)) (air : Stream) (pages : List Page) (w : Certificate) (gap : ℕ) → IsCycle cycle → ArePages pages → IsCertificate w →
    IsLateVerdict cycle pages w (late.Yes gap) → IsAiring (repeated cycle) air → (n : ℕ) (p : Page) → slice_get pages n ≡ Some p →
    SeenOnAir air pages p w × SeenLateOnAir air pages p w gap

-- A receiver that is tuned to the air at slot tau, with any former memory, has the page's View after each reception within the error rule
-- that lasts at least a deadline beyond slot `begin`.
abbrev pub IsSeenFromAir : Splice → Stream → Page → Selection → ℤ → ℤ → Type 0
IsSeenFromAir c air p sel tau begin = let w = c.new_certificate in
    (former m : Memory) (received : List (List ℕ)) → IsFormer w.class former → Received air p.id w.repeat tau received →
    (begin +ℤ pos (limit w)) ≤ℤ (tau +ℤ pos (length received)) → Run w.class w.lines sel former received m → HasView p m

-- A common page is seen a deadline after tuning, through the change and from then on; each page of the new list a deadline after tuning or
-- after the change, whichever is later.
pub record JoinedSeenOnAir (c : Splice) (air : Stream) : Type 0 where
  pub common : (p : Page) → IsCommon c p → (sel : Selection) → Fits c.old_pages p sel → Fits c.new_pages p sel → (tau : ℤ) →
      IsSeenFromAir c air p sel tau tau
  pub new : (p : Page) → Contains c.new_pages p → (sel : Selection) → Fits c.new_pages p sel → (tau begin : ℤ) → tau ≤ℤ begin → pos 0 ≤ℤ begin →
      IsSeenFromAir c air p sel tau begin

-- whatever the clock of the head-end says, before the change and after it
abbrev pub SplicedIsSeenOnAir : Type 0
SplicedIsSeenOnAir = (c : Splice) (air : Stream) → IsSplice c → IsSpliceVerdict c spliced.Yes → IsAiring (stream c) air → JoinedSeenOnAir c air
