-- Laws of verdicts.
--
--   CertifiedIsShown        what a yes guarantees, with its numbers written out
--   VerdictsAreOne          for a cycle, pages and a certificate at most one verdict is right
--   SomeVerdictIsRight      and one is
use Rattle.std.specs.Prelude.{◌≡◌, ℕ, ◌*◌, ◌<◌, ℤ, true, List, length, slice_get, Some}
use Rattle.ttx_page.specs.Pages.{Page, Fits}
use Rattle.ttx_page.specs.declared.selection.Selection.{Selection}
use Rattle.ttx_page.specs.declared.memory.PageMemory.{PageMemory}
use Rattle.ttx_page.specs.declared.class.Class.TheVariants.{Clearing}
use Rattle.ttx_page.specs.Memories.{Memory, memory_of_page}
use Rattle.ttx_page.specs.Views.{memory_of}
use Rattle.ttx_page.specs.Receivers.{Run}
use Rattle.ttx_page.specs.Streams.{repeated}
use Rattle.ttx_page.specs.Receptions.{Received}
use Rattle.ttx_render.specs.View.{view_of}
use Rattle.ttx_render.specs.Comparison.{SameButClock}
use Rattle.ttx_cycle.specs.Files.{IsCycle}
use Rattle.ttx_witness.specs.Coverage.{Certificate, IsCertificate, Accepts}
use Rattle.ttx_certify.specs.Laws.{ArePages}
use Rattle.ttx_certify.specs.Verdicts.{IsVerdict}
use Rattle.ttx_certify.specs.declared.verdict.Verdict.{Verdict}

-- A cycle is accepted with a deadline of D fields of L slots. A receiver set to a page of the list, by a selection that fits it, begins
-- at any slot with any memory of the program (a fresh one if receivers surely clear), and receives exactly D times L slots within the
-- error rule. Then it has the page's View, ignoring the header clock.
abbrev pub CertifiedIsShown : Type 0
CertifiedIsShown =
    (cycle : List (List ℕ)) (pages : List Page) (w : Certificate) → IsCycle cycle → ArePages pages → IsCertificate w → Accepts cycle pages w →
    (n : ℕ) (p : Page) → slice_get pages n ≡ Some p → (sel : Selection) → Fits pages p sel →
    (tau : ℤ) (received : List (List ℕ)) → Received (repeated cycle) p.id w.repeat tau received → length received ≡ w.deadline * w.lines →
    (former : PageMemory) → (w.class ≡ Clearing → (memory_of former).fresh ≡ true) →
    (m : Memory) → Run w.class w.lines sel (memory_of former) received m → SameButClock (view_of m) (view_of (memory_of_page p))

-- two right verdicts on the same cycle, pages and certificate are equal
abbrev pub VerdictsAreOne : Type 0
VerdictsAreOne = (cycle : List (List ℕ)) (pages : List Page) (w : Certificate) → 0 < length cycle → IsCertificate w → (a b : Verdict) →
    IsVerdict cycle pages w a → IsVerdict cycle pages w b → a ≡ b

-- each cycle, pages and certificate have a right verdict
abbrev pub SomeVerdictIsRight : Type 0
SomeVerdictIsRight = (cycle : List (List ℕ)) (pages : List Page) (w : Certificate) → IsCycle cycle → IsCertificate w →
    (verdict : Verdict) × IsVerdict cycle pages w verdict
