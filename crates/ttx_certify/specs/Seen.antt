-- What it means that a page is seen in the stream of a cycle, by every receiver (profile).
--
--   HasView                 a memory has the View of a page, ignoring the header clock and the receiver's own columns
--   Seen                    each receiver that is tuned to the page has its View from the deadline on
--   SomeRun                 something is received, and a receiver has a run over it
use Rattle.std.specs.Prelude.{◌≡◌, ℕ, ◌≤◌, ℤ, List, length}
use Rattle.ttx_header.specs.Ids.{Id}
use Rattle.ttx_page.specs.Pages.{Page, Fits}
use Rattle.ttx_page.specs.declared.selection.Selection.{Selection}
use Rattle.ttx_page.specs.declared.class.Class.{Class}
use Rattle.ttx_page.specs.Memories.{Memory, IsFormer, memory_of_page}
use Rattle.ttx_page.specs.Receivers.{Run}
use Rattle.ttx_page.specs.Streams.{Stream, repeated}
use Rattle.ttx_page.specs.Receptions.{Received}
use Rattle.ttx_render.specs.View.{view_of}
use Rattle.ttx_render.specs.Comparison.{SameButClock}
use Rattle.ttx_witness.specs.Coverage.{Certificate, limit}

-- equal links, and equal cells except columns 0 to 7 and 32 to 39 of row 0
abbrev pub HasView : Page → Memory → Type 0
HasView p m = SameButClock (view_of m) (view_of (memory_of_page p))

-- For each selection that fits the page, each tuning slot and each former memory, each reception within the error rule that lasts to
-- the deadline or longer, and each run of a permitted receiver: at its end the receiver has the page's View.
pub record Seen (cycle : List (List ℕ)) (pages : List Page) (p : Page) (w : Certificate) : Type 0 where
  pub shown :
      (sel : Selection) →
      Fits pages p sel →
      (tau : ℤ) (former m : Memory) (received : List (List ℕ)) →
      IsFormer w.class former →
      Received (repeated cycle) p.id w.repeat tau received →
      limit w ≤ length received →
      Run w.class w.lines sel former received m →
      HasView p m

-- n slots from slot tau on are received within the error rule, and a receiver runs over them
pub record SomeRun (s : Stream) (page : Id) (class : Class) (lines repeat : ℕ) (sel : Selection) (former : Memory) (tau : ℤ) (n : ℕ) : Type 0 where
  pub received : List (List ℕ)
  pub size : length received ≡ n
  pub permitted : Received s page repeat tau received
  pub memory : Memory
  pub run : Run class lines sel former received memory
