-- What a slot may change of what a receiver holds, and how far the View kept of it is behind.
--
--   AreAlikeBut             memories that show the same except perhaps in some rows
--   touch_of, LeavesOthers          what a packet may change, and that all else is unchanged
--   StepTouches             a permitted step changes no more than its packet may
--   IdleStepsTouchNothing   and nothing if the receiver is not storing after it
--   IsRowBelow              if a row, then one that exists
--   with_touch, IsBehind    what may have changed so far; a memory that shows the same as another except for that
use Rattle.std.specs.Prelude.{◌≡◌, ℕ, ◌+◌, ◌<◌, ◌≤◌, ◌⊎◌, min, max, Bool, true, false, ◌&&◌, ◌==◌, if◌then◌else◌, List, length}
use Rattle.ttx_page.specs.Memories.{Memory, memory_row}
use Rattle.ttx_page.specs.Packets.{Packet, Header, Row, Links, packet_of}
use Rattle.ttx_page.specs.Pages.{matches, selected_mag}
use Rattle.ttx_page.specs.Receivers.{Step}
use Rattle.ttx_page.specs.declared.class.Class.{Class}
use Rattle.ttx_page.specs.declared.selection.Selection.{Selection}
use Rattle.ttx_receiver.specs.declared.touch.Touch.{Touch}
use Rattle.ttx_receiver.specs.declared.touch.Touch.TheVariants.{Nothing, Row as TheRow, Everything}
use Rattle.ttx_receiver.specs.declared.touch.Touched.{Touched}

-- two memories show the same except perhaps in a range of rows
pub record AreAlikeBut (begin end : ℕ) (m n : Memory) : Type 0 where
  pub control : m.control ≡ n.control
  pub links : m.links ≡ n.links
  pub count : length m.rows ≡ length n.rows
  pub rows : (k : ℕ) → (k < begin) ⊎ (end ≤ k) → memory_row m k ≡ memory_row n k

-- what a packet may change: everything at a header that the selection matches and at an X/27/0; a row that is stored, that row
abbrev pub touch_of : Selection → Bool → Packet → Touch
touch_of sel storing (Header id control text) = if matches sel id then Everything else Nothing
touch_of sel storing (Row mag number text) = if (mag == selected_mag sel) && storing then TheRow number else Nothing
touch_of sel storing (Links mag content) = if (mag == selected_mag sel) && storing then Everything else Nothing
touch_of sel storing _ = Nothing

-- nothing else is changed
abbrev pub LeavesOthers : Touch → Memory → Memory → Type 0
LeavesOthers Nothing m n = AreAlikeBut 0 0 m n
LeavesOthers (TheRow number) m n = AreAlikeBut number (number + 1) m n
LeavesOthers Everything m n = Unit {0}

abbrev pub StepTouches : Type 0
StepTouches =
    (class : Class) (lines : ℕ) (sel : Selection) (m : Memory) (received : List ℕ) (new : Memory) →
    Step class lines sel m received new → LeavesOthers (touch_of sel m.storing (packet_of received)) m new

abbrev pub IdleStepsTouchNothing : Type 0
IdleStepsTouchNothing =
    (class : Class) (lines : ℕ) (sel : Selection) (m : Memory) (received : List ℕ) (new : Memory) →
    Step class lines sel m received new → new.storing ≡ false → LeavesOthers Nothing m new

-- if a row, then one below `count`
abbrev pub IsRowBelow : ℕ → Touch → Type 0
IsRowBelow count (TheRow number) = number < count
IsRowBelow count _ = Unit {0}

abbrev pub with_touch : Touched → Touch → Touched
with_touch t Nothing = t
with_touch t (TheRow number) = record t { begin = min t.begin number; end = max t.end (number + 1) }
with_touch t Everything = record t { everything = true }

-- the memory kept shows the same as the memory held except perhaps in the rows touched; or everything was touched
pub record IsBehind (t : Touched) (kept held : Memory) : Type 0 where
  pub inside : t.end ≤ 25
  pub alike : t.everything ≡ false → AreAlikeBut t.begin t.end kept held
