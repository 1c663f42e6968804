-- Counter-runs: receptions that keep every rule, after which a receiver does not have the page's View (profile).
--
--   CounterRun, counter_run_of      the parts of a counter-run, and those of a `Counter`
--   selection_for           what the receiver is set to
--   flipped                 a byte with one bit wrong
--   IsHitIn, IsHitList      what is received of a slot, and of slots of a stream, if these bits are hit
--   IsHit, AreHits          bits that may be hit
--   IsCounterRun            a counter-run of a cycle and pages
use Rattle.std.specs.Prelude.{◌≡◌, ℕ, ◌-◌, ◌*◌, ◌^◌, ◌<◌, ◌≤◌, pos, ◌+ℤ◌, bit_xor, Bool, true, false, List, [], length, slice_get, slice_index}
use Rattle.std.specs.Prelude.{slice_index_or, All, Contains, Some}
use Rattle.std.specs.List.{AllPairs}
use Rattle.ttx_packet.specs.Slots.{is_empty}
use Rattle.ttx_header.specs.Ids.{Id}
use Rattle.ttx_page.specs.Pages.{Page, Fits}
use Rattle.ttx_page.specs.declared.selection.Selection.{Selection}
use Rattle.ttx_page.specs.declared.selection.Selection.TheVariants.{Exact, AnySub}
use Rattle.ttx_page.specs.declared.class.Class.TheVariants.{Any}
use Rattle.ttx_page.specs.Memories.{Memory, IsMemory}
use Rattle.ttx_page.specs.Views.{memory_of}
use Rattle.ttx_page.specs.Receivers.{scripted}
use Rattle.ttx_page.specs.Receptions.{Received}
use Rattle.ttx_page.specs.Streams.{Stream, repeated}
use Rattle.ttx_certify.specs.Seen.{HasView}
pub use Rattle.ttx_counter.specs.declared.counter.Hit.{Hit}
use Rattle.ttx_counter.specs.declared.counter.Counter.{Counter}

pub record CounterRun : Type 0 where
  pub page : ℕ
  pub any_sub : Bool
  pub start : ℕ
  pub slots : ℕ
  pub former : Memory
  pub choices : List Bool
  pub hits : List Hit
  pub lines : ℕ
  pub repeat : ℕ
  pub deadline : ℕ

abbrev pub counter_run_of : Counter → CounterRun
counter_run_of c = record {
  page = c.page;
  any_sub = c.any_sub;
  start = c.start;
  slots = c.slots;
  former = memory_of c.former;
  choices = c.choices.items;
  hits = c.hits.items;
  lines = c.lines;
  repeat = c.repeat;
  deadline = c.deadline;
}

-- the page's number (any subpage), or its id
abbrev pub selection_for : Bool → Id → Selection
selection_for true id = AnySub id.mag id.page
selection_for false id = Exact id

-- a byte with one bit wrong; bits count from 1
abbrev pub flipped : ℕ → ℕ → ℕ
flipped bit byte = bit_xor byte (2 ^ (bit - 1))

-- slot n is received with its hit bits flipped, and otherwise as it was sent
pub record IsHitIn (hits : List Hit) (n : ℕ) (sent received : List ℕ) : Type 0 where
  pub size : length received ≡ length sent
  pub hit : (h : Hit) → Contains hits h → h.index ≡ n → slice_index received h.byte ≡ flipped h.bit (slice_index sent h.byte)
  pub other : (x : ℕ) → ((h : Hit) → Contains hits h → h.index ≡ n → h.byte ≡ x → ⊥) → slice_index received x ≡ slice_index sent x

-- `slots` slots of the stream from slot start on
pub record IsHitList (s : Stream) (start slots : ℕ) (hits : List Hit) (received : List (List ℕ)) : Type 0 where
  pub count : length received ≡ slots
  pub each : (n : ℕ) → n < slots → IsHitIn hits n (s (pos start +ℤ pos n)) (slice_index_or received n [])

-- a bit of a slot of the run that is not empty
pub record IsHit (s : Stream) (start slots : ℕ) (h : Hit) : Type 0 where
  pub index : h.index < slots
  pub byte : h.byte < 42
  pub some : 1 ≤ h.bit
  pub bit : h.bit ≤ 8
  pub sent : is_empty (s (pos start +ℤ pos h.index)) ≡ false

-- and no byte is hit twice
pub record AreHits (s : Stream) (start slots : ℕ) (hits : List Hit) : Type 0 where
  pub each : All (IsHit s start slots) hits
  pub once : AllPairs (λ a b. a.index ≡ b.index → a.byte ≡ b.byte → ⊥) hits

-- lines, repeat count and deadline of a certificate
pub record AreCertificateNumbers (lines repeat deadline : ℕ) : Type 0 where
  pub some_lines : 1 ≤ lines
  pub few_lines : lines ≤ 32
  pub some_repeats : 1 ≤ repeat
  pub few_repeats : repeat ≤ 8
  pub some_fields : 1 ≤ deadline
  pub few_fields : deadline ≤ 1000000

-- What is received of the cycle from the start on, with the hit bits wrong, is within the error rule and lasts to the deadline or
-- longer. A receiver that is set to the page and takes its choices from the script does not have the page's View at the end.
pub record IsCounterRun (cycle : List (List ℕ)) (pages : List Page) (c : CounterRun) : Type 0 where
  pub page : Page
  pub here : slice_get pages c.page ≡ Some page
  pub fits : Fits pages page (selection_for c.any_sub page.id)
  pub numbers : AreCertificateNumbers c.lines c.repeat c.deadline
  pub lasts : c.deadline * c.lines ≤ c.slots
  pub hits : AreHits (repeated cycle) c.start c.slots c.hits
  pub former : IsMemory c.former
  pub received : List (List ℕ)
  pub with_hits : IsHitList (repeated cycle) c.start c.slots c.hits received
  pub permitted : Received (repeated cycle) page.id c.repeat (pos c.start) received
  pub wrong : HasView page (scripted Any c.lines (selection_for c.any_sub page.id) c.choices c.former received) → ⊥
