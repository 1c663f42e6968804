-- Two kinds of counter-runs that need neither hits nor choices.
--
--   plain_from              the memory of a receiver that takes no choice, after slots of a stream
--   plain_counter           the counter-run from slot 0 on without hits and choices
--   PlainRunsAreCounterRuns if it ends in a wrong View
--   AbsentPagesAreWrong     if the page has no header, a receiver that is not storing keeps wrong links
--   SteadyPagesStay         if a page is sent unchanged, no plain run of it ends wrong
--   IsPlainlyRight          no plain run ends wrong
--   is_under, takes_from    whether a receiver takes something from a packet that it may show
--   IsWrongAfter, TellsWrong        the View is wrong after n slots; such a number between two others, None if there is none
--   PeriodsRepeat           if a period leaves the memory as it was, any number of periods does
use Rattle.std.specs.Prelude.{◌≡◌, ◌≢◌, ℕ, zero, suc, ◌+◌, ◌*◌, ◌≤◌, ◌<◌, ℤ, pos, ◌+ℤ◌, Bool, false, ◌&&◌, ◌||◌, ◌==◌, List, [], length, slice_get}
use Rattle.std.specs.Prelude.{Option, Some, None}
use Rattle.ttx_cycle.specs.Files.{IsCycle}
use Rattle.ttx_page.specs.Packets.{Packet, Row, Links, packet_of}
use Rattle.ttx_page.specs.Pages.{Page, IsPage, Fits, selected_mag}
use Rattle.ttx_page.specs.declared.selection.Selection.{Selection}
use Rattle.ttx_page.specs.declared.selection.Selection.TheVariants.{Exact}
use Rattle.ttx_page.specs.declared.class.Class.TheVariants.{Any}
use Rattle.ttx_page.specs.Memories.{Memory, IsMemory, memory_of_page}
use Rattle.ttx_page.specs.Receivers.{after, older}
use Rattle.ttx_page.specs.Streams.{Stream, repeated, heads_page, heads_matched}
use Rattle.ttx_page.specs.Steady.{Steady}
use Rattle.ttx_certify.specs.Seen.{HasView}
use Rattle.ttx_counter.specs.Counters.{CounterRun, AreCertificateNumbers, IsCounterRun, selection_for}

unfoldable pub plain_from : ℕ → Selection → Memory → Stream → ℤ → ℕ → Memory
plain_from lines sel m s tau zero = m
plain_from lines sel m s tau (suc n) = plain_from lines sel (after Any lines sel false (older m) (packet_of (s tau))) s (tau +ℤ pos 1) n

abbrev pub plain_counter : ℕ → Bool → Memory → ℕ → ℕ → ℕ → ℕ → CounterRun
plain_counter index any_sub former lines repeat deadline n =
    record {
      page = index;
      any_sub = any_sub;
      start = 0;
      slots = n;
      former = former;
      choices = [];
      hits = [];
      lines = lines;
      repeat = repeat;
      deadline = deadline;
    }

abbrev pub PlainRunsAreCounterRuns : Type 0
PlainRunsAreCounterRuns =
    (cycle : List (List ℕ)) (pages : List Page) (p : Page) (index : ℕ) (any_sub : Bool) (former : Memory) (lines repeat deadline n : ℕ) →
    IsCycle cycle →
    slice_get pages index ≡ Some p → Fits pages p (selection_for any_sub p.id) → IsMemory former → AreCertificateNumbers lines repeat deadline →
    deadline * lines ≤ n →
    (HasView p (plain_from lines (selection_for any_sub p.id) former (repeated cycle) (pos 0) n) → ⊥) →
    IsCounterRun cycle pages (plain_counter index any_sub former lines repeat deadline n)

abbrev pub AbsentPagesAreWrong : Type 0
AbsentPagesAreWrong =
    (s : Stream) (p : Page) (former : Memory) (lines n : ℕ) → ((j : ℤ) → heads_page p.id (packet_of (s j)) ≡ false) → former.storing ≡ false →
    former.links.six ≢ p.links.six →
    (tau : ℤ) → HasView p (plain_from lines (Exact p.id) former s tau n) → ⊥

-- a page that is sent unchanged stays in the View of a receiver that holds it at first
abbrev pub SteadyPagesStay : Type 0
SteadyPagesStay =
    (s : Stream) (pages : List Page) (p : Page) (sel : Selection) (lines n : ℕ) (tau : ℤ) → IsPage p → IsMemory (memory_of_page p) →
    Fits pages p sel → Steady s pages p →
    HasView p (plain_from lines sel (memory_of_page p) s tau n)

-- q periods of a cycle, if one leaves the memory as it was
abbrev pub PeriodsRepeat : Type 0
PeriodsRepeat =
    (cycle : List (List ℕ)) (lines : ℕ) (sel : Selection) (m : Memory) (q : ℕ) → 0 < length cycle →
    plain_from lines sel m (repeated cycle) (pos 0) (length cycle) ≡ m →
    plain_from lines sel m (repeated cycle) (pos 0) (q * length cycle) ≡ m

-- a row or an X/27/0 of the magazine
abbrev pub is_under : ℕ → Packet → Bool
is_under mag (Row m number text) = m == mag
is_under mag (Links m content) = m == mag
is_under mag _ = false

-- a header that the selection matches; or, while a page is being stored, a row or an X/27/0 of its magazine
abbrev pub takes_from : Selection → Memory → Packet → Bool
takes_from sel m packet = heads_matched sel packet || (is_under (selected_mag sel) packet && m.storing)

-- the View is wrong after n slots
abbrev pub IsWrongAfter : List (List ℕ) → Page → ℕ → Selection → Memory → ℕ → Type 0
IsWrongAfter cycle p lines sel former n = HasView p (plain_from lines sel former (repeated cycle) (pos 0) n) → ⊥

abbrev pub TellsWrong : List (List ℕ) → Page → ℕ → Selection → Memory → ℕ → ℕ → Option ℕ → Type 0
TellsWrong cycle p lines sel former low high None = (n : ℕ) → low ≤ n → n ≤ high → IsWrongAfter cycle p lines sel former n → ⊥
TellsWrong cycle p lines sel former low high (Some n) = (low ≤ n) × (n ≤ high) × IsWrongAfter cycle p lines sel former n

-- with this selection, if it fits, no plain run from the page's own memory ends wrong
abbrev pub IsPlainlyRight : List (List ℕ) → List Page → ℕ → Bool → ℕ → ℕ → Type 0
IsPlainlyRight cycle pages index any_sub lines low =
    (p : Page) → slice_get pages index ≡ Some p → Fits pages p (selection_for any_sub p.id) → (n : ℕ) → low ≤ n → n ≤ low + 2 * length cycle →
    IsWrongAfter cycle p lines (selection_for any_sub p.id) (memory_of_page p) n → ⊥
