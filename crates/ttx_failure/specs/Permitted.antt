-- The choices that are named are permitted.
--
--   IsPermitted             a choice at a packet, so many slots behind the latest header of the page
--   ArePermitted            those that a receiver with a script takes over slots
use Rattle.std.specs.Prelude.{◌≡◌, ◌⊎◌, ℕ, ◌-◌, ◌≤◌, true, false, ◌==◌, List, [], slice_index_or}
use Rattle.std.specs.List.{AllByRecursion}
use Rattle.ttx_counter.specs.Following.{taken_from}
use Rattle.ttx_header.specs.Control.{c11}
use Rattle.ttx_page.specs.Packets.{Packet, Header, Row, Links, packet_of}
use Rattle.ttx_page.specs.Pages.{selected_mag, matches}
use Rattle.ttx_page.specs.declared.selection.Selection.{Selection}
use Rattle.ttx_receiver.specs.Tuning.{Script}

-- clearing at a header of the page; taking a header of another magazine with C11 for its end; missing a row or links of its magazine up to
-- a field behind its header
abbrev pub IsPermitted : ℕ → Selection → ℕ → Packet → Type 0
IsPermitted lines sel age (Header id control text) = (matches sel id ≡ true) ⊎ (((id.mag == selected_mag sel) ≡ false) × (c11 control ≡ true))
IsPermitted lines sel age (Row mag number text) = (mag ≡ selected_mag sel) × (age ≤ lines)
IsPermitted lines sel age (Links mag content) = (mag ≡ selected_mag sel) × (age ≤ lines)
IsPermitted lines sel age _ = ⊥

-- slot n of the run is the first of those that are received
abbrev pub ArePermitted : Type 0
ArePermitted = (r : Script) (n : ℕ) (received : List (List ℕ)) → AllByRecursion
    (λ t. (n ≤ t.index) × IsPermitted r.tuned.lines r.tuned.selection t.age (packet_of (slice_index_or received (t.index - n) [])))
    (taken_from r n received)
