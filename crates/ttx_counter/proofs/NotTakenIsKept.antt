-- A packet that a receiver does not take does not change what it shows.
use Rattle.std.proofs.Common.{◌≡◌, ℕ, Bool, true, false, ◌&&◌, ◌||◌, if◌then◌else◌, not, ◌==◌, List, refl, ap, ◌∙◌}
use Rattle.std.proofs.lemmas.Bool.{or_parts, both_ways}
use Rattle.ttx_header.specs.Control.{c11}
use Rattle.ttx_packet.specs.Slots.{Kind, kind_of}
use Rattle.ttx_page.specs.Packets.{Packet, Empty, Unreadable, Header, Row, Links, Info, Other, packet_of, packet_of_kind}
use Rattle.ttx_page.specs.Pages.{selected_mag}
use Rattle.ttx_page.specs.declared.selection.Selection.{Selection}
use Rattle.ttx_page.specs.declared.class.Class.TheVariants.{Any}
use Rattle.ttx_page.specs.Memories.{Memory}
use Rattle.ttx_page.specs.Streams.{heads_matched}
use Rattle.ttx_page.specs.Receivers.{after, older, with_storing, misses}
use Rattle.ttx_render.specs.Laws.{ContentsDecide}
use Rattle.ttx_render.specs.View.{view_of}
use Rattle.ttx_counter.specs.Sources.{is_under, takes_from}

-- two memories show the same
pub record IsAlike (m n : Memory) : Type 0 where
  pub rows : n.rows ≡ m.rows
  pub control : n.control ≡ m.control
  pub links : n.links ≡ m.links

same : (m : Memory) → IsAlike m (older m)
same m = record { rows = refl; control = refl; links = refl }

-- a failed test leaves the memory unchanged
left : (b c : Bool) (x m : Memory) → b ≡ false → IsAlike m (if b && c then x else older m)
left true c x m h = absurd (both_ways _ h refl)
left false c x m h = same m

by_kind : (lines : ℕ) (sel : Selection) (m : Memory) (packet : Packet) → heads_matched sel packet ≡ false →
    (is_under (selected_mag sel) packet && m.storing) ≡ false → IsAlike m (after Any lines sel false (older m) packet)
by_kind lines sel m (Header id control text) h k = rw h (other (id.mag == selected_mag sel) (c11 control))
  where
    other : (a b : Bool) → IsAlike m (if a then with_storing (older m) false else (if b && false then with_storing (older m) false else older m))
    other true b = record { rows = refl; control = refl; links = refl }
    other false true = same m
    other false false = same m
by_kind lines sel m (Row mag number text) h k = left ((mag == selected_mag sel) && m.storing) (not (misses lines false (older m))) _ m k
by_kind lines sel m (Links mag content) h k = left ((mag == selected_mag sel) && m.storing) (not (misses lines false (older m))) _ m k
by_kind lines sel m Empty h k = same m
by_kind lines sel m Unreadable h k = same m
by_kind lines sel m Info h k = same m
by_kind lines sel m Other h k = same m

pub untaken : (lines : ℕ) (sel : Selection) (m : Memory) (packet : Packet) → takes_from sel m packet ≡ false →
    IsAlike m (after Any lines sel false (older m) packet)
untaken lines sel m packet h = by_kind lines sel m packet ((or_parts (heads_matched sel packet) _ h).0) ((or_parts (heads_matched sel packet) _ h).1)

-- then its View is unchanged
pub unseen : ContentsDecide → (lines : ℕ) (sel : Selection) (m new : Memory) (packet : Packet) → takes_from sel m packet ≡ false → new
    ≡ after Any lines sel false (older m) packet → view_of new ≡ view_of m
unseen law lines sel m new packet h e = let a = untaken lines sel m packet h in ap view_of e ∙ law _ m a.rows a.control a.links

-- the packet of a slot, by its kind
pub packet_from : (slot : List ℕ) (k : Kind) → kind_of slot ≡ k → packet_of slot ≡ packet_of_kind slot k
unfolding packet_of
packet_from slot k e = ap (packet_of_kind slot) e
