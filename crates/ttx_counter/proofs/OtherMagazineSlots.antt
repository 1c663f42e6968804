-- A slot of another magazine has the same effect on a receiver as an empty one.
use Rattle.std.proofs.Common.{◌≡◌, ℕ, Bool, true, false, ◌&&◌, if◌then◌else◌, not, ◌==◌, replicate, refl, sym, ap, ◌∙◌, ne_eqb}
use Rattle.ttx_header.specs.Control.{c11}
use Rattle.ttx_packet.specs.Slots.{kind_of}
use Rattle.ttx_page.specs.Packets.{Packet, Empty, Unreadable, Header, Row, Links, Info, Other, packet_of}
use Rattle.ttx_page.specs.Pages.{selected_mag}
use Rattle.ttx_page.specs.declared.selection.Selection.{Selection}
use Rattle.ttx_page.specs.declared.selection.Selection.TheVariants.{Exact, AnySub}
use Rattle.ttx_page.specs.declared.class.Class.TheVariants.{Any}
use Rattle.ttx_page.specs.Memories.{Memory}
use Rattle.ttx_page.specs.Receivers.{after, with_storing, begun, erased, erases, misses}
use Rattle.ttx_page.specs.Streams.{heads_matched}
use Rattle.ttx_counter.specs.Magazines.{magazine_in}

-- a header of another magazine does not match
unmatched : (sel : Selection) (packet : Packet) → (magazine_in packet ≡ selected_mag sel → ⊥) → heads_matched sel packet ≡ false
unmatched (Exact page) (Header id control text) ne = let e : (page.mag == id.mag) ≡ false = ne_eqb page.mag id.mag (λ e. ne (sym e))
    in ap (λ b. b && (page.page == id.page) && (page.sub == id.sub)) e
unmatched (AnySub mag page) (Header id control text) ne = let e : (mag == id.mag) ≡ false = ne_eqb mag id.mag (λ e. ne (sym e))
    in ap (λ b. b && (page == id.page)) e
unmatched sel Empty ne = refl
unmatched sel Unreadable ne = refl
unmatched sel (Row mag number text) ne = refl
unmatched sel (Links mag content) ne = refl
unmatched sel Info ne = refl
unmatched sel Other ne = refl

stays : (lines : ℕ) (sel : Selection) (m : Memory) (packet : Packet) → (magazine_in packet ≡ selected_mag sel → ⊥) →
    after Any lines sel false m packet ≡ m
stays lines sel m (Header id control text) ne =
    ap (λ b. if b then begun (if erases Any false m control then erased m else m) control text
    else (if id.mag == selected_mag sel then with_storing m false else (if c11 control && false then with_storing m false else m)))
    (unmatched sel (Header id control text) ne)
    ∙ ap (λ b. if b then with_storing m false else (if c11 control && false then with_storing m false else m)) (ne_eqb id.mag (selected_mag sel) ne)
    ∙ no_end (c11 control)
  where
    no_end : (b : Bool) → (if b && false then with_storing m false else m) ≡ m
    no_end true = refl
    no_end false = refl
stays lines sel m (Row mag number text) ne = passed (mag == selected_mag sel) m.storing _ (ne_eqb mag (selected_mag sel) ne)
  where
    passed : (a b : Bool) (x : Memory) → a ≡ false → (if a && b && not (misses lines false m) then x else m) ≡ m
    passed true b x e = cc
    passed false b x e = refl
stays lines sel m (Links mag content) ne = passed (mag == selected_mag sel) m.storing _ (ne_eqb mag (selected_mag sel) ne)
  where
    passed : (a b : Bool) (x : Memory) → a ≡ false → (if a && b && not (misses lines false m) then x else m) ≡ m
    passed true b x e = cc
    passed false b x e = refl
stays lines sel m Empty ne = refl
stays lines sel m Unreadable ne = refl
stays lines sel m Info ne = refl
stays lines sel m Other ne = refl

-- 42 zero bytes
empty_is : packet_of (replicate 42 0) ≡ Empty
unfolding packet_of kind_of
empty_is = refl

pub as_empty : (lines : ℕ) (sel : Selection) (m : Memory) (packet : Packet) → (magazine_in packet ≡ selected_mag sel → ⊥) →
    after Any lines sel false m (packet_of (replicate 42 0)) ≡ after Any lines sel false m packet
as_empty lines sel m packet ne = ap (after Any lines sel false m) empty_is ∙ sym (stays lines sel m packet ne)
