-- If a cycle has no other subpage of a page, a receiver that is set to the page's number does the same as one set to its id.
use Rattle.std.proofs.Common.{◌≡◌, ℕ, zero, suc, ℤ, pos, ◌+ℤ◌, Bool, true, false, ◌&&◌, ◌==◌, if◌then◌else◌, List, slice_get, Some, refl, sym, ap}
use Rattle.std.proofs.Common.{◌∙◌, subst}
use Rattle.std.proofs.lemmas.Bool.{and_parts, true_from_ne_false}
use Rattle.ttx_header.specs.Control.{c11}
use Rattle.ttx_page.specs.Packets.{Packet, Empty, Unreadable, Header, Row, Links, Info, Other, packet_of}
use Rattle.ttx_page.specs.Pages.{Page, IsAlone}
use Rattle.ttx_page.specs.declared.class.Class.TheVariants.{Any}
use Rattle.ttx_page.specs.declared.selection.Selection.TheVariants.{Exact, AnySub}
use Rattle.ttx_page.specs.Memories.{Memory, memory_of_page}
use Rattle.ttx_page.specs.Receivers.{after, older, begun, erased, erases, with_storing}
use Rattle.ttx_page.specs.Steady.{OtherSubpageAt}
use Rattle.ttx_page.specs.Streams.{Stream, repeated, heads_matched, heads_page}
use Rattle.ttx_witness.specs.faults.Faults.{Never}
use Rattle.ttx_certify.specs.Seen.{HasView}
use Rattle.ttx_counter.specs.Sources.{plain_from, IsPlainlyRight}
use Rattle.ttx_counter.proofs.CheckIsExact.{same_page}

same_bool : (a b : Bool) → (a ≡ true → b ≡ true) → (b ≡ true → a ≡ true) → a ≡ b
same_bool true b f g = sym (f refl)
same_bool false true f g = g refl
same_bool false false f g = refl

-- a header of the page is one of its number
numbered : (p : Page) (packet : Packet) → heads_page p.id packet ≡ true → heads_matched (AnySub p.id.mag p.id.page) packet ≡ true
numbered p (Header id control text) h = (and_parts ((p.id.mag == id.mag) && (p.id.page == id.page)) (p.id.sub == id.sub) h).0
numbered p Empty h = h
numbered p Unreadable h = h
numbered p (Row mag number text) h = h
numbered p (Links mag content) h = h
numbered p Info h = h
numbered p Other h = h

-- the packet is a header of the number if and only if it is one of the page
same_after : (p : Page) (lines : ℕ) (m : Memory) (packet : Packet) → heads_matched (AnySub p.id.mag p.id.page) packet ≡ heads_page p.id packet →
    after Any lines (AnySub p.id.mag p.id.page) false m packet ≡ after Any lines (Exact p.id) false m packet
same_after p lines m (Header id control text) e =
    ap (λ b. if b then begun (if erases Any false m control then erased m else m) control text
    else (if id.mag == p.id.mag then with_storing m false else (if c11 control && false then with_storing m false else m))) e
same_after p lines m Empty e = refl
same_after p lines m Unreadable e = refl
same_after p lines m (Row mag number text) e = refl
same_after p lines m (Links mag content) e = refl
same_after p lines m Info e = refl
same_after p lines m Other e = refl

module _ (s : Stream) (pages : List Page) (p : Page) (alone : IsAlone pages p) (none : Never (OtherSubpageAt s pages p)) (lines : ℕ) where
  same_heads : (j : ℤ) → heads_matched (AnySub p.id.mag p.id.page) (packet_of (s j)) ≡ heads_page p.id (packet_of (s j))
  same_heads j = same_bool _ _ (λ number. true_from_ne_false _
      (λ other. none j (record { alone = alone; number = number; other = other }))) (numbered p (packet_of (s j)))

  same_run : (m : Memory) (tau : ℤ) (n : ℕ) → plain_from lines (AnySub p.id.mag p.id.page) m s tau n ≡ plain_from lines (Exact p.id) m s tau n
  unfolding plain_from
  same_run m tau zero = refl
  same_run m tau (suc n) =
      same_run (after Any lines (AnySub p.id.mag p.id.page) false (older m) (packet_of (s tau))) (tau +ℤ pos 1) n
      ∙ ap (λ x. plain_from lines (Exact p.id) x s (tau +ℤ pos 1) n) (same_after p lines (older m) (packet_of (s tau)) (same_heads tau))

pub right_by_number : (cycle : List (List ℕ)) (pages : List Page) (p : Page) (index lines low : ℕ) → slice_get pages index ≡ Some p →
    Never (OtherSubpageAt (repeated cycle) pages p) →
    IsPlainlyRight cycle pages index false lines low → IsPlainlyRight cycle pages index true lines low
right_by_number cycle pages p index lines low here none right = λ q at fits n from to wrong.
    let same = same_page pages index p q here at in
    let never = subst (λ x. Never (OtherSubpageAt (repeated cycle) pages x)) same none in
    right q at refl n from to (λ v. wrong
    (subst (HasView q) (sym (same_run (repeated cycle) pages q fits.2 never lines (memory_of_page q) (pos 0) n)) v))
