-- The packets of slots, and the number of a row.
use Rattle.std.proofs.Common.{◌≡◌, ℕ, ◌≤◌, true, List, Option, Some, None, SomeIff, IfSome, IfNone, sym, ap, ◌∙◌, subst, arith, eqb, eqb-true}
use Rattle.std.proofs.lemmas.Bool.{and_parts, false≢true}
use Rattle.ttx_packet.specs.Slots.{Kind, kind_of}
use Rattle.ttx_page.specs.Packets.{Packet, Empty, Unreadable, Header, Row, Links, Info, Other, packet_of, packet_of_kind}
use Rattle.ttx_page.specs.Streams.{carries}
use Rattle.ttx_page.specs.declared.item.Item.TheVariants.{Row as TheRow}
use Rattle.ttx_witness.specs.faults.Comparing.{HoldsNoLinks}

pub packet_is : (slot : List ℕ) (k : Kind) → kind_of slot ≡ k → packet_of slot ≡ packet_of_kind slot k
unfolding packet_of
packet_is slot k e = ap (packet_of_kind slot) e

pub no_links_in : (slot : List ℕ) (k : Kind) → kind_of slot ≡ k → HoldsNoLinks (packet_of_kind slot k) → HoldsNoLinks (packet_of slot)
no_links_in slot k e none = subst HoldsNoLinks (sym (packet_is slot k e)) none

same_number : (m n k l : ℕ) (t u : List ℕ) → Row m k t ≡ Row n l u → k ≡ l
same_number m n k l t u e = cc

pub row_is : (o : Option ℕ) (P : Type 0) (n : ℕ) → SomeIff o P n → (packet : Packet) (mag : ℕ) (text : List ℕ) → packet ≡ Row mag n text →
    IfSome o (λ row. (m k : ℕ) (t : List ℕ) → packet ≡ Row m k t → k ≡ row)
row_is None P n s packet mag text e = tt
row_is (Some row) P n s packet mag text e = λ m k t f. same_number m mag k n t text (sym f ∙ e) ∙ sym s.1

-- a row's number is that of a row of a page, or it isn't in its range
pub row_none : (o : Option ℕ) (n : ℕ) (Within : Type 0) → SomeIff o ((1 ≤ n) × (n ≤ 24)) n → (packet : Packet) (mag : ℕ) (text : List ℕ) →
    packet ≡ Row mag n text → IfNone o (Within → (m k : ℕ) (t : List ℕ) → packet ≡ Row m k t → 1 ≤ k → k ≤ 24 → ⊥)
row_none None n Within s packet mag text e = λ w m k t f from to.
    let same : k ≡ n = same_number m mag k n t text (sym f ∙ e) in
    s (omega arith, omega arith)
row_none (Some row) n Within s packet mag text e = tt

-- the packet that carries a row
pub carried : (mag r : ℕ) (packet : Packet) → carries mag (TheRow r) packet ≡ true → (m : ℕ) × (text : List ℕ) × (packet ≡ Row m r text)
carried mag r Empty e = absurd (false≢true e)
carried mag r Unreadable e = absurd (false≢true e)
carried mag r (Header id control text) e = absurd (false≢true e)
carried mag r (Row m number text) e =
    let same : number ≡ r = eqb-true number r ((and_parts (eqb m mag) (eqb number r) e).1) in
    (m, text, ap (λ n. Row m n text) same)
carried mag r (Links m content) e = absurd (false≢true e)
carried mag r Info e = absurd (false≢true e)
carried mag r Other e = absurd (false≢true e)
