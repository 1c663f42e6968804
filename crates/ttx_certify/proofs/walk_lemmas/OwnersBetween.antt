-- The owners at the end of the first list, as the owners before the second.
use Rattle.std.proofs.Common.{◌≡◌, ℕ, zero, suc, ◌≤◌, pos, ◌+ℤ◌, ◌-ℤ◌, ◌≤ℤ◌, Bool, Option, Some, None, ap, ◌∙◌, arith}
use Rattle.std.proofs.lemmas.Int.{ints}
use Rattle.std.proofs.lemmas.Bool.{cond_both}
use Rattle.ttx_header.specs.Ids.{Id}
use Rattle.ttx_page.specs.Packets.{packet_of}
use Rattle.ttx_page.specs.Streams.{Stream, heads}
use Rattle.ttx_witness.specs.sent.ItemTransmissions.{PageOwner, tainted_by, owner_scan, owner_moved}
use Rattle.ttx_witness.specs.sent.Collected.{seen_by}
use Rattle.ttx_witness.specs.declared.sent.owners.Owner.{Owner}
use Rattle.ttx_page.specs.Pages.{Page}
use Rattle.ttx_witness.specs.Coverage.{Certificate}
use Rattle.ttx_witness.specs.sent.ItemTransmissions.{sent_scan}
use Rattle.ttx_certify.specs.declared.walks.page_facts.Facts.{Facts}
use Rattle.ttx_witness.specs.faults.FirstSlots.{SentBelow}
use Rattle.ttx_certify.specs.walks.PageFacts.{AreFacts}
use Rattle.ttx_witness.proofs.FirstFaults.{taken_same}
use Rattle.ttx_certify.specs.walks.EarlierOwners.{IsMoved}

abbrev pub FromZero : Option PageOwner → Type 0
FromZero None = Unit {0}
FromZero (Some o) = pos 0 ≤ℤ o.slot

from_tainted : (b : Bool) (o : Option PageOwner) → FromZero o → FromZero (tainted_by b o)
from_tainted b None h = h
from_tainted b (Some o) h = h

-- a scan from no owner finds owners in the list
pub scan_from_zero : (id : Id) (s : Stream) (n : ℕ) → FromZero (owner_scan id s None n)
unfolding owner_scan
scan_from_zero id s zero = tt
scan_from_zero id s (suc n) = cond_both (heads id.mag (packet_of (s (pos n)))) _ _ FromZero
    (λ e. let h : pos 0 ≤ℤ pos n = omega (arith, ints) in h)
    (λ e. from_tainted _ (owner_scan id s None n) (scan_from_zero id s n))

pub moved_seen : (i by : ℕ) (o r : Option Owner) → by ≤ 65536 → IsMoved by o r → FromZero (seen_by i o) → seen_by i r
    ≡ owner_moved (pos 0 -ℤ pos by) (seen_by i o)
moved_seen i by None r few m low = ap (seen_by i) m
moved_seen i by (Some o) r few m low =
    let e : o.slot -ℤ pos by ≡ o.slot +ℤ (pos 0 -ℤ pos by) = omega (arith, ints) in
    ap (seen_by i) (m low few) ∙ ap (λ z. seen_by i (Some (record { slot = z; page = o.page; tainted = o.tainted }))) e

pub facts_none : (w : Certificate) (p : Page) (s : Stream) (a b : Option PageOwner) (f : Facts) → AreFacts w p s a 0 f → AreFacts w p s b 0 f
unfolding sent_scan
facts_none w p s a b f h = record {
  heads = h.heads;
  first = taken_same p s (SentBelow p.id s a 0) (SentBelow p.id s b 0)
      (λ item it j. ((λ t. let lt = t.0 in absurd (omega arith)), (λ t. let lt = t.0 in absurd (omega arith)))) f.first h.first;
}
