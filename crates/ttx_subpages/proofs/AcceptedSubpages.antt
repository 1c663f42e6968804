-- The subpages of an accepted cycle.
use Rattle.std.proofs.Common.{◌≡◌, ℕ, zero, suc, ℤ, pos, ◌+ℤ◌, ◌-ℤ◌, ◌<ℤ◌, ◌≤ℤ◌, true, List, refl, sym, ◌∙◌, inl, inr, arith, slice_get, Some}
use Rattle.std.proofs.lemmas.Int.{ints}
use Rattle.ttx_header.specs.Ids.{Id}
use Rattle.ttx_page.proofs.SlotDistances.{cases_ltz}
use Rattle.ttx_page.specs.Packets.{Packet, Empty, Unreadable, Header, Row, Links, Info, Other, packet_of}
use Rattle.ttx_page.specs.Pages.{Page}
use Rattle.ttx_page.specs.declared.selection.Selection.TheVariants.{Exact}
use Rattle.ttx_page.specs.declared.item.Item.TheVariants.{Links as TheLinks}
use Rattle.ttx_page.specs.Streams.{Stream, repeated, heads_page, heads_matched}
use Rattle.ttx_cycle.specs.Files.{IsCycle}
use Rattle.ttx_witness.specs.Coverage.{Certificate, IsCertificate, Accepts, limit}
use Rattle.ttx_certify.specs.Laws.{ArePages}
use Rattle.ttx_certify.proofs.AcceptedIsSeen.{StreamLaws, steady_from, brought}
use Rattle.ttx_subpages.specs.WholeBlocks.{IsSubpage, SendsUnchanged}
use Rattle.ttx_subpages.specs.Stays.{ComesAgainWithin}
use Rattle.ttx_subpages.specs.Laws.{HasHeaders, BlocksAreSeen, AcceptedAreSeen, AcceptedAreSeenAgain, BlocksAreHeld, AcceptedAreHeld}
use Rattle.ttx_late.proofs.RunsAreShown.{owner_heads}

module _ (laws : StreamLaws) (cycle : List (List ℕ)) (pages : List Page) (w : Certificate) (is_cycle : IsCycle cycle)
    (are_pages : ArePages pages) (is_certificate : IsCertificate w) (accepts : Accepts cycle pages w) where
  has_headers : (n : ℕ) (p : Page) → slice_get pages n ≡ Some p → HasHeaders (repeated cycle) p (limit w)
  has_headers n p here tau =
      elim (brought laws cycle pages w is_cycle are_pages is_certificate accepts n p here tau TheLinks refl) as
      (λ _. (h : ℤ) × (tau ≤ℤ h) × (h <ℤ (tau +ℤ pos (limit w))) × (heads_page p.id (packet_of (repeated cycle h)) ≡ true)) [
        | inl sent ↦
            let o = owner_heads (repeated cycle) p.id TheLinks sent.owner sent.first sent.owned in
            let first = o.0 in
            let low = sent.ends.0 in
            (sent.owner, sent.not_before, omega (arith, ints), o.1)
        | inr clear ↦ (clear.2.slot, clear.2.not_before, clear.2.before, clear.2.is_header)
      ]

  unchanged : (mag number : ℕ) → ((p : Page) × IsSubpage pages mag number p) → SendsUnchanged (repeated cycle) pages mag number
  unchanged mag number some =
      let steady = λ (p : Page) (sub : IsSubpage pages mag number p) (tau : ℤ).
      steady_from laws cycle pages w is_cycle are_pages is_certificate accepts sub.index p sub.listed (Exact p.id) refl tau in
      record {
        slots = λ j. (steady some.0 some.1 j).slots j (omega (arith, ints));
        clean = λ j. (steady some.0 some.1 j).clean j (omega (arith, ints));
        are_pages = λ p sub. are_pages sub.index p sub.listed;
        items = λ p sub item checked h j owned. (steady p sub h).items item checked h j (omega (arith, ints)) owned;
      }

-- a header of the subpage is matched by its own selection, and no other
exact_heads : (page : Id) (pkt : Packet) → heads_matched (Exact page) pkt ≡ heads_page page pkt
exact_heads page (Header id control text) = refl
exact_heads page (Row mag number text) = refl
exact_heads page (Links mag content) = refl
exact_heads page Empty = refl
exact_heads page Unreadable = refl
exact_heads page Info = refl
exact_heads page Other = refl

-- from a header before a slot on, one of the next comes soon after it
module _ (s : Stream) (p : Page) (n : ℕ) (again : ComesAgainWithin s (Exact p.id) n) (tau : ℤ) where
  reach : (left : ℕ) (h : ℤ) → h <ℤ tau → tau ≤ℤ (h +ℤ pos left) → heads_page p.id (packet_of (s h)) ≡ true →
      (k : ℤ) × (tau ≤ℤ k) × (k <ℤ (tau +ℤ pos n)) × (heads_page p.id (packet_of (s k)) ≡ true)
  reach zero h before far head = absurd (omega (arith, ints))
  reach (suc left) h before far head =
      let a = again h (exact_heads p.id (packet_of (s h)) ∙ head) in
      let later = a.1 in
      let near = a.2 in
      let next : heads_page p.id (packet_of (s a.0)) ≡ true = sym (exact_heads p.id (packet_of (s a.0))) ∙ a.3 in
      elim (cases_ltz a.0 tau) as (λ _. (k : ℤ) × (tau ≤ℤ k) × (k <ℤ (tau +ℤ pos n)) × (heads_page p.id (packet_of (s k)) ≡ true)) [
        | inl lt ↦ reach left a.0 lt (omega (arith, ints)) next
        | inr ge ↦ (a.0, ge, omega (arith, ints), next)
      ]

has_again : (s : Stream) (p : Page) (most n : ℕ) → HasHeaders s p most → ComesAgainWithin s (Exact p.id) n → HasHeaders s p n
has_again s p most n has again tau =
    let first = has (tau -ℤ pos most) in
    let low = first.1 in
    let high = first.2 in
    reach s p n again tau most first.0 (omega (arith, ints)) (omega (arith, ints)) first.3

pub accepted_are_seen_again : BlocksAreSeen → StreamLaws → AcceptedAreSeenAgain
accepted_are_seen_again blocks laws cycle pages w is_cycle are_pages is_certificate accepts gap followed mag number sends p sub n again =
    blocks (repeated cycle) pages w.class w.lines n gap mag number is_certificate.few_lines
    (record {
      unchanged = unchanged laws cycle pages w is_cycle are_pages is_certificate accepts mag number (p, sub);
      followed = λ q sub'. followed sub'.index q sub'.listed;
      sends = sends;
    }) p sub
    (has_again (repeated cycle) p (limit w) n (has_headers laws cycle pages w is_cycle are_pages is_certificate accepts sub.index p sub.listed) again)

pub accepted_are_seen : BlocksAreSeen → StreamLaws → AcceptedAreSeen
accepted_are_seen blocks laws cycle pages w is_cycle are_pages is_certificate accepts gap followed mag number sends p sub =
    blocks (repeated cycle) pages w.class w.lines (limit w) gap mag number is_certificate.few_lines
    (record {
      unchanged = unchanged laws cycle pages w is_cycle are_pages is_certificate accepts mag number (p, sub);
      followed = λ q sub'. followed sub'.index q sub'.listed;
      sends = sends;
    }) p sub
    (has_headers laws cycle pages w is_cycle are_pages is_certificate accepts sub.index p sub.listed)

pub accepted_are_held : BlocksAreHeld → StreamLaws → AcceptedAreHeld
accepted_are_held blocks laws cycle pages w is_cycle are_pages is_certificate accepts mag number p sub =
    blocks (repeated cycle) pages w.class w.lines mag number is_certificate.few_lines
    (unchanged laws cycle pages w is_cycle are_pages is_certificate accepts mag number (p, sub)) p sub
