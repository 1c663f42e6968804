-- A subpage is shown from the end of its block to where the next block of the number may end.
use Rattle.std.proofs.Common.{◌≡◌, ℕ, true, ◌==◌, List, sym, subst, arith, eq-eqb}
use Rattle.std.proofs.lemmas.Int.{ints}
use Rattle.std.proofs.lemmas.Bool.{and_from}
use Rattle.ttx_page.specs.Packets.{Packet, packet_of}
use Rattle.ttx_page.specs.Pages.{Page}
use Rattle.ttx_page.specs.declared.selection.Selection.TheVariants.{AnySub}
use Rattle.ttx_page.specs.Streams.{heads, heads_page, heads_matched, IsLatestHeader}
use Rattle.ttx_late.proofs.GatheredMemories.{matched_number}
use Rattle.ttx_late.proofs.RunsAreShown.{page_matched}
use Rattle.ttx_subpages.specs.WholeBlocks.{IsSubpage}
use Rattle.ttx_subpages.specs.Laws.{StaysAreShown}
use Rattle.ttx_subpages.proofs.BlocksReceived.{another_heads}

-- a header of a subpage is one of the number
matched : (pages : List Page) (mag number : ℕ) (p : Page) → IsSubpage pages mag number p → (pkt : Packet) → heads_page p.id pkt ≡ true →
    heads_matched (AnySub mag number) pkt ≡ true
matched pages mag number p sub pkt head = page_matched (AnySub mag number) p.id
    (and_from (mag == p.id.mag) (number == p.id.page) (eq-eqb mag p.id.mag (sym sub.mag_is)) (eq-eqb number p.id.page (sym sub.number_is))) pkt head

pub stays_are_shown : StaysAreShown
stays_are_shown s pages class lines most mag number p sub seen n stays tau former d received tunes h low head f ended near =
    seen.kept tau former d received tunes h low (record {
      header = head;
      followed = f;
      ended = ended;
      none_later = λ q subq i later before headq may.
          let below = may.2 in
          let apart = stays h (matched pages mag number p sub (packet_of (s h)) head) f.slot may.0 (
            subst (λ m. IsLatestHeader s m h f.slot) sub.mag_is f.next,
            subst (λ m. heads m (packet_of (s f.slot)) ≡ true) sub.mag_is (another_heads p.id (packet_of (s f.slot)) f.another),
          )
          (record {
            begin = i;
            later = later;
            is_number = matched_number (AnySub mag number) (packet_of (s i)) (matched pages mag number q subq (packet_of (s i)) headq);
            after = may.1;
            ends = may.3;
          }) in
          omega (arith, ints);
    })
