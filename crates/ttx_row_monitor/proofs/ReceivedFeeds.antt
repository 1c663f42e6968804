-- A feed within the rule by rows is a reception by rows of each page.
use Rattle.std.proofs.Common.{◌≡◌, ℕ, pos, List, slice_get, Some, inl, inr, subst, sym}
use Rattle.ttx_page.specs.Pages.{Page}
use Rattle.ttx_page.specs.Streams.{repeated}
use Rattle.ttx_rows.specs.Laws.{AcceptedIsSeenByRows, AcceptedIsShownByRows}
use Rattle.ttx_certify.specs.Seen.{HasView}
use Rattle.ttx_rows.specs.RowReceivers.{spoils_heads}
use Rattle.ttx_rows.specs.RowReceptions.{MayArriveAs, ReceivedByRows, HeadsArrive, LateHeadsArrive}
use Rattle.ttx_rows.specs.SeenByRows.{HasViewBelowHead}
use Rattle.ttx_row_monitor.specs.RowFeeds.{refusing, Arrives}
use Rattle.ttx_row_monitor.specs.Laws.{WithinIsReceivedByRows, WithinIsSeenByRows, WithinIsShownByRows}

may_arrive : (pages : List Page) (sent slot : List ℕ) (i : ℕ) (p : Page) → slice_get pages i ≡ Some p → Arrives pages sent slot →
    MayArriveAs p.id.mag sent slot
may_arrive pages sent slot i p is (inl may) = inl may
may_arrive pages sent slot i p is (inr lost) = inr (lost.0 i p is, lost.1)

pub received : WithinIsReceivedByRows
received w feed within = λ spaces i p is. record {
  each = λ n lt. may_arrive w.pages _ _ i p is (within.each n lt);
  rows = λ r need slots len succ inside. within.rows i p is r need slots len succ inside;
  untorn = tt;
}

pub seen : AcceptedIsSeenByRows → WithinIsSeenByRows
seen accepted w feed c cycle pages certificate same accepts within long i p is spaces sel fits former m is_former run =
    subst (λ k. HasViewBelowHead p m × (HeadsArrive (spoils_heads (refusing spaces)) (repeated w.cycle) p.id k (pos w.start) feed → HasView p m)) same
    ((accepted w.cycle w.pages c cycle pages certificate accepts i p is).shown (refusing spaces) sel fits (pos w.start) former m feed is_former
    (subst (λ k. ReceivedByRows (refusing spaces) (repeated w.cycle) p k (pos w.start) feed) (sym same) (received w feed within spaces i p is)) long run)

pub shown : AcceptedIsShownByRows → WithinIsShownByRows
shown accepted w feed c cycle pages certificate same accepts within i p is gap followed long spaces sel fits former d is_former run =
    subst (λ k. HasViewBelowHead p d.shown
    × (LateHeadsArrive (spoils_heads (refusing spaces)) (repeated w.cycle) p.id k (pos w.start) feed → HasView p d.shown)) same
    ((accepted w.cycle w.pages c cycle pages certificate accepts i p is gap followed).shown (refusing spaces) sel fits (pos w.start) former d feed
    is_former (subst (λ k. ReceivedByRows (refusing spaces) (repeated w.cycle) p k (pos w.start) feed) (sym same) (received w feed within spaces i p is))
    long run)
