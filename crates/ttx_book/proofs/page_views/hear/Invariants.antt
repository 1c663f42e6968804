use Rattle.std.proofs.Common.{◌≡◌, ◌<◌, ◌-◌, drop, get_or, length}
use Rattle.ttx_book.specs.Hearing.{hears}
use Rattle.ttx_book.proofs.page_views.hear.Given as goal

abbrev pub invariant-loop-at : goal.invariant-loop-at
invariant-loop-at l = record {
  rest : hears l.key l.receiver (drop l.at l.slots) (drop l.at l.pages) ≡ hears l.key l.initial.receiver l.slots l.pages;
  own : l.at < length l.pages → get_or l.pages l.at 0 ≡ l.key;
}

abbrev pub decreases-loop-at : goal.decreases-loop-at
decreases-loop-at l = length l.slots - l.at
