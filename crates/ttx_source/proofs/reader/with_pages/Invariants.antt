use Rattle.std.proofs.Common.{◌≡◌, drop, length}
use Rattle.toml.specs.View.{items_view}
use Rattle.ttx_source.specs.Services.{with_pages}
use Rattle.ttx_source.proofs.reader.with_pages.Given as goal

-- the service so far, and then the pages of the values left
abbrev pub invariant-loop-index : goal.invariant-loop-index
invariant-loop-index l = record {
  count : length l.service.pages ≡ l.index;
  so_far : with_pages l.fn.service (items_view l.values) ≡ with_pages l.service (items_view (drop l.index l.values));
}
