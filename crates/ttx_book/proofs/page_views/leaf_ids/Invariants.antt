use Rattle.std.proofs.Common.{◌≡◌, ◌++◌, drop, filter_map}
use Rattle.ttx_book.specs.Hearing.{leaf_id}
use Rattle.ttx_book.proofs.page_views.leaf_ids.Given as goal

abbrev pub invariant-loop-header : goal.invariant-loop-header
invariant-loop-header l = l.ids.items ++ filter_map leaf_id (drop l.header-index l.headers) ≡ filter_map leaf_id l.headers
