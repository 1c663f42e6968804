use Rattle.std.proofs.Common.{◌≡◌, drop, map}
use Rattle.std.specs.List.{find}
use Rattle.ttx_page.specs.Views.{page_of}
use Rattle.ttx_subpages.specs.Numbers.{has_number}
use Rattle.ttx_subpages.proofs.numbers.is_first.Given as goal

abbrev pub invariant-loop-index : goal.invariant-loop-index
invariant-loop-index l = record {
  rest : find (has_number l.id.mag l.id.page) (drop l.index (map page_of l.pages)) ≡ find (has_number l.id.mag l.id.page) (map page_of l.pages);
}
