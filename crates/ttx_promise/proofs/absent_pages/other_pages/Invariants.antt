use Rattle.std.proofs.Common.{◌≡◌, ◌++◌, drop}
use Rattle.std.specs.List.{flat_map}
use Rattle.ttx_page.specs.Views.{ids_of}
use Rattle.ttx_promise.specs.OtherPages.{other_in}
use Rattle.ttx_promise.proofs.absent_pages.other_pages.Given as goal

abbrev pub invariant-loop-slot : goal.invariant-loop-slot
invariant-loop-slot l =
    l.others.items ++ flat_map (other_in (ids_of l.pages)) (drop l.slot-index l.slot-items) ≡ flat_map (other_in (ids_of l.pages)) l.slot-items
