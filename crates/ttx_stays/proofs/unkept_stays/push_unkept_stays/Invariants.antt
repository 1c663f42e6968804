use Rattle.std.proofs.Common.{◌≡◌, ◌++◌, drop, map, string_bytes}
use Rattle.ttx_page.specs.Views.{page_of}
use Rattle.ttx_source.specs.PromiseViews.{promise_view}
use Rattle.ttx_stays.specs.UnkeptStays.{unkept_lines}
use Rattle.ttx_stays.proofs.unkept_stays.push_unkept_stays.Given as goal

abbrev pub invariant-loop-stay : goal.invariant-loop-stay
invariant-loop-stay l =
    string_bytes l.text ++ unkept_lines l.lines (map page_of l.pages) (map promise_view (drop l.stay-index l.stays))
    ≡ string_bytes l.initial.text ++ unkept_lines l.lines (map page_of l.pages) (map promise_view l.stays)
