use Rattle.std.proofs.Common.{map, subst}
use Rattle.ttx_page.specs.Views.{page_of}
use Rattle.ttx_monitor.specs.Places.{IsPlaced}
use Rattle.ttx_row_monitor.proofs.LostPackets.{page_here}
use Rattle.ttx_row_monitor.proofs.PlacedRows.{flag_of_none, flag_of_page}
use Rattle.ttx_row_monitor.proofs.flags.is_needed.Goals as goal

pub returns-in_default : goal.returns-in_default
returns-in_default c = λ cycle j placed.
    flag_of_none c.rows_are_numbered.ensures cycle (map page_of c.args.pages.now) j
    (subst (IsPlaced cycle (map page_of c.args.pages.now) j) c.in_default.is placed)

pub returns-in-Some-get : goal.returns-in-Some-get
returns-in-Some-get c = λ cycle j placed.
    let look = c.in-Some-get.ensures.lookup in
    let here = page_here c.args.pages.now c.in-Some.place.page c.in-Some-get.page.now look.3.0 look.1 in
    flag_of_page c.rows_are_numbered.ensures cycle (map page_of c.args.pages.now) j c.in-Some.place
    (subst (IsPlaced cycle (map page_of c.args.pages.now) j) c.in-Some.is placed) (page_of c.in-Some-get.page.now) here c.is_needed_row.result
    c.is_needed_row.ensures
