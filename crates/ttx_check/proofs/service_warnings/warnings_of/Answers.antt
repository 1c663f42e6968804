use Rattle.std.proofs.Common.{◌∙◌, ◌++◌, ap}
use Rattle.ttx_tallies.specs.Tallies.{times_in}
use Rattle.ttx_check.specs.Warnings.{warnings_by}
use Rattle.ttx_check.proofs.Counted.{warnings_same}
use Rattle.ttx_check.proofs.service_warnings.warnings_of.Goals as goal

pub returns : goal.returns
returns c =
    let order = c.in_ok-order.order in
    let found = warnings_by c.args.service.now c.args.entries.now (times_in order.subpages) (times_in order.copies) in
    let copies = rw c.serial.ensures at c.in_ok-order.ensures.copies in
    c.in_ok-push_all.ensures
    ∙ ap (λ xs. xs ++ found) c.new-found.ensures.items
    ∙ warnings_same c.args.service.now c.args.entries.now _ _ _ _ c.in_ok-order.ensures.subpages copies
