use Rattle.std.proofs.Common.{◌≡◌, drop, map}
use Rattle.toml.specs.View.{items_view}
use Rattle.ttx_source.specs.KeyFaults.{key_name}
use Rattle.ttx_source.specs.Promises.{promises_in}
use Rattle.ttx_source.specs.PromiseViews.{promise_view}
use Rattle.ttx_source.proofs.Sequences.{then}
use Rattle.ttx_source.proofs.promises.promises_in.Given as goal

-- the promises so far, and then those of the values that are left
abbrev pub invariant-loop-page : goal.invariant-loop-page
invariant-loop-page l = promises_in (key_name l.key) 0 (items_view l.values)
    ≡ then (map promise_view l.promises.items) (promises_in (key_name l.key) l.page (items_view (drop l.page l.values)))
