-- How many transmissions a run of an item has.
use Rattle.std.proofs.Common.{◌≡◌, ℕ, suc, ◌-◌, ◌≤◌, arith}
use Rattle.ttx_page.specs.Streams.{run_length}
use Rattle.ttx_page.specs.declared.item.Item.{Item}
use Rattle.ttx_page.specs.declared.item.Item.TheVariants.{Head as TheHead, Row as TheRow, Links as TheLinks}

pub some_run : (repeat : ℕ) (item : Item) → 1 ≤ repeat → 1 ≤ run_length repeat item
some_run repeat TheHead h = h
some_run repeat (TheRow r) h = h
some_run repeat TheLinks h = omega arith

pub run_some : (repeat : ℕ) (item : Item) → 1 ≤ repeat → run_length repeat item ≡ suc (run_length repeat item - 1)
run_some repeat item h = let l = some_run repeat item h in omega arith
