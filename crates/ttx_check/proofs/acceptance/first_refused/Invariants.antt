use Rattle.std.proofs.Common.{◌≡◌, drop, map}
use Rattle.std.specs.Prelude.{find}
use Rattle.toml.specs.View.{table_view}
use Rattle.ttx_check.specs.Parts.{is_row_refused}
use Rattle.ttx_check.proofs.acceptance.first_refused.Given as goal

abbrev pub invariant-loop-key : goal.invariant-loop-key
invariant-loop-key l = find (is_row_refused (table_view l.rows)) (map (λ n. n.now) (drop l.key-index l.keys))
    ≡ find (is_row_refused (table_view l.rows)) (map (λ n. n.now) l.keys)
