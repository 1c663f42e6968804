use Rattle.std.proofs.Common.{◌≡◌, ℕ, ◌<◌, [], Ok, slice_index_or}
use Rattle.toml.specs.View.{table_view}
use Rattle.ttx_author.specs.Options.{option_number}
use Rattle.ttx_author.specs.Rows.{line_of}
use Rattle.ttx_desk.specs.Said.{author_row}
use Rattle.ttx_desk.proofs.said.are_rows.Given as goal

abbrev pub invariant-loop-index : goal.invariant-loop-index
invariant-loop-index l =
    (k : ℕ) → k < l.index → line_of 40 (option_number l.option) (author_row (table_view l.author) k) ≡ Ok (slice_index_or l.rows k [])
