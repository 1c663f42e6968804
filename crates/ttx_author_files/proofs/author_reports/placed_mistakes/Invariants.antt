use Rattle.std.proofs.Common.{take}
use Rattle.toml.specs.View.{table_view}
use Rattle.ttx_mistakes.specs.PlacedViews.{placed_views}
use Rattle.ttx_author_files.specs.AuthorReports.{ArePlaced}
use Rattle.ttx_author_files.proofs.author_reports.placed_mistakes.Given as goal

abbrev pub invariant-loop-mistake : goal.invariant-loop-mistake
invariant-loop-mistake l = ArePlaced l.text (table_view l.author) (take l.mistake-index l.mistakes) (placed_views l.found.items)
