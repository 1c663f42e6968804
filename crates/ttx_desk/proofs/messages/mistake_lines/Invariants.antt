use Rattle.std.proofs.Common.{string_bytes, take}
use Rattle.toml.specs.View.{table_view}
use Rattle.ttx_desk.specs.MistakeLines.{AreMistakeLines}
use Rattle.ttx_desk.proofs.messages.mistake_lines.Given as goal

abbrev pub invariant-loop-mistake : goal.invariant-loop-mistake
invariant-loop-mistake l =
    AreMistakeLines l.author.file.now l.author.text.now (table_view l.author.table.now) (take l.mistake-index l.mistakes) (string_bytes l.lines)
