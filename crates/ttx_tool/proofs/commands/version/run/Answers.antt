use Rattle.std.proofs.Common.{Err, subst}
use Rattle.std.specs.Io.KnownBytes.{Appends}
use Rattle.std.specs.Prelude.{⊤}
use Rattle.ttx_cycle.specs.Counters.{inner_of}
use Rattle.ttx_files.specs.Answers.{WritesLine}
use Rattle.ttx_tool.proofs.commands.version.run.Goals as goal

pub returns-in-Ok-clause-bytes : goal.returns-in-Ok-clause-bytes
returns-in-Ok-clause-bytes g c =
    subst (λ text. Appends (g.W.Write.contents (inner_of c.args.writer.now)) (g.W.Write.contents (inner_of c.write_line.new.writer)) text)
    c.as_bytes.ensures.value c.in-Ok.ensures.bytes

pub returns-in-Err-clause-bytes : goal.returns-in-Err-clause-bytes
returns-in-Err-clause-bytes g c =
    subst (λ text. WritesLine {T = ⊤} text (g.W.Write.contents (inner_of c.args.writer.now)) (g.W.Write.contents (inner_of c.write_line.new.writer))
    (Err c.in-Err.fault)) c.as_bytes.ensures.value c.in-Err.ensures.bytes
