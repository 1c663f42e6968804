use Rattle.std.proofs.Common.{subst, string_bytes}
use Rattle.std.specs.Io.KnownBytes.{Appends}
use Rattle.ttx_cycle.specs.Counters.{inner_of}
use Rattle.ttx_tool.proofs.PlannedFiles.{all_asked}
use Rattle.ttx_tool.proofs.commands.find_deadline.run.Goals as goal

pub returns-in-Ok-clause-certified : goal.returns-in-Ok-clause-certified
returns-in-Ok-clause-certified g c =
    let told = c.in_ok-told.told in
    let old = g.O.Write.contents (inner_of c.args.file.now) in
    let new = g.O.Write.contents (inner_of c.write_both.new.file) in
    let written = subst (Appends old new) c.as_slice.ensures.value c.in-Ok.ensures.bytes.0 in
    all_asked c.args.asked told.file.items (string_bytes told.line) told.verdict c.asked_is_certified.ensures old new written
    (g.A.Read.remaining (inner_of c.args.cycle.now)) (g.B.Read.remaining (inner_of c.args.service.now)) c.in_ok-told.ensures.bytes
