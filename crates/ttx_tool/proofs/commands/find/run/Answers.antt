use Rattle.std.proofs.Common.{subst, string_bytes}
use Rattle.std.specs.Io.KnownBytes.{Appends}
use Rattle.ttx_cycle.specs.Counters.{inner_of}
use Rattle.ttx_tool.proofs.PlannedFiles.{all_find, all_certify}
use Rattle.ttx_tool.proofs.commands.find.run.Goals as goal

pub returns-in-Ok-write_both-clause-planned : goal.returns-in-Ok-write_both-clause-planned
returns-in-Ok-write_both-clause-planned g c =
    let told = c.in-Ok.told in
    all_find c.args.repeat c.args.class told.file.items (string_bytes told.line) told.verdict c.planned_is_found.ensures c.requires.some c.requires.few
    (g.A.Read.remaining (inner_of c.args.cycle.now)) (g.B.Read.remaining (inner_of c.args.service.now)) c.in-Ok.ensures.bytes

pub returns-in-Ok-write_both-clause-certified : goal.returns-in-Ok-write_both-clause-certified
returns-in-Ok-write_both-clause-certified g c =
    let told = c.in-Ok.told in
    let old = g.O.Write.contents (inner_of c.args.file.now) in
    let new = g.O.Write.contents (inner_of c.write_both.new.file) in
    let written = subst (Appends old new) c.as_slice.ensures.value c.in-Ok-write_both.ensures.bytes.0 in
    all_certify c.args.repeat c.args.class told.file.items (string_bytes told.line) told.verdict c.found_is_certified.ensures old new written
    (g.A.Read.remaining (inner_of c.args.cycle.now)) (g.B.Read.remaining (inner_of c.args.service.now)) c.in-Ok.ensures.bytes
