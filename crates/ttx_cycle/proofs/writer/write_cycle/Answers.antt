use Rattle.std.proofs.Common.{◌∙◌, ap, subst}
use Rattle.ttx_cycle.specs.Counters.{inner_of}
use Rattle.ttx_cycle.specs.Files.{file_of}
use Rattle.ttx_cycle.specs.Writing.{Writes}
use Rattle.ttx_cycle.proofs.writer.write_cycle.Goals as goal

pub returns-clause-bytes : goal.returns-clause-bytes
returns-clause-bytes g c =
    let contents = g.W.Write.contents in
    subst (λ bytes. Writes bytes (contents (inner_of c.args.writer.now)) (contents (inner_of c.write_bytes.new.writer)) c.write_bytes.result)
    (c.as_flattened.ensures.value ∙ ap file_of c.slots.ensures.slots) c.write_bytes.ensures.bytes
