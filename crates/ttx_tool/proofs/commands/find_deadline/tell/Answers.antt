use Rattle.std.proofs.Common.{subst, string_bytes}
use Rattle.ttx_certificate.specs.Certificates.{fields_of}
use Rattle.ttx_cycle.specs.Cycles.{slots_of, slots_of-IsCycle}
use Rattle.ttx_tool.specs.FindDeadline.{WritesAsked}
use Rattle.ttx_tool.proofs.AskedFiles.{asked_told}
use Rattle.ttx_tool.proofs.commands.find_deadline.tell.Goals as goal

pub returns-in-Ok-tell_verdict : goal.returns-in-Ok-tell_verdict
returns-in-Ok-tell_verdict c =
    let found = c.in-Ok.found in
    let w = fields_of found.certificate in
    let told = c.in-Ok-tell_verdict.told in
    let cycle_is = slots_of-IsCycle c.args.cycle.now in
    let written = subst (λ n. WritesAsked w c.args.asked.deadline n found.verdict told.file.items (string_bytes told.line) told.verdict)
    c.pages-pages.ensures.count c.in-Ok-tell_verdict.ensures in
    record {
      w = w;
      verdict = found.verdict;
      found = c.in-Ok.ensures;
      told = asked_told (slots_of c.args.cycle.now) c.args.service.now c.args.asked w found.verdict cycle_is.most c.in-Ok.ensures told.file.items
          (string_bytes told.line) told.verdict written;
    }
