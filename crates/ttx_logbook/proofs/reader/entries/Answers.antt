use Rattle.std.proofs.Common.{◌≡◌, ◌++◌, ◌∷◌, [], rules}
use Rattle.ttx_logbook.specs.Views.{entry_of}
use Rattle.ttx_logbook.proofs.ManyLines.{one_more}
use Rattle.ttx_logbook.proofs.reader.entries.Goals as goal

pub loop-rest-preserved : goal.loop-rest-preserved
loop-rest-preserved c =
    let pushed : c.push.new.self.items ≡ c.loop-rest.entries.items ++ c.in-Some.entry ∷ [] = search rules in
    let more = one_more entry_of c.loop-rest.entries.items c.push.new.self.items c.in-Some.entry c.args.text.now c.loop-rest.rest.now c.in-Some.more.now
    pushed c.loop-rest.invariant.1 c.loop-rest.invariant.2 c.in-Some.ensures.0 c.in-Some.ensures.1 in
    (search rules, more.0, more.1)
