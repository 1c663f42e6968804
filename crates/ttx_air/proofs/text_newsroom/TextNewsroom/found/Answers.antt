use Rattle.std.proofs.Common.{Ok, Err, subst}
use Rattle.ttx_air.specs.TextNewsrooms.{reading_of}
use Rattle.ttx_air.proofs.text_newsroom.TextNewsroom.found.Goals as goal

pub returns-in-Ok : goal.returns-in-Ok
returns-in-Ok g c =
    let reads = g.S.TextSource.reads in
    let read = subst (λ r. reads c.args.self.now.source (reading_of r) c.text.new.self) c.in-Ok.is c.text.ensures in
    (Ok c.in-Ok.text.items, (c.text.new.self, read, c.read.ensures))

pub returns-in-Err : goal.returns-in-Err
returns-in-Err g c =
    let reads = g.S.TextSource.reads in
    let read = subst (λ r. reads c.args.self.now.source (reading_of r) c.text.new.self) c.in-Err.is c.text.ensures in
    (Err c.in-Err.fault, (c.text.new.self, read, c.unread.ensures))
