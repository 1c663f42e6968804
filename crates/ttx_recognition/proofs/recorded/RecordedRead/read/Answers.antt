use Rattle.std.proofs.Common.{◌≡◌, ◌+◌, length, take, sym, ◌∙◌, ap, arith}
use Rattle.std.proofs.lemmas.List.{length-take-le}
use Rattle.ttx_recognition.proofs.KeptBytes.{kept_more}
use Rattle.ttx_recognition.proofs.recorded.RecordedRead.read.Goals as goal

pub returns-clause-kept : goal.returns-clause-kept
returns-clause-kept g c =
    let len = c.args.self.now.len in
    let room = c.min-room.result in
    let buf = c.read.new.buf in
    let few = c.args.self.now.few in
    let bound = c.in_ok-count.ensures.bound in
    let least = c.min-room.ensures in
    let size : length (take room buf) ≡ room = length-take-le room buf (omega arith) in
    ap (λ n. take (len + n) c.put.new.bytes) (sym size) ∙ c.put.ensures
    ∙ kept_more c.args.self.now.kept buf len c.in_ok-count.count room least few (omega arith)
