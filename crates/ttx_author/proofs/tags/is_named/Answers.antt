use Rattle.std.proofs.Common.{sym, arith}
use Rattle.std.proofs.lemmas.Grind.{same_number_lists}
use Rattle.std.proofs.lemmas.Slice.Eq.{bytes_eq-Decides}
use Rattle.ttx_author.proofs.tags.is_named.Goals as goal

pub returns : goal.returns
returns c =
    let same = same_number_lists c.args.known.now c.args.name.now c.loop-i.invariant.0 (λ k l. c.loop-i.invariant.1 k (omega arith)) in
    sym ((bytes_eq-Decides c.args.known.now c.args.name.now).1 same)
