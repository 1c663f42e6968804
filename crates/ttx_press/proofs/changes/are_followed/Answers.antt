use Rattle.std.proofs.Common.{◌≤◌, pos, arith}
use Rattle.std.proofs.lemmas.Bool.{leb-true, le-leb}
use Rattle.std.proofs.lemmas.Int.{ints}
use Rattle.ttx_press.proofs.Decisions.{says_no}
use Rattle.ttx_press.proofs.changes.are_followed.Goals as goal

pub returns-in-Some : goal.returns-in-Some
returns-in-Some c =
    let first = c.in-Some.ensures in
    says_no (λ within. first.here.1 (within c.in-Some.field-0.page first.page first.listed (pos c.in-Some.field-0.slot) first.here.0).0)

pub returns-in-None : goal.returns-in-None
returns-in-None c =
    let greatest = c.greatest_gap.ensures in (
      (λ yes_is n p listed h head.
          let le : c.greatest_gap.result ≤ c.args.gap = leb-true c.greatest_gap.result c.args.gap yes_is in
          let near = greatest.within n p listed h head in
          let sooner = near.1 in
          (near.0, omega (arith, ints))),
      (λ within. le-leb c.greatest_gap.result c.args.gap (greatest.least c.args.gap within)),
    )
