use Rattle.std.proofs.Common.{arith}
use Rattle.ttx_page.proofs.item.RowNumber.new.Goals as goal
use Rattle.ttx_page.proofs.item.RowNumber.new.Goals.{else-number-ge1-via-then-number-ge1+else-number-le24, else-number-ge1-via-else-number-ge1}

pub returns-else-number-ge1 : goal.returns-else-number-ge1
returns-else-number-ge1 c = λ within. elim c.else-number-ge1.branch as (λ _. ⊥) [
  | else-number-ge1-via-then-number-ge1+else-number-le24 w ↦ omega (arith, w.if-number-le24.false, within.1)
  | else-number-ge1-via-else-number-ge1 w ↦ omega (arith, w.if-number-ge1.false, within.0)
]
