use Rattle.std.proofs.Common.{◌-◌, ◌∙◌, ◌==◌, ◌&&◌, not, nat_le, Some, None, if◌then◌else◌, slice_index, ap, sym, arith}
use Rattle.std.proofs.lemmas.Bool.{and_from, le-leb, ne_eqb}
use Rattle.ttx_digits.specs.PageIds.{first_number, numbered}
use Rattle.ttx_digits.proofs.page_ids.first_number.Goals as goal

pub returns-clause-value : goal.returns-clause-value
unfolding first_number
returns-clause-value c =
    let mag = slice_index c.args.text.now 0 in
    let page = c.in_ok-page.page in
    let inside = and_from (nat_le 49 mag && nat_le mag 56) (not (page == 0xff))
    (and_from (nat_le 49 mag) (nat_le mag 56) (le-leb 49 mag c.if-text-lt49.false) (le-leb mag 56 c.if-text-gt56.false))
    (ap not (ne_eqb page 0xff c.if-page.false)) in
    ap (λ is. if is then Some (mag - 48, page) else None) (sym inside) ∙ ap (numbered mag) c.in_ok-page.ensures

pub returns-clause-ranges : goal.returns-clause-ranges
returns-clause-ranges c = (omega (arith, c.if-text-lt49.false), omega (arith, c.if-text-gt56.false), c.if-page.false)
