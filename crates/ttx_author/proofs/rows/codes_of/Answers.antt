use Rattle.ttx_author.proofs.Ranges.{codes_of-below}
use Rattle.ttx_author.proofs.rows.codes_of.Goals as goal

pub returns-clause-range : goal.returns-clause-range
returns-clause-range c =
    codes_of-below c.number.result c.args.width c.args.text.now c.in_ok-line_of.field-0.codes.items c.in_ok-line_of.ensures.code
