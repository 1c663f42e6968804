use Rattle.std.proofs.Common.{◌∙◌, ap}
use Rattle.clap.specs.Words.{Text, first_of, found_of, rows_of}
use Rattle.clap.proofs.WalkLemmas.{first_value-rows}
use Rattle.ttx_arguments.proofs.values.given.Goals as goal

pub returns : goal.returns
returns c =
    c.get_str.ensures ∙ first_value-rows (found_of c.args.values.now) c.id.result.now
    ∙ ap (λ (t : Text). first_of t (rows_of (found_of c.args.values.now))) c.id.ensures
