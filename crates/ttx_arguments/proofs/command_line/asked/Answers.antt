use Rattle.std.proofs.Common.{◌≢◌, ◌∙◌, ap, sym, map, option_map, is_some, length, arith}
use Rattle.std.proofs.lemmas.List.{length-map}
use Rattle.ttx_arguments.specs.Orders.{order_at}
use Rattle.ttx_arguments.proofs.CommandLine.{has_command, no_words, answered, refused}
use Rattle.ttx_arguments.proofs.command_line.asked.Goals as goal

pub returns-then-is_empty : goal.returns-then-is_empty
returns-then-is_empty c = no_words _ _ (grind (arith, length-map))

pub chosen-requires : goal.chosen-requires
chosen-requires c = ap is_some c.in-Ok.ensures.rows ∙ has_command c.args.names _ c.in-Ok.ensures.no_fault

pub returns-in-Ok : goal.returns-in-Ok
returns-in-Ok c =
    let some : length (map (λ w. w.now) c.args.words.now) ≢ 0 = grind (arith, length-map) in
    answered _ _ c.chosen.ensures.0 c.chosen.result some
    (c.in-Ok.ensures.no_fault, ap (option_map (λ p. order_at p.0 p.1)) (sym c.in-Ok.ensures.rows) ∙ c.chosen.ensures.1) c.chosen.ensures.2

pub returns-in-Err : goal.returns-in-Err
returns-in-Err c =
    let some : length (map (λ w. w.now) c.args.words.now) ≢ 0 = grind (arith, length-map) in
    refused _ _ c.in-Err.fault c.settled.result some c.in-Err.ensures.refused c.settled.ensures
