use Rattle.std.proofs.Common.{◌≡◌, ◌≤◌, ◌&&◌, count_by, take}
use Rattle.clap.specs.Words.{rows_of, found_of}
use Rattle.ttx_arguments.specs.Arguments.{is_input}
use Rattle.ttx_arguments.specs.Orders.{is_standard}
use Rattle.ttx_arguments.proofs.commands.standard_inputs.Given as goal

abbrev pub invariant-loop-argument : goal.invariant-loop-argument
invariant-loop-argument l = record {
  count : l.count ≡ count_by (λ a. is_input a && is_standard a (rows_of (found_of l.values))) (take l.argument-index l.arguments);
  few : l.count ≤ l.argument-index;
}
