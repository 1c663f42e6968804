use Rattle.std.proofs.Common.{◌≡◌, drop}
use Rattle.ttx_arguments.specs.Arguments.{named_in}
use Rattle.ttx_arguments.proofs.command_line.named.Given as goal

abbrev pub invariant-loop-command : goal.invariant-loop-command
invariant-loop-command l = named_in l.name l.commands ≡ named_in l.name (drop l.command-index l.commands)
