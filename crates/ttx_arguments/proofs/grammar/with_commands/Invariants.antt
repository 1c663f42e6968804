use Rattle.std.proofs.Common.{take}
use Rattle.ttx_arguments.specs.Grammar.{with_commands, bare_app, IsBuiltAs}
use Rattle.ttx_arguments.proofs.grammar.with_commands.Given as goal

abbrev pub invariant-loop-name : goal.invariant-loop-name
invariant-loop-name l = IsBuiltAs l.ttx (with_commands l.names (take l.name-index l.commands) bare_app)
