use Rattle.std.proofs.Common.{take}
use Rattle.clap.specs.Words.{new_app}
use Rattle.ttx_arguments.specs.Arguments.{name_of}
use Rattle.ttx_arguments.specs.Grammar.{with_arguments, IsBuiltAs}
use Rattle.ttx_arguments.proofs.grammar.command_of.Given as goal

abbrev pub invariant-loop-argument : goal.invariant-loop-argument
invariant-loop-argument l = IsBuiltAs l.command (with_arguments l.names (take l.argument-index l.arguments) (new_app (name_of l.fn.name)))
