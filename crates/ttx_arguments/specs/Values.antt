-- The texts that a parse gives to arguments.
--
--   given_at, text_at        the text given to an argument, if there is one; or an empty text
--   is_set                   whether an option without a value is given
use Rattle.std.specs.Prelude.{Bool, List, [], Option, codes, unwrap_or}
use Rattle.std.specs.Str.{bytes_eq}
use Rattle.clap.specs.Words.{Row, Text, first_of}
use Rattle.ttx_arguments.specs.Arguments.{id_of}
use Rattle.ttx_arguments.specs.declared.arguments.Argument.{Argument}

-- the text given to an argument
abbrev pub given_at : Argument → List Row → Option Text
given_at argument rows = first_of (id_of argument) rows

-- Each required operand has one after a parse.
abbrev pub text_at : Argument → List Row → Text
text_at argument rows = unwrap_or (given_at argument rows) []

-- After a parse an option without a value is `true` if it was given, otherwise `false`.
abbrev pub is_set : Argument → List Row → Bool
is_set argument rows = bytes_eq (text_at argument rows) (codes "true")
