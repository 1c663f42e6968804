-- The document that a text is.
--
--   document_of             its table, if the text is UTF-8 and a TOML document
--   or_not_toml             the table, or the fault of a text without one
use Rattle.std.specs.Prelude.{ℕ, List, Option, Some, None, Result, Ok, Err, if◌then◌else◌}
use Rattle.std.specs.Str.{is_utf8}
use Rattle.toml.specs.Data.{Members}
use Rattle.toml.specs.Parse.{parse_document}
use Rattle.ttx_source.specs.Values.{Fault, not_toml}

abbrev pub document_of : List ℕ → Option Members
document_of bytes = if is_utf8 bytes then parse_document bytes else None

abbrev pub or_not_toml : Option Members → Result Members (Fault × ℕ)
or_not_toml None = Err (not_toml, 0)
or_not_toml (Some keys) = Ok keys
