-- The tables of the program in terms of the definitions.
use Rattle.std.specs.Prelude.{string_bytes}
use Rattle.ttx_places.specs.Places as rule
use Rattle.ttx_places.specs.declared.documents.Tables.{Tables}

abbrev pub tables_of : Tables → rule.Tables
tables_of tables = (string_bytes tables.path, tables.pages)
