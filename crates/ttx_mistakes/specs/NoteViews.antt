-- The notes of the program as notes of the definitions.
use Rattle.std.specs.Prelude.{List, map, string_bytes}
use Rattle.ttx_mistakes.specs.Notes as rule
use Rattle.ttx_mistakes.specs.declared.notes.Note.{Note}

abbrev pub note_view : Note → rule.Note
note_view n = rule.note n.error (string_bytes n.path) n.sign n.words.items

abbrev pub note_views : List Note → List rule.Note
note_views notes = map note_view notes
