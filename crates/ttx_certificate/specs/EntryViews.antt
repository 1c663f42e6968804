-- An `Entry` as a plain record.
--
--   entry_of, entries_of    the record of an entry, and of several
--   place_in                the place of an entry in their order
use Rattle.std.specs.Prelude.{ℕ, List, map}
use Rattle.ttx_certificate.specs.Entries.{EntryFields, entry_at, place_of}
use Rattle.ttx_certificate.specs.declared.entries.Entry.{Entry}

abbrev pub entry_of : Entry → EntryFields
entry_of e = entry_at e.page e.item e.starts.items

abbrev pub entries_of : List Entry → List EntryFields
entries_of entries = map entry_of entries

abbrev pub place_in : Entry → ℕ
place_in e = place_of e.page e.item
