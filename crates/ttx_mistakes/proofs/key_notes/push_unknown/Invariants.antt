use Rattle.std.proofs.Common.{◌≡◌, ◌++◌, map}
use Rattle.toml.specs.View.{members_view}
use Rattle.ttx_mistakes.specs.KeyNotes as rule
use Rattle.ttx_mistakes.specs.NoteViews.{note_views}
use Rattle.ttx_mistakes.proofs.key_notes.push_unknown.Given as goal

abbrev pub invariant-loop-key : goal.invariant-loop-key
invariant-loop-key l = note_views l.notes.items ++ rule.unknown_notes l.taker.path.now l.taker.place.now (map (λ n. n.now) l.taker.names.now) (members_view l.key-iterator)
    ≡ note_views l.initial.notes.items ++ rule.unknown_notes l.taker.path.now l.taker.place.now (map (λ n. n.now) l.taker.names.now) (members_view l.table.entries)
