use Rattle.std.proofs.Common.{◌≡◌, ◌++◌, map, string_bytes}
use Rattle.toml.specs.View.{members_view}
use Rattle.ttx_check.specs.UnknownKeys.{unknown_lines}
use Rattle.ttx_check.proofs.unknown_keys.push_unknown.Given as goal

abbrev pub invariant-loop-key : goal.invariant-loop-key
invariant-loop-key l = string_bytes l.text ++ unknown_lines l.place (map (λ n. n.now) l.names) (members_view l.key-iterator)
    ≡ string_bytes l.initial.text ++ unknown_lines l.place (map (λ n. n.now) l.names) (members_view l.table.entries)
