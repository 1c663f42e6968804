use Rattle.std.proofs.Common.{◌≡◌, ◌++◌, drop, map, string_bytes, flat_map}
use Rattle.ttx_desk.specs.Words.{after_comma}
use Rattle.ttx_desk.proofs.words.push_names.Given as goal

abbrev pub invariant-loop-name : goal.invariant-loop-name
invariant-loop-name l =
    string_bytes l.text ++ flat_map after_comma (map (λ name. name.now) (drop l.name-index l.names))
    ≡ string_bytes l.initial.text ++ flat_map after_comma (map (λ name. name.now) l.names)
