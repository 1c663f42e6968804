use Rattle.std.proofs.Common.{◌≡◌, ◌++◌, drop, map, string_bytes}
use Rattle.ttx_check.specs.UnknownKeys.{visible_code}
use Rattle.ttx_check.proofs.unknown_keys.push_shown.Given as goal

abbrev pub invariant-loop-code : goal.invariant-loop-code
invariant-loop-code l = string_bytes l.text ++ map visible_code (drop l.code-index l.code-items) ≡ string_bytes l.initial.text
    ++ map visible_code l.code-items
