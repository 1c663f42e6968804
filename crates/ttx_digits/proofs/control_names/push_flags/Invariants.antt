use Rattle.std.proofs.Common.{◌≡◌, ◌++◌, map, drop, string_bytes}
use Rattle.ttx_digits.specs.ControlNames.{set_names}
use Rattle.ttx_digits.proofs.control_names.push_flags.Given as goal

abbrev pub invariant-loop-flag : goal.invariant-loop-flag
invariant-loop-flag l =
    string_bytes l.text ++ set_names l.control.0 (map (λ f. (f.name.now, f.value.0)) (drop l.flag-index l.flags))
    ≡ string_bytes l.initial.text ++ set_names l.control.0 (map (λ f. (f.name.now, f.value.0)) l.flags)
