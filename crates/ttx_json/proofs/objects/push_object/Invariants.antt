use Rattle.std.proofs.Common.{◌≡◌, ◌++◌, map, false, drop, string_bytes}
use Rattle.std.specs.Prelude.{nat_lt}
use Rattle.serde_json.specs.Written.{members_text}
use Rattle.ttx_json.specs.Members.{member_of}
use Rattle.ttx_json.specs.Objects.{members_of}
use Rattle.ttx_json.proofs.objects.push_object.Given as goal

abbrev pub invariant-loop-i : goal.invariant-loop-i
invariant-loop-i l =
    string_bytes l.line ++ members_text (nat_lt 0 l.i) (members_of (map member_of (drop l.i l.members)))
    ≡ string_bytes l.initial.line ++ members_text false (members_of (map member_of l.members))
