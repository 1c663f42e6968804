use Rattle.std.proofs.Common.{rules, ◌≡◌, ◌++◌, ◌∷◌, [], ◌≤◌, string_bytes, map, false, length, drop, arith, append_assoc}
use Rattle.std.specs.Prelude.{nat_lt}
use Rattle.std.proofs.lemmas.List.{at_drop_all}
use Rattle.serde_json.specs.Written.{members_text}
use Rattle.ttx_json.specs.Members.{member_of}
use Rattle.ttx_json.specs.Objects.{members_of}
use Rattle.ttx_json.proofs.objects.push_object.Goals as goal

pub returns : goal.returns
returns c =
    let members = c.args.members.now in
    let past : length members ≤ c.loop-i.i = let t = c.loop-i-test.false in omega arith in
    let none : members_text (nat_lt 0 c.loop-i.i) (members_of (map member_of (drop c.loop-i.i members))) ≡ 125 ∷ [] =
    at_drop_all (λ ms. members_text (nat_lt 0 c.loop-i.i) (members_of (map member_of ms))) members c.loop-i.i past in
    let all : string_bytes c.loop-i.line ++ 125 ∷ [] ≡ string_bytes c.push.new.self ++ members_text false (members_of (map member_of members)) =
    rw none at c.loop-i.invariant in
    search (rules, append_assoc)
