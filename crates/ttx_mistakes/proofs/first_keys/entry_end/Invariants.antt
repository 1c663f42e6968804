use Rattle.std.proofs.Common.{◌≡◌, ◌+◌, ℕ, suc, length}
use denote.Text.{Utf8}
use denote.Shadow.{shadow}
use Rattle.ttx_mistakes.specs.FirstKeys as rule
use Rattle.ttx_mistakes.proofs.first_keys.entry_end.Given as goal

abbrev pub invariant-loop-token : goal.invariant-loop-token
invariant-loop-token l =
    shadow (Utf8 l.rest)
    × (m : ℕ) × (l._token + m ≡ suc (length l.s))
    × (rule.entry_end l.inline m l.depth l.rest ≡ rule.after_entry l.inline l.s)
