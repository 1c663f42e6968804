use Rattle.std.proofs.Common.{◌≡◌, ◌+◌, ℕ, suc, length}
use denote.Text.{Utf8}
use denote.Shadow.{shadow}
use Rattle.ttx_mistakes.specs.FirstKeys as rule
use Rattle.ttx_mistakes.proofs.first_keys.brackets_at.Given as goal

abbrev pub invariant-loop-token : goal.invariant-loop-token
invariant-loop-token l =
    shadow (Utf8 l.rest) × shadow (Utf8 l.inside)
    × (m : ℕ) × (l._token + m ≡ suc (length l.s))
    × (rule.brackets l.wanted l.stop m l.depth l.inside l.rest ≡ rule.brackets_at l.wanted l.stop l.s)
