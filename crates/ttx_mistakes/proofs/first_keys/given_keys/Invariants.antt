use Rattle.std.proofs.Common.{◌≡◌, ◌+◌, ◌++◌, ℕ, suc, length, string_bytes}
use denote.Text.{Utf8}
use denote.Shadow.{shadow}
use Rattle.ttx_mistakes.specs.FirstKeys as rule
use Rattle.ttx_mistakes.specs.GivenViews.{given_views}
use Rattle.ttx_mistakes.proofs.first_keys.given_keys.Given as goal

abbrev pub invariant-loop-entry : goal.invariant-loop-entry
invariant-loop-entry l =
    shadow (Utf8 l.rest)
    × (m : ℕ) × (l._entry + m ≡ suc (length l.s))
    × (given_views l.keys.items ++ rule.given_keys l.inline l.stop m (string_bytes l.section) l.rest ≡ rule.keys_of l.inline l.stop l.s)
