use Rattle.std.proofs.Common.{◌≡◌, ℕ, ◌<◌, ◌≤◌, length, suc, []}
use denote.Text.{Utf8}
use denote.Shadow.{shadow}
use Rattle.ttx_places.specs.Places as rule
use Rattle.ttx_places.specs.Tables.{tables_of}
use Rattle.ttx_places.proofs.documents.lines.Given as goal

abbrev pub invariant-lines : goal.invariant-lines
invariant-lines l =
    shadow (Utf8 l.rest) × (length l.rest ≤ length l.fn.s)
    × (m : ℕ) × (length l.rest < m)
    × (rule.lines l.target (suc (length l.fn.s)) ([], 0) l.fn.s ≡ rule.lines l.target m (tables_of l.tables) l.rest)

abbrev pub decreases-lines : goal.decreases-lines
decreases-lines l = length l.rest
