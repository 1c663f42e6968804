use Rattle.std.proofs.Common.{◌≡◌, ℕ, ◌+◌, ◌*◌, ◌<◌, ◌≤◌, length, None}
use denote.Text.{Utf8}
use denote.Shadow.{shadow}
use Rattle.ttx_places.specs.Places.{value, elements, members}
use Rattle.ttx_places.proofs.values.+value.Given as goal

abbrev pub decreases-elements : goal.decreases-elements
decreases-elements l = 3 * l.depth + 3

abbrev pub decreases-members : goal.decreases-members
decreases-members l = 3 * l.depth + 3

abbrev pub decreases-pair : goal.decreases-pair
decreases-pair l = 3 * l.depth + 2

abbrev pub decreases-value : goal.decreases-value
decreases-value l = 3 * l.depth + 1

abbrev pub invariant-elements-elements : goal.invariant-elements-elements
invariant-elements-elements l =
    shadow (Utf8 l.rest) × (length l.rest ≤ length l.fn.s)
    × ((n : ℕ) → length l.fn.s < n → (m : ℕ) × (length l.rest < m)
    × (elements (value l.fn.target l.fn.depth) n 1 l.fn.path None l.fn.s ≡ elements (value l.fn.target l.fn.depth) m l.number l.fn.path l.found l.rest))

abbrev pub decreases-elements-elements : goal.decreases-elements-elements
decreases-elements-elements l = length l.rest

abbrev pub invariant-members-members : goal.invariant-members-members
invariant-members-members l =
    shadow (Utf8 l.rest) × (length l.rest ≤ length l.fn.s)
    × ((n : ℕ) → length l.fn.s < n → (m : ℕ) × (length l.rest < m)
    × (members (value l.fn.target l.fn.depth) n l.fn.path None l.fn.s ≡ members (value l.fn.target l.fn.depth) m l.fn.path l.found l.rest))

abbrev pub decreases-members-members : goal.decreases-members-members
decreases-members-members l = length l.rest
