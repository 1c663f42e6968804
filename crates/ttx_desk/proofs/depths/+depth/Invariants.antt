use Rattle.std.proofs.Common.{◌+◌, ◌*◌, ◌≤◌, ◌↔◌, drop}
use Rattle.toml.specs.Data.{items_depth, members_depth}
use Rattle.toml.specs.View.{items_view, members_view}
use Rattle.ttx_desk.proofs.depths.+depth.Given as goal

abbrev pub decreases-is_value_within : goal.decreases-is_value_within
decreases-is_value_within l = 2 * l.most

abbrev pub decreases-are_items_within : goal.decreases-are_items_within
decreases-are_items_within l = 2 * l.most + 1

abbrev pub decreases-is_within : goal.decreases-is_within
decreases-is_within l = 2 * l.most + 1

-- what is left decides
abbrev pub invariant-are_items_within-loop-item : goal.invariant-are_items_within-loop-item
invariant-are_items_within-loop-item l =
    (items_depth (items_view (drop l.item-index l.items)) ≤ l.most) ↔ (items_depth (items_view l.items) ≤ l.most)

abbrev pub invariant-is_within-loop-key : goal.invariant-is_within-loop-key
invariant-is_within-loop-key l = (members_depth (members_view l._key-iterator) ≤ l.most) ↔ (members_depth (members_view l.table.entries) ≤ l.most)
