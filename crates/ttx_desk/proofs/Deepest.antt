-- How deep values stand, one after another.
use Rattle.std.proofs.Common.{◌≡◌, ◌∙◌, ◌↔◌, ℕ, ◌+◌, ◌<◌, ◌≤◌, max, List, ◌∷◌, drop, length, get_or, ap, sym, subst, arith}
use Rattle.toml.specs.Data.{depth, items_depth, members_depth, item}
use Rattle.toml.specs.View.{view, items_view, members_view}
use Rattle.toml.specs.declared.value.Value.{Value}
use Rattle.toml.proofs.Views.{Entry, items_view-drop}

both-within : (a b most : ℕ) → (max a b ≤ most) ↔ ((a ≤ most) × (b ≤ most))
both-within a b most = ((λ all. (omega arith, omega arith)), (λ both. let p = both.0 in let q = both.1 in omega arith))

pub items-within : (values : List Value) (i most : ℕ) (value : Value) → i < length values → value ≡ get_or values i value →
    (items_depth (items_view (drop i values)) ≤ most) ↔ ((depth (view value) ≤ most) × (items_depth (items_view (drop (i + 1) values)) ≤ most))
items-within values i most value inside is =
    let cut : items_view (drop i values) ≡ item (view value) (items_view (drop (i + 1) values)) =
    items_view-drop values i value inside ∙ ap (λ v. item (view v) (items_view (drop (i + 1) values))) (sym is) in
    let both = both-within (depth (view value)) (items_depth (items_view (drop (i + 1) values))) most in
    ((λ all. both.0 (subst (λ ds. items_depth ds ≤ most) cut all)), (λ each. subst (λ ds. items_depth ds ≤ most) (sym cut) (both.1 each)))

pub members-within : (entries rest : List Entry) (e : Entry) (most : ℕ) → entries ≡ e ∷ rest →
    (members_depth (members_view entries) ≤ most) ↔ ((depth (view e.1) ≤ most) × (members_depth (members_view rest) ≤ most))
members-within entries rest e most is =
    let both = both-within (depth (view e.1)) (members_depth (members_view rest)) most in (
      (λ all. both.0 (subst (λ es. members_depth (members_view es) ≤ most) is all)),
      (λ each. subst (λ es. members_depth (members_view es) ≤ most) (sym is) (both.1 each)),
    )
