use Rattle.std.proofs.Common.{◌≡◌, ℕ, zero, suc, ◌<◌, ◌≤◌, List, [], ◌∷◌, length, get_or, Option, Some, None, option_map, Bor, refl, ap, arith}
use Rattle.std.specs.Slice.{IsItemAt}
use Rattle.toml.specs.Data.{get_item}
use Rattle.toml.specs.View.{view, items_view}
use Rattle.toml.specs.declared.value.Value.{Value}
use Rattle.ttx_desk.proofs.said.value_at.Goals as goal

here : (values : List Value) (n : ℕ) (x d : Value) → n < length values → x ≡ get_or values n d → Some (view x) ≡ get_item n (items_view values)
here [] n x d lt e = absurd (omega arith)
here (v ∷ values) zero x d lt e = ap (λ z. Some (view z)) e
here (v ∷ values) (suc n) x d lt e = here values n x d (omega arith) e

past : (values : List Value) (n : ℕ) → length values ≤ n → None ≡ get_item n (items_view values)
past [] n le = refl
past (v ∷ values) zero le = absurd (omega arith)
past (v ∷ values) (suc n) le = past values n (omega arith)

item_at : (values : List Value) (n : ℕ) (o : Option (Bor Value)) → IsItemAt values n o →
    option_map (λ v. view v.now) o ≡ get_item n (items_view values)
item_at values n None is = past values n is.3
item_at values n (Some v) is = here values n v.now v.now is.3.0 is.1

pub returns : goal.returns
returns c = item_at c.args.values.now c.args.index c.get.result c.get.ensures.lookup
