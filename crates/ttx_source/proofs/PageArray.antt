-- The array of pages, one table at a time.
use Rattle.std.proofs.Common.{◌≡◌, ◌<◌, ◌≤◌, ◌+◌, ◌&&◌, ℕ, List, [], ◌∷◌, length, is_some, Ok, Err, ap, refl, drop, get_or}
use Rattle.std.specs.List.{list_all}
use Rattle.std.proofs.lemmas.List.{drop_more, drop_all}
use Rattle.toml.specs.declared.value.Value.{Value}
use Rattle.toml.specs.Data.{as_table}
use Rattle.toml.specs.View.{view, items_view}
use Rattle.ttx_source.specs.Values.{Fault}
use Rattle.ttx_source.specs.Services.{Authored, ServiceFields, with_page, next_page, with_pages, are_tables}

pub are_tables-view : (vs : List Value) → list_all (λ v. is_some (as_table (view v))) vs ≡ are_tables (items_view vs)
are_tables-view [] = refl
are_tables-view (v ∷ vs) = ap (λ b. is_some (as_table (view v)) && b) (are_tables-view vs)

-- one more page, or the fault that ends them
pub after_more : (s : ServiceFields) (vs : List Value) (i : ℕ) (d : Value) (page : Authored) → i < length vs →
    next_page s (view (get_or vs i d)) ≡ Ok page
    → with_pages s (items_view (drop i vs)) ≡ with_pages (with_page s page) (items_view (drop (i + 1) vs))
unfolding with_pages
after_more s vs i d page here h = rw (drop_more vs i d here, h)

pub after_fault : (s : ServiceFields) (vs : List Value) (i : ℕ) (d : Value) (e : Fault × ℕ) → i < length vs →
    next_page s (view (get_or vs i d)) ≡ Err e
    → with_pages s (items_view (drop i vs)) ≡ Err e
unfolding with_pages
after_fault s vs i d e here h = rw (drop_more vs i d here, h)

pub after_end : (s : ServiceFields) (vs : List Value) (i : ℕ) → length vs ≤ i → with_pages s (items_view (drop i vs)) ≡ Ok s
unfolding with_pages
after_end s vs i past = rw (drop_all i vs past)
