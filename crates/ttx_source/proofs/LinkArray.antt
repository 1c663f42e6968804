-- The array of links, one text at a time.
use Rattle.std.proofs.Common.{◌≡◌, ◌<◌, ◌≤◌, ◌+◌, ◌-◌, ◌++◌, ℕ, suc, List, [], ◌∷◌, length, replicate, Option, None, Ok, Err, ap, refl, append-nil}
use Rattle.std.proofs.Common.{drop, take, set, get_or, arith}
use Rattle.std.proofs.lemmas.List.{drop_more, drop_all, drop-set-lt, drop-replicate, take-append-drop}
use Rattle.std.proofs.lemmas.List.{drop-drop}
use Rattle.std.proofs.lemmas.Grind.{common_steps}
use Rattle.toml.specs.declared.value.Value.{Value}
use Rattle.toml.specs.View.{view, items_view}
use Rattle.ttx_header.specs.Ids.{Id}
use Rattle.ttx_source.specs.Values.{Fault}
use Rattle.ttx_source.specs.Keys.{count, link_of, links_in, six_of, filled}
use Rattle.ttx_source.proofs.Sequences.{then, then-more}

pub count-view : (vs : List Value) → count (items_view vs) ≡ length vs
count-view [] = refl
count-view (v ∷ vs) = ap suc (count-view vs)

-- one more link, or the fault that ends them
pub links_more : (done : List (Option Id)) (vs : List Value) (i : ℕ) (d : Value) (target : Option Id) → i < length vs →
    link_of (view (get_or vs i d)) ≡ Ok target
    → then done (links_in (items_view (drop i vs))) ≡ then (done ++ target ∷ []) (links_in (items_view (drop (i + 1) vs)))
unfolding links_in
links_more done vs i d target here h = rw (drop_more vs i d here, h) (then-more done target (links_in (items_view (drop (i + 1) vs))))

pub links_fault : (done : List (Option Id)) (vs : List Value) (i : ℕ) (d : Value) (e : Fault) → i < length vs → link_of (view (get_or vs i d)) ≡ Err e
    → then done (links_in (items_view (drop i vs))) ≡ Err e
unfolding links_in
links_fault done vs i d e here h = rw (drop_more vs i d here, h)

pub links_end : (done : List (Option Id)) (vs : List Value) (i : ℕ) → length vs ≤ i → then done (links_in (items_view (drop i vs))) ≡ Ok done
unfolding links_in
links_end done vs i past = rw (drop_all i vs past) (ap Ok (append-nil done))

-- six links from the links that were read
pub six_is : (vs : List Value) (targets : List (Option Id)) → links_in (items_view vs) ≡ Ok targets → six_of (items_view vs) ≡ Ok (filled targets)
unfolding six_of
six_is vs targets h = rw h

pub six_fault : (vs : List Value) (e : Fault) → links_in (items_view vs) ≡ Err e → six_of (items_view vs) ≡ Err e
unfolding six_of
six_fault vs e h = rw h

-- the places up to the one that was written, and those after it
pub front_set : (six : List (Option Id)) (i : ℕ) (target : Option Id) → i < length six → take (i + 1) (set six i target) ≡ take i six ++ target ∷ []
front_set six i target h = grind (arith, common_steps)

pub free_after : (six : List (Option Id)) (i : ℕ) (target : Option Id) → length six ≡ 6 → drop i six ≡ replicate (6 - i) None
    → drop (i + 1) (set six i target) ≡ replicate (6 - (i + 1)) None
free_after six i target long free =
    let left : 6 - i - 1 ≡ 6 - (i + 1) = omega arith in
    rw (drop-set-lt (i + 1) six i target (omega arith), ← drop-drop 1 i six, free, drop-replicate {X = Option Id} 1 (6 - i) None, left) refl

-- six places; those from position i on are free
pub is_filled : (six : List (Option Id)) (i : ℕ) → i ≤ 6 → length six ≡ 6 → drop i six ≡ replicate (6 - i) None → filled (take i six) ≡ six
is_filled six i few long free =
    let taken : length (take i six) ≡ i = grind (arith, common_steps) in
    rw (taken, ← free) (take-append-drop i six)
