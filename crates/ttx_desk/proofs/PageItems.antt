-- The values of pages, one after another.
use Rattle.std.proofs.Common.{◌≡◌, ◌∙◌, ℕ, ◌+◌, ◌<◌, ◌≤◌, List, [], ◌∷◌, ◌++◌, map, take, drop, length, get_or, ap, sym, refl, append_assoc}
use Rattle.std.proofs.lemmas.List.{append-nil, drop_all, take_more, map-append}
use Rattle.toml.specs.Data.{Data, Items, item, as_table}
use Rattle.toml.specs.View.{view, items_of, items_view}
use Rattle.toml.specs.declared.value.Value.{Value}
use Rattle.toml.proofs.Views.{items_view-drop}
use Rattle.ttx_desk.specs.Services.{map_items, page_value, value_mistakes, pages_mistakes}
use Rattle.ttx_desk.specs.declared.mistakes.Mistake.{Mistake}

mistakes-item : (number : ℕ) (items rest : Items) (d : Data) → items ≡ item d rest → pages_mistakes number items ≡ value_mistakes number (as_table d) ++ pages_mistakes (number + 1) rest
unfolding pages_mistakes
mistakes-item number items rest d e = ap (pages_mistakes number) e

pub mistakes-more : (number i : ℕ) (values : List Value) (value : Value) (noted more : List Mistake) → i < length values → get_or values i value ≡ value
    → more ≡ noted ++ value_mistakes number (as_table (view value))
    → more ++ pages_mistakes (number + 1) (items_view (drop (i + 1) values)) ≡ noted ++ pages_mistakes number (items_view (drop i values))
mistakes-more number i values value noted more inside is e =
    let cut : items_view (drop i values) ≡ item (view value) (items_view (drop (i + 1) values)) =
    items_view-drop values i value inside ∙ ap (λ v. item (view v) (items_view (drop (i + 1) values))) is in
    ap (λ ms. ms ++ pages_mistakes (number + 1) (items_view (drop (i + 1) values))) e
    ∙ append_assoc noted (value_mistakes number (as_table (view value))) (pages_mistakes (number + 1) (items_view (drop (i + 1) values)))
    ∙ ap (λ ms. noted ++ ms) (sym (mistakes-item number _ _ (view value) cut))

pub mistakes-end : (number i : ℕ) (values : List Value) (noted : List Mistake) → length values ≤ i → noted ++ pages_mistakes number (items_view (drop i values)) ≡ noted
unfolding pages_mistakes
mistakes-end number i values noted past = ap (λ vs. noted ++ pages_mistakes number (items_view vs)) (drop_all i values past) ∙ append-nil noted

pub map_items-view : (values : List Value) → items_of (map (λ value. page_value (view value)) values) ≡ map_items page_value (items_view values)
map_items-view [] = refl
map_items-view (value ∷ values) = ap (item (page_value (view value))) (map_items-view values)

pub values-more : (i : ℕ) (values out more : List Value) (value made : Value) → i < length values → get_or values i value ≡ value → more ≡ out ++ made ∷ []
    → view made ≡ page_value (view value) → map view out ≡ map (λ v. page_value (view v)) (take i values)
    → map view more ≡ map (λ v. page_value (view v)) (take (i + 1) values)
values-more i values out more value made inside is pushed same so_far =
    let f : Value → Data = λ v. page_value (view v) in
    let here : take (i + 1) values ≡ take i values ++ value ∷ [] = take_more values i value inside ∙ ap (λ v. take i values ++ v ∷ []) is in
    ap (map view) pushed ∙ map-append view out (made ∷ []) ∙ ap (λ ds. ds ++ view made ∷ []) so_far ∙ ap (λ d. map f (take i values) ++ d ∷ []) same
    ∙ sym (map-append f (take i values) (value ∷ [])) ∙ ap (map f) (sym here)
