-- The values at the keys of a table, entry by entry. No two keys have the same name.
use Rattle.std.proofs.Common.{◌≡◌, ◌≢◌, ◌∙◌, ◌==◌, ◌<◌, ◌+◌, ℕ, suc, List, [], ◌∷◌, length, map, Option, Some, None}
use Rattle.std.proofs.Common.{String, Global, Bool, true, false, ap, sym, refl, if◌then◌else◌, get_or, set, get_or-set_same, get_or-set_other}
use Rattle.std.proofs.Common.{inl, inr, arith, Bor, subst, IfSome}
use Rattle.std.specs.List.{position}
use Rattle.std.specs.List.Sorted.{IsStrictlySortedBy}
use Rattle.std.specs.Map.{keys_of}
use Rattle.std.specs.Str.{bytes_eq}
use Rattle.std.specs.String.{string_cmp}
use Rattle.std.proofs.lemmas.Bool.{both_ways, cases_Bool}
use Rattle.std.proofs.lemmas.Bool.Decides.{nat_tests}
use Rattle.std.proofs.lemmas.Cmp.{nat_list_cmp_total, tied_itself}
use Rattle.std.proofs.lemmas.List.{get_or-map, ext_get_or, length-map}
use Rattle.std.proofs.lemmas.List.Folds.{list_any_at}
use Rattle.std.proofs.lemmas.List.FromFn.{get_or-range_with_len}
use Rattle.std.proofs.lemmas.List.Quantifiers.{position-Some}
use Rattle.std.proofs.lemmas.Map.Text.{is_eq-slice_cmp}
use Rattle.std.proofs.lemmas.Slice.Eq.{bytes_eq-Decides}
use Rattle.toml.specs.Data.{Data, Members, get_member, same_key}
use Rattle.toml.specs.View.{view, members_view}
use Rattle.toml.specs.declared.value.Value.{Value}
use Rattle.ttx_source.specs.Accepted.{all_keys, is_key_name, key_names}
use Rattle.ttx_source.proofs.RowTable.{seen}
use Rattle.ttx_source.proofs.RowValues.{last_member, last_is_only}

same_is : (k l : List ℕ) → same_key k l ≡ true → k ≡ l
same_is k l h = (bytes_eq-Decides k l).0 (sym (is_eq-slice_cmp k l) ∙ h)

is_false : (b : Bool) → (b ≡ true → ⊥) → b ≡ false
is_false true h = absurd (h refl)
is_false false h = refl

pub name_count : length key_names ≡ 28
unfolding key_names all_keys
name_count = refl

pub name_here : (r : ℕ) → r < 28 → r < length key_names
unfolding key_names all_keys
name_here r here = here

-- the place of a name
place_in : List (List ℕ) → List ℕ → ℕ
place_in [] name = 0
place_in (k ∷ ks) name = if bytes_eq k name then 0 else suc (place_in ks name)

place_at : (r : ℕ) → r < 28 → place_in key_names (get_or key_names r []) ≡ 0 + r
unfolding key_names all_keys place_in
place_at r within = sym (get_or-map (place_in key_names) key_names r [] 0 within) ∙ get_or-range_with_len 0 28 r 0 within

one_place : (r i : ℕ) → r < 28 → i < 28 → get_or key_names r [] ≡ get_or key_names i [] → r ≡ i
one_place r i here there same =
    let places : 0 + r ≡ 0 + i = sym (place_at r here) ∙ ap (place_in key_names) same ∙ place_at i there in
    omega (arith, places)

-- the place of the first key that has the name
pub placed : (keys : List (Bor (List ℕ) × Bor (List ℕ))) (name : List ℕ) (place : Option ℕ) → map (λ k. k.0.now) keys ≡ key_names
    → place ≡ position (λ k. bytes_eq k.0.now name) keys → IfSome place (λ i. (i < 28) × (get_or key_names i [] ≡ name))
placed keys name None same at = tt
placed keys name (Some i) same at =
    let none : Bor (List ℕ) = record { ref_ptr = (0, 0); now = [] } in
    let (inside, passes, first) = position-Some (λ (k : Bor (List ℕ) × Bor (List ℕ)). bytes_eq k.0.now name) keys i (none, none) (sym at) in (
      subst (λ n. i < n) (sym (length-map keys (λ k. k.0.now)) ∙ ap length same ∙ name_count) inside,
      subst (λ names. get_or names i [] ≡ (get_or keys i (none, none)).0.now) same (get_or-map (λ k. k.0.now) keys i (none, none) [] inside)
          ∙ (bytes_eq-Decides (get_or keys i (none, none)).0.now name).0 passes,
    )

-- the value at each key after one more was found
pub one_more : (values : List (Option (Bor Value))) (i r : ℕ) (key : List ℕ) (value : Bor Value) → length values ≡ 28 → i < 28 →
    get_or key_names i [] ≡ key → r < 28
    → seen (get_or (set values i (Some value)) r None)
    ≡ (if same_key (get_or key_names r []) key then Some (view value.now) else seen (get_or values r None))
one_more values i r key value long there at here =
    elim (cases_Bool (r == i)) [
      | inl same ↦
          let e : r ≡ i = grind (arith, nat_tests) in
          let inside : i < length values = omega (arith, long) in
          rw (e, get_or-set_same values i (Some value) None inside, at, tied_itself nat_list_cmp_total key) refl
      | inr other ↦
          let ne : r ≢ i = grind (arith, nat_tests) in
          let differs : same_key (get_or key_names r []) key ≡ false = is_false _ (λ h. ne (one_place r i here there (same_is _ _ h ∙ sym at))) in
          rw (get_or-set_other values i r (Some value) None ne, differs) refl
    ]

-- the name of no key is none of the names
pub other_name : (r : ℕ) (key : List ℕ) → r < 28 → is_key_name key ≡ false → same_key (get_or key_names r []) key ≡ false
other_name r key here other =
    is_false _ (λ h. both_ways _ other (list_any_at (λ name. bytes_eq name key) key_names r [] (name_here r here)
    ((bytes_eq-Decides (get_or key_names r []) key).1 (same_is _ _ h))))

pub none_more : (values : List (Option (Bor Value))) (r : ℕ) (key : List ℕ) (value : Data) → r < 28 → is_key_name key ≡ false
    → seen (get_or values r None) ≡ (if same_key (get_or key_names r []) key then Some value else seen (get_or values r None))
none_more values r key value here other = rw (other_name r key here other) refl

as_many : (f : List ℕ → Option Data) → 28 ≡ length (map f key_names)
unfolding key_names all_keys
as_many f = refl

pub all_values : (values : List (Option (Bor Value))) (es : List (String Global × Value)) → length values ≡ 28 →
    IsStrictlySortedBy string_cmp (keys_of es)
    → ((r : ℕ) → r < 28 → seen (get_or values r None) ≡ last_member (get_or key_names r []) (members_view es) None)
    → map seen values ≡ map (λ key. get_member key (members_view es)) key_names
all_values values es long ascend found =
    ext_get_or None (map seen values) (map (λ key. get_member key (members_view es)) key_names) (length-map values seen ∙ long ∙ as_many _)
    (λ r within. let here : r < 28 = subst (λ n. r < n) (length-map values seen ∙ long) within in
    get_or-map seen values r None None (subst (λ n. r < n) (sym long) here)
    ∙ found r here
    ∙ last_is_only (get_or key_names r []) es ascend
    ∙ sym (get_or-map (λ key. get_member key (members_view es)) key_names r [] None (name_here r here)))

-- the value at a place
pub value_at : (values : List (Option (Bor Value))) (table : Members) (i : ℕ) (d : Option (Bor Value)) (key : List ℕ) → i < 28 → get_or key_names i [] ≡ key
    → map seen values ≡ map (λ key. get_member key table) key_names → seen (get_or values i d) ≡ get_member key table
value_at values table i d key here at found =
    let inside : i < length values = subst (λ n. i < n) (as_many (λ key. get_member key table) ∙ sym (ap length found) ∙ length-map values seen) here in
    sym (get_or-map seen values i d None inside)
    ∙ ap (λ all. get_or all i None) found
    ∙ get_or-map (λ key. get_member key table) key_names i [] None (name_here i here)
    ∙ ap (λ k. get_member k table) at
