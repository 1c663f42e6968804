-- The values of a table of rows, entry by entry. The keys ascend, so no later entry has the key of an earlier one.
use Rattle.std.proofs.Common.{◌≡◌, ◌≢◌, ◌∙◌, ◌==◌, ◌<◌, ◌+◌, ℕ, List, [], ◌∷◌, length}
use Rattle.std.proofs.Common.{map, Option, Some, None, String, string_bytes, Global, nat_cmp, Bool, false}
use Rattle.std.proofs.Common.{Ordering, Less, Equal, Greater, is_eq, ap, sym}
use Rattle.std.proofs.Common.{refl, true, if◌then◌else◌, get_or, set, get_or-set_same, get_or-set_other}
use Rattle.std.proofs.Common.{inl, inr, arith, is_some, Bor, subst}
use Rattle.std.specs.Cmp.Lexicographic.{slice_cmp}
use Rattle.std.specs.List.{AllByRecursion, list_any, position, position_from}
use Rattle.std.specs.List.Sorted.{IsStrictlySortedBy}
use Rattle.std.specs.Map.{keys_of}
use Rattle.std.specs.Ordering.{match_ordering}
use Rattle.std.specs.String.{string_cmp}
use Rattle.std.proofs.lemmas.Bool.{cases_Bool}
use Rattle.std.proofs.lemmas.Bool.Decides.{nat_tests}
use Rattle.std.proofs.lemmas.Cmp.{nat_list_cmp_total, tied_itself}
use Rattle.std.proofs.lemmas.Iterator.Adapters.{position_from-zero}
use Rattle.std.proofs.lemmas.List.{get_or-map, ext_get_or, length-map}
use Rattle.std.proofs.lemmas.List.FromFn.{get_or-range_with_len}
use Rattle.std.proofs.lemmas.Map.Text.{is_eq-slice_cmp}
use Rattle.std.proofs.lemmas.Slice.Eq.{bytes_eq-Decides}
use Rattle.toml.specs.Data.{Data, Members, no_members, member, get_member, same_key}
use Rattle.toml.specs.View.{view, members_view}
use Rattle.toml.specs.declared.value.Value.{Value}
use Rattle.ttx_digits.specs.Digits.{decimal_after}
use Rattle.ttx_source.specs.Keys.{row_keys, is_row_key, keys_pass}
use Rattle.ttx_source.proofs.RowTable.{seen}

-- the value at a key in the last entry that has it; otherwise what was found before
abbrev pub last_member : List ℕ → Members → Option Data → Option Data
last_member key no_members found = found
last_member key (member k value table) found = last_member key table (if same_key key k then Some value else found)

same_is : (k l : List ℕ) → same_key k l ≡ true → k ≡ l
same_is k l h = (bytes_eq-Decides k l).0 (sym (is_eq-slice_cmp k l) ∙ h)

-- keys above a key differ from it
above_are_others : (key : String Global) (es : List (String Global × Value)) (found : Option Data) →
    AllByRecursion (λ k. string_cmp key k ≡ Less) (keys_of es)
    → last_member (string_bytes key) (members_view es) found ≡ found
above_are_others key [] found above = refl
above_are_others key (e ∷ es) found above = rw (last_member, above.0) (above_are_others key es found above.1)

first_is_last : (o : Ordering) (key : List ℕ) (e : String Global × Value) (es : List (String Global × Value)) →
    slice_cmp nat_cmp key (string_bytes e.0) ≡ o
    → AllByRecursion (λ k. string_cmp e.0 k ≡ Less) (keys_of es) → (rest : Option Data) → last_member key (members_view es) None ≡ rest
    → last_member key (members_view es) (if is_eq o then Some (view e.1) else None) ≡ match_ordering o rest (Some (view e.1)) rest
first_is_last Less key e es order above rest h = h
first_is_last Equal key e es order above rest h =
    let same : key ≡ string_bytes e.0 = same_is key (string_bytes e.0) (ap is_eq order) in
    rw same (above_are_others e.0 es (Some (view e.1)) above)
first_is_last Greater key e es order above rest h = h

-- a table has each key once
pub last_is_only : (key : List ℕ) (es : List (String Global × Value)) → IsStrictlySortedBy string_cmp (keys_of es)
    → last_member key (members_view es) None ≡ get_member key (members_view es)
unfolding IsStrictlySortedBy
last_is_only key [] ascend = refl
last_is_only key (e ∷ es) ascend =
    first_is_last (slice_cmp nat_cmp key (string_bytes e.0)) key e es refl ascend.0 _ (last_is_only key es ascend.1)

-- the keys are the numbers from 1 on
number_at : (r : ℕ) → r < 24 → decimal_after 0 (get_or row_keys r []) ≡ 1 + r
unfolding row_keys
number_at r within = sym (get_or-map (decimal_after 0) row_keys r [] 0 within) ∙ get_or-range_with_len 1 24 r 0 within

one_place : (r i : ℕ) → r < 24 → i < 24 → get_or row_keys r [] ≡ get_or row_keys i [] → r ≡ i
one_place r i here there same =
    let numbers : 1 + r ≡ 1 + i = sym (number_at r here) ∙ ap (decimal_after 0) same ∙ number_at i there in
    omega (arith, numbers)

-- the value at each row's number after one more was found
pub one_more : (values : List (Option (Bor Value))) (i r : ℕ) (key : List ℕ) (value : Bor Value) → length values ≡ 24 → i < 24 →
    get_or row_keys i [] ≡ key → r < 24
    → seen (get_or (set values i (Some value)) r None)
    ≡ (if same_key (get_or row_keys r []) key then Some (view value.now) else seen (get_or values r None))
one_more values i r key value long there at here =
    elim (cases_Bool (r == i)) [
      | inl same ↦
          let e : r ≡ i = grind (arith, nat_tests) in
          let inside : i < length values = omega (arith, long) in
          rw (e, get_or-set_same values i (Some value) None inside, at, tied_itself nat_list_cmp_total key) refl
      | inr other ↦
          let ne : r ≢ i = grind (arith, nat_tests) in
          let differs : same_key (get_or row_keys r []) key ≡ false = is_false _ (λ h. ne (one_place r i here there (same_is _ _ h ∙ sym at))) in
          rw (get_or-set_other values i r (Some value) None ne, differs) refl
    ]
  where
    is_false : (b : Bool) → (b ≡ true → ⊥) → b ≡ false
    is_false true h = absurd (h refl)
    is_false false h = refl

as_many : (f : List ℕ → Option Data) → 24 ≡ length (map f row_keys)
unfolding row_keys
as_many f = refl

pub row_count : length row_keys ≡ 24
unfolding row_keys
row_count = refl

pub row_here : (r : ℕ) → r < 24 → r < length row_keys
unfolding row_keys
row_here r here = here

pub all_values : (values : List (Option (Bor Value))) (es : List (String Global × Value)) → length values ≡ 24 →
    IsStrictlySortedBy string_cmp (keys_of es)
    → ((r : ℕ) → r < 24 → seen (get_or values r None) ≡ last_member (get_or row_keys r []) (members_view es) None)
    → map seen values ≡ map (λ key. get_member key (members_view es)) row_keys
all_values values es long ascend found =
    ext_get_or None (map seen values) (map (λ key. get_member key (members_view es)) row_keys) (length-map values seen ∙ long ∙ as_many _)
    (λ r within. let here : r < 24 = subst (λ n. r < n) (length-map values seen ∙ long) within in
    get_or-map seen values r None None (subst (λ n. r < n) (sym long) here)
    ∙ found r here
    ∙ last_is_only (get_or row_keys r []) es ascend
    ∙ sym (get_or-map (λ key. get_member key (members_view es)) row_keys r [] None (row_here r here)))

-- a position is found if and only if some element passes
pub is_some-position : {A : Type 0} (p : A → Bool) (xs : List A) → is_some (position p xs) ≡ list_any p xs
is_some-position {A = A} p xs = ap is_some (position_from-zero p xs) ∙ found 0 xs
  where
    found : (n : ℕ) (xs : List A) → is_some (position_from p n xs) ≡ list_any p xs
    found n [] = refl
    found n (x ∷ xs) =
        elim (cases_Bool (p x)) [
          | inl passes ↦ rw passes refl
          | inr fails ↦ rw fails (found (n + 1) xs)
        ]

pub keys_more : (k : List ℕ) (v : Data) (table : Members) → is_row_key k ≡ true → keys_pass is_row_key (member k v table) ≡ keys_pass is_row_key table
keys_more k v table h = rw h

pub keys_fault : (k : List ℕ) (v : Data) (table : Members) → is_row_key k ≡ false → keys_pass is_row_key (member k v table) ≡ false
keys_fault k v table h = rw h
