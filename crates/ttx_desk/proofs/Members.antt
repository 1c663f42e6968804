-- A key set and a key taken out, in the map of a table.
use Rattle.std.proofs.Common.{◌≡◌, ◌∙◌, ℕ, Bool, true, false, cond, List, [], ◌∷◌, ◌++◌, String, Global, Ordering, Less, Equal, Greater, nat_cmp, string_bytes, is_eq, refl, ap}
use Rattle.std.specs.Cmp.Lexicographic.{slice_cmp}
use Rattle.std.specs.Ordering.{match_ordering, ordering_reverse}
use Rattle.std.specs.BTreeMap.{insert_entry, is_at}
use Rattle.std.specs.Map.{remove_entry, keys_of}
use Rattle.std.specs.String.{string_cmp}
use Rattle.std.specs.List.{AllByRecursion}
use Rattle.std.specs.List.Sorted.{IsStrictlySortedBy}
use Rattle.std.proofs.lemmas.Cmp.{nat_list_cmp_total}
use Rattle.toml.specs.Data.{Members, member}
use Rattle.toml.specs.View.{view, members_view}
use Rattle.toml.specs.declared.value.Value.{Value}
use Rattle.toml.proofs.Views.{Entry}
use Rattle.ttx_desk.specs.Tables.{put, without}

match-members : (o : Ordering) (a b c : List Entry) → members_view (match_ordering o a b c) ≡ match_ordering o (members_view a) (members_view b) (members_view c)
match-members Less a b c = refl
match-members Equal a b c = refl
match-members Greater a b c = refl

-- what an insert into the map leaves
pub members-put : (es : List Entry) (k : String Global) (d : Value) → members_view (insert_entry string_cmp es k d) ≡ put (string_bytes k) (view d) (members_view es)
members-put [] k d = refl
members-put (e ∷ es) k d = match-members (string_cmp k e.0) _ _ _ ∙ rw (members-put es k d)

match-removed : (same : Bool) (e : Entry) (es rest : List Entry) (d : Members) → members_view rest ≡ d
    → members_view (cond same es (e ∷ rest)) ≡ cond same (members_view es) (member (string_bytes e.0) (view e.1) d)
match-removed true x es rest d e = refl
match-removed false x es rest d e = ap (member (string_bytes x.0) (view x.1)) e

-- what a removal from the map leaves
pub members-without : (key : List ℕ) (es : List Entry) → members_view (remove_entry (is_at (λ k. slice_cmp nat_cmp key (string_bytes k))) es) ≡ without key (members_view es)
members-without key [] = refl
members-without key (e ∷ es) = match-removed (is_eq (slice_cmp nat_cmp key (string_bytes e.0))) e es _ _ (members-without key es)

below_middle : (first : Entry) (es : List Entry) (e : Entry) (more : List Entry) → AllByRecursion (λ y. string_cmp first.0 y ≡ Less) (keys_of (es ++ e ∷ more)) → string_cmp first.0 e.0 ≡ Less
below_middle first [] e more h = h.0
below_middle first (x ∷ es) e more h = below_middle first es e more h.1

-- a key that is above those before it goes last
pub put_last : (done : List Entry) (e : Entry) (more : List Entry) → IsStrictlySortedBy string_cmp (keys_of (done ++ e ∷ more))
    → put (string_bytes e.0) (view e.1) (members_view done) ≡ members_view (done ++ e ∷ [])
unfolding IsStrictlySortedBy
put_last [] e more h = refl
put_last (first ∷ done) e more h =
    let above : slice_cmp nat_cmp (string_bytes e.0) (string_bytes first.0) ≡ Greater =
    nat_list_cmp_total.antisymm (string_bytes e.0) (string_bytes first.0) ∙ ap ordering_reverse (below_middle first done e more h.0) in
    rw above (ap (member (string_bytes first.0) (view first.1)) (put_last done e more h.1))
