-- The cursor confirms every named start, or stops at the least one without a sure run. The late start is the least one whose next
-- start comes too late.
use Rattle.std.proofs.Common.{◌≡◌, ◌↔◌, ℕ, suc, ◌+◌, ◌-◌, ◌<◌, ◌≤◌, ℤ, pos, ◌+ℤ◌, ◌<ℤ◌, ◌≤ℤ◌, true, false, ◌&&◌, if◌then◌else◌, ◌==◌, int_lt, nat_lt}
use Rattle.std.proofs.Common.{is_none, List, [], ◌∷◌, ◌++◌, length, slice_index_or, Option, Some, None, refl, sym, ap, ◌∙◌, subst, inl, inr, arith}
use Rattle.std.proofs.Common.{eqb-true}
use Rattle.std.specs.Prelude.{int_le}
use Rattle.std.specs.List.{AllByRecursion}
use Rattle.std.proofs.lemmas.Int.{ints}
use Rattle.std.proofs.lemmas.Bool.{cases_lt, cases_Bool, and_from, and_parts, cond_both, both_ways}
use Rattle.std.proofs.lemmas.Bool.Decides.{nat_tests}
use Rattle.ttx_page.proofs.SlotDistances.{cases_ltz}
use Rattle.ttx_witness.specs.runs.Transmissions.{Run, moved_run}
use Rattle.ttx_witness.specs.runs.Confirming.{Progress, Rising, confirmed, is_next, late_after, confirmed_runs, same_slot, after_runs, not_begun}
use Rattle.ttx_witness.specs.runs.Repeating.{FollowInTime}

abbrev pub taken : ℕ → List ℕ → Progress → Run → Progress
taken limit starts m run = record {
  next = m.next + 1;
  previous = run.owner;
  first_end = if m.next == 0 then run.end else m.first_end;
  late = late_after limit starts m run.end;
}

pub confirmed_yes : (limit : ℕ) (starts : List ℕ) (m : Progress) (r : Run) → is_next starts m.next r ≡ true → confirmed limit starts m r
    ≡ taken limit starts m r
unfolding confirmed
confirmed_yes limit starts m r e = cond_both (is_next starts m.next r) (taken limit starts m r) m (λ x. x ≡ taken limit starts m r)
    (λ _. refl) (λ f. absurd (both_ways _ f e))

confirmed_no : (limit : ℕ) (starts : List ℕ) (m : Progress) (r : Run) → is_next starts m.next r ≡ false → confirmed limit starts m r ≡ m
unfolding confirmed
confirmed_no limit starts m r e = cond_both (is_next starts m.next r) (taken limit starts m r) m (λ x. x ≡ m)
    (λ f. absurd (both_ways _ e f)) (λ _. refl)

chosen_yes : (starts : List ℕ) (next : ℕ) (r : Run) (rs : List Run) → is_next starts next r ≡ true → confirmed_runs starts next (r ∷ rs)
    ≡ r ∷ confirmed_runs starts (next + 1) rs
unfolding confirmed_runs
chosen_yes starts next r rs e = cond_both (is_next starts next r) _ _ (λ x. x ≡ r ∷ confirmed_runs starts (next + 1) rs) (λ _. refl)
    (λ f. absurd (both_ways _ f e))

chosen_no : (starts : List ℕ) (next : ℕ) (r : Run) (rs : List Run) → is_next starts next r ≡ false → confirmed_runs starts next (r ∷ rs)
    ≡ confirmed_runs starts next rs
unfolding confirmed_runs
chosen_no starts next r rs e = cond_both (is_next starts next r) _ _ (λ x. x ≡ confirmed_runs starts next rs)
    (λ f. absurd (both_ways _ e f)) (λ _. refl)

-- only the runs that confirm a start count
pub marked_chosen : (limit : ℕ) (starts : List ℕ) (m : Progress) (rs : List Run) → after_runs limit starts m rs
    ≡ after_runs limit starts m (confirmed_runs starts m.next rs)
unfolding after_runs confirmed_runs
marked_chosen limit starts m [] = refl
marked_chosen limit starts m (r ∷ rs) = elim (cases_Bool (is_next starts m.next r)) as
    (λ _. after_runs limit starts m (r ∷ rs) ≡ after_runs limit starts m (confirmed_runs starts m.next (r ∷ rs))) [
      | inl e ↦
          let c = confirmed_yes limit starts m r e in
          ap (λ x. after_runs limit starts x rs) c ∙ marked_chosen limit starts (taken limit starts m r) rs
          ∙ ap (λ x. after_runs limit starts x (confirmed_runs starts (m.next + 1) rs)) (sym c)
          ∙ ap (after_runs limit starts m) (sym (chosen_yes starts m.next r rs e))
      | inr e ↦
          let c = confirmed_no limit starts m r e in
          ap (λ x. after_runs limit starts x rs) c ∙ marked_chosen limit starts m rs
          ∙ ap (after_runs limit starts m) (sym (chosen_no starts m.next r rs e))
    ]

-- each run is the next in turn
abbrev pub Matches : List ℕ → ℕ → List Run → Type 0
Matches starts next [] = Unit {0}
Matches starts next (r ∷ rs) = (is_next starts next r ≡ true) × Matches starts (next + 1) rs

pub chosen_match : (starts : List ℕ) (next : ℕ) (rs : List Run) → Matches starts next (confirmed_runs starts next rs)
unfolding confirmed_runs
chosen_match starts next [] = tt
chosen_match starts next (r ∷ rs) = cond_both (is_next starts next r) _ _ (Matches starts next)
    (λ e. (e, chosen_match starts (next + 1) rs)) (λ e. chosen_match starts next rs)

-- how far the cursor goes
pub marked_next : (limit : ℕ) (starts : List ℕ) (m : Progress) (rs : List Run) → (after_runs limit starts m rs).next ≡ m.next
    + length (confirmed_runs starts m.next rs)
unfolding after_runs confirmed_runs
marked_next limit starts m [] = omega arith
marked_next limit starts m (r ∷ rs) = elim (cases_Bool (is_next starts m.next r)) as
    (λ _. (after_runs limit starts m (r ∷ rs)).next ≡ m.next + length (confirmed_runs starts m.next (r ∷ rs))) [
      | inl e ↦
          let c = confirmed_yes limit starts m r e in
          let i = marked_next limit starts (taken limit starts m r) rs in
          ap (λ x. (after_runs limit starts x rs).next) c ∙ i
          ∙ (let h : (m.next + 1) + length (confirmed_runs starts (m.next + 1) rs) ≡ m.next
          + suc (length (confirmed_runs starts (m.next + 1) rs)) = omega arith in h)
          ∙ ap (λ x. m.next + length x) (sym (chosen_yes starts m.next r rs e))
      | inr e ↦
          let c = confirmed_no limit starts m r e in
          ap (λ x. (after_runs limit starts x rs).next) c ∙ marked_next limit starts m rs
          ∙ ap (λ x. m.next + length x) (sym (chosen_no starts m.next r rs e))
    ]

some_none : {A : Type 0} {x : A} → Some x ≡ None → ⊥
some_none e = cc

none_is : {A : Type 0} (o : Option A) → is_none o ≡ true → o ≡ None
none_is None e = refl
none_is (Some x) e = cc

is_none_of : {A : Type 0} (o : Option A) → o ≡ None → is_none o ≡ true
is_none_of o e = ap is_none e

-- one pair of runs
late_one : (limit : ℕ) (starts : List ℕ) (m : Progress) (end : ℤ) → 1 ≤ m.next → (late_after limit starts m end ≡ None)
    ↔ ((m.late ≡ None) × (end ≤ℤ (m.previous +ℤ pos limit)))
late_one limit starts m end some = cond_both (m.next == 0) _ _ (λ x. (x ≡ None) ↔ ((m.late ≡ None) × (end ≤ℤ (m.previous +ℤ pos limit))))
    (λ e. let z = eqb-true _ _ e in absurd (omega arith))
    (λ _. cond_both (is_none m.late && int_lt (m.previous +ℤ pos limit) end) _ _
    (λ x. (x ≡ None) ↔ ((m.late ≡ None) × (end ≤ℤ (m.previous +ℤ pos limit))))
    (λ e. let g : int_lt (m.previous +ℤ pos limit) end ≡ true = (and_parts _ _ e).1
    in (
      (λ s. absurd (some_none s)),
      (λ b. let k = b.1 in absurd (let w : int_lt (m.previous +ℤ pos limit) end ≡ true = g in omega (arith, ints))),
    ))
    (λ e. ((λ s. (s, late_no s e)), (λ b. b.0))))
  where
    late_no : m.late ≡ None → (is_none m.late && int_lt (m.previous +ℤ pos limit) end) ≡ false → end ≤ℤ (m.previous +ℤ pos limit)
    late_no s e = elim (cases_Bool (int_lt (m.previous +ℤ pos limit) end)) as (λ _. end ≤ℤ (m.previous +ℤ pos limit)) [
      | inl t ↦ absurd (both_ways _ e (and_from _ _ (is_none_of _ s) t))
      | inr f ↦ omega (arith, ints)
    ]

-- a chain of confirming runs, and the one after them: none is late if and only if each follows in time
pub late_chain : (limit : ℕ) (starts : List ℕ) (m : Progress) (r : Run) (rs : List Run) (z : Run) → 1 ≤ m.next → m.previous ≡ r.owner →
    Matches starts m.next rs →
    (late_after limit starts (after_runs limit starts m rs) z.end ≡ None) ↔ ((m.late ≡ None) × FollowInTime limit r (rs ++ z ∷ []))
unfolding after_runs
late_chain limit starts m r [] z some prev a =
    let o = late_one limit starts m z.end some in (
      (λ e. let b = o.0 e in (b.0, (subst (λ x. z.end ≤ℤ (x +ℤ pos limit)) prev b.1, tt))),
      (λ b. o.1 (b.0, subst (λ x. z.end ≤ℤ (x +ℤ pos limit)) (sym prev) b.1.0)),
    )
late_chain limit starts m r (q ∷ rs) z some prev a =
    let c = confirmed_yes limit starts m q a.0 in
    let o = late_one limit starts m q.end some in
    let i = late_chain limit starts (taken limit starts m q) q rs z (omega arith) refl a.1 in (
      (λ e. let b = i.0 (ap (λ x. late_after limit starts (after_runs limit starts x rs) z.end) (sym c) ∙ e) in
          let d = o.0 b.0 in (d.0, (subst (λ x. q.end ≤ℤ (x +ℤ pos limit)) prev d.1, b.1))),
      (λ b. ap (λ x. late_after limit starts (after_runs limit starts x rs) z.end) c
          ∙ i.1 (o.1 (b.0, subst (λ x. q.end ≤ℤ (x +ℤ pos limit)) (sym prev) b.1.0), b.1.1)),
    )

pub first_end_kept : (limit : ℕ) (starts : List ℕ) (m : Progress) (rs : List Run) → 1 ≤ m.next → Matches starts m.next rs →
    (after_runs limit starts m rs).first_end ≡ m.first_end
unfolding after_runs
first_end_kept limit starts m [] some a = refl
first_end_kept limit starts m (q ∷ rs) some a =
    ap (λ x. (after_runs limit starts x rs).first_end) (confirmed_yes limit starts m q a.0)
    ∙ first_end_kept limit starts (taken limit starts m q) rs (omega arith) a.1
    ∙ cond_both (m.next == 0) q.end m.first_end (λ x. x ≡ m.first_end) (λ e. let z = eqb-true _ _ e in absurd (omega arith)) (λ e. refl)

-- the runs of a period and the first of the next follow in time if and only if nothing is late at the end
pub late_round : (limit : ℕ) (starts : List ℕ) (n : ℕ) (g : Run) (rs : List Run) → Matches starts 0 (g ∷ rs) → let m =
    after_runs limit starts not_begun (g ∷ rs) in
    (late_after limit starts m (m.first_end +ℤ pos n) ≡ None) ↔ FollowInTime limit g (rs ++ moved_run (pos n) g ∷ [])
unfolding after_runs
late_round limit starts n g rs a =
    let c = confirmed_yes limit starts not_begun g a.0 in
    let m1 = taken limit starts not_begun g in
    let f : (after_runs limit starts m1 rs).first_end ≡ g.end = first_end_kept limit starts m1 rs (omega arith) a.1 in
    let i = late_chain limit starts m1 g rs (moved_run (pos n) g) (omega arith) refl a.1 in
    let e : late_after limit starts (after_runs limit starts (confirmed limit starts not_begun g) rs)
    ((after_runs limit starts (confirmed limit starts not_begun g) rs).first_end +ℤ pos n)
    ≡ late_after limit starts (after_runs limit starts m1 rs) (g.end +ℤ pos n) =
    ap (λ x. late_after limit starts (after_runs limit starts x rs) ((after_runs limit starts x rs).first_end +ℤ pos n)) c
    ∙ ap (λ x. late_after limit starts (after_runs limit starts m1 rs) (x +ℤ pos n)) f in
    ((λ q. (i.0 (sym e ∙ q)).1), (λ st. e ∙ i.1 (refl, st)))

-- when a start is the next
abbrev pub named_at : List ℕ → ℕ → ℤ
named_at starts i = pos (slice_index_or starts i 0)

pub record IsNextRun (starts : List ℕ) (next : ℕ) (r : Run) : Type 0 where
  pub within : next < length starts
  pub start : named_at starts next ≡ r.start
  pub sure : r.sure ≡ true

pub same_slot_is : (a b : ℤ) → same_slot a b ≡ true → a ≡ b
same_slot_is a b e =
    let f : int_le a b ≡ true = (and_parts (int_le a b) (int_le b a) e).0 in
    let g : int_le b a ≡ true = (and_parts (int_le a b) (int_le b a) e).1 in
    omega (arith, ints)

pub is_same_slot : (a b : ℤ) → a ≡ b → same_slot a b ≡ true
is_same_slot a b e = and_from _ _ (le_true a b (omega (arith, ints))) (le_true b a (omega (arith, ints)))
  where
    le_true : (a b : ℤ) → a ≤ℤ b → int_le a b ≡ true
    le_true a b h = elim (cases_Bool (int_le a b)) as (λ _. int_le a b ≡ true) [ inl t ↦ t | inr f ↦ absurd (omega (arith, ints)) ]

pub next_is : (starts : List ℕ) (next : ℕ) (r : Run) → is_next starts next r ≡ true → IsNextRun starts next r
next_is starts next r e = record {
  within = let f : nat_lt next (length starts) ≡ true = (and_parts _ _ (and_parts _ _ e).0).0 in grind (arith, nat_tests);
  start = same_slot_is _ _ ((and_parts _ _ (and_parts _ _ e).0).1);
  sure = (and_parts _ _ e).1;
}

pub is_next_of : (starts : List ℕ) (next : ℕ) (r : Run) → next < length starts → named_at starts next ≡ r.start → r.sure ≡ true →
    is_next starts next r ≡ true
is_next_of starts next r lt e g = and_from _ _ (and_from _ _ (lt_true next (length starts) lt) (is_same_slot _ _ e)) g
  where
    lt_true : (a b : ℕ) → a < b → nat_lt a b ≡ true
    lt_true a b h = grind (arith, nat_tests)

abbrev pub RisesFrom : ℤ → List Run → Type 0
RisesFrom low [] = Unit {0}
RisesFrom low (r ∷ rs) = (low ≤ℤ r.start) × RisesFrom (r.start +ℤ pos 1) rs

-- no run of the list is sure and begins at the start
abbrev pub NoneFor : ℤ → List Run → Type 0
NoneFor x rs = AllByRecursion (λ r. r.start ≡ x → r.sure ≡ true → ⊥) rs

none_past : (x low : ℤ) (rs : List Run) → x <ℤ low → RisesFrom low rs → NoneFor x rs
none_past x low [] lt a = tt
none_past x low (r ∷ rs) lt a = (
  (λ e g. let k = a.0 in absurd (omega (arith, ints))),
  none_past x (r.start +ℤ pos 1) rs (let k = a.0 in omega (arith, ints)) a.1,
)

chosen_past : (starts : List ℕ) (next : ℕ) (low : ℤ) (rs : List Run) → named_at starts next <ℤ low → RisesFrom low rs →
    confirmed_runs starts next rs ≡ []
unfolding confirmed_runs
chosen_past starts next low [] lt a = refl
chosen_past starts next low (r ∷ rs) lt a = elim (cases_Bool (is_next starts next r)) as (λ _. confirmed_runs starts next (r ∷ rs) ≡ []) [
  | inl e ↦ let k = (next_is starts next r e).start in let b = a.0 in absurd (omega (arith, ints))
  | inr e ↦ chosen_no starts next r rs e ∙ chosen_past starts next (r.start +ℤ pos 1) rs (let b = a.0 in omega (arith, ints)) a.1
]

-- the start at which the cursor stops has no sure run
pub stuck : (starts : List ℕ) → Rising starts → (next : ℕ) (low : ℤ) (rs : List Run) → RisesFrom low rs →
    (next < length starts → low ≤ℤ named_at starts next) →
    (at : ℕ) → at ≡ next + length (confirmed_runs starts next rs) → at < length starts → NoneFor (named_at starts at) rs
unfolding confirmed_runs
stuck starts up next low [] a b at is lt = tt
stuck starts up next low (r ∷ rs) a b at is lt = elim (cases_Bool (is_next starts next r)) as (λ _. NoneFor (named_at starts at) (r ∷ rs)) [
  | inl e ↦
      let m = next_is starts next r e in
      let c = chosen_yes starts next r rs e in
      let w : at ≡ (next + 1) + length (confirmed_runs starts (next + 1) rs) = is ∙ ap (λ x. next + length x) c ∙ omega arith in
      let o : slice_index_or starts next 0 < slice_index_or starts at 0 = up next at (omega arith) lt in
      let k = m.start in (
        (λ q g. absurd (omega (arith, ints))),
        stuck starts up (next + 1) (r.start +ℤ pos 1) rs a.1
            (λ l. let u : slice_index_or starts next 0 < slice_index_or starts (next + 1) 0 = up next (next + 1) (omega arith) l
            in omega (arith, ints)) at w lt,
      )
  | inr e ↦
      let c = chosen_no starts next r rs e in
      let w : at ≡ next + length (confirmed_runs starts next rs) = is ∙ ap (λ x. next + length x) c in
      elim (cases_ltz r.start (named_at starts next)) as (λ _. NoneFor (named_at starts at) (r ∷ rs)) [
        | inl before ↦ (
          (λ q g. let o : slice_index_or starts next 0 ≤ slice_index_or starts at 0 = not_below starts up next at (omega arith) lt
              in absurd (omega (arith, ints))),
          stuck starts up next (r.start +ℤ pos 1) rs a.1 (λ l. omega (arith, ints)) at w lt,
        )
        | inr after ↦
            let z : confirmed_runs starts next rs ≡ [] = chosen_past starts next (r.start +ℤ pos 1) rs (omega (arith, ints)) a.1 in
            let y : at ≡ next = w ∙ ap (λ x. next + length x) z ∙ omega arith in
            subst (λ i. NoneFor (named_at starts i) (r ∷ rs)) (sym y) (
              (λ q g. both_ways _ e (is_next_of starts next r (subst (λ i. i < length starts) y lt) (sym q) g)),
              none_past (named_at starts next) (r.start +ℤ pos 1) rs (omega (arith, ints)) a.1,
            )
      ]
]
  where
    not_below : (starts : List ℕ) → Rising starts → (i j : ℕ) → i ≤ j → j < length starts → slice_index_or starts i 0 ≤ slice_index_or starts j 0
    not_below starts up i j le lt = elim (cases_lt i j) as (λ _. slice_index_or starts i 0 ≤ slice_index_or starts j 0) [
      | inl l ↦ let k = up i j l lt in omega arith
      | inr g ↦ let e : i ≡ j = omega arith in let k : slice_index_or starts i 0
          ≡ slice_index_or starts j 0 = ap (λ x. slice_index_or starts x 0) e in omega arith
    ]

pub match_bound : (starts : List ℕ) (next : ℕ) (rs : List Run) → Matches starts next rs → next ≤ length starts → next + length rs ≤ length starts
match_bound starts next [] m le = omega arith
match_bound starts next (r ∷ rs) m le = let q = (next_is starts next r m.0).within in let i =
    match_bound starts (next + 1) rs m.1 (omega arith) in omega arith

-- the least start whose next one comes too late
unfoldable pub first_late : ℕ → List ℕ → ℕ → Run → List Run → Option ℕ
first_late limit starts next r [] = None
first_late limit starts next r (q ∷ rs) = if int_lt (r.owner +ℤ pos limit) q.end then Some (slice_index_or starts next 0)
    else first_late limit starts (next + 1) q rs

late_some : (limit : ℕ) (starts : List ℕ) (m : Progress) (end : ℤ) (x : ℕ) → m.late ≡ Some x → late_after limit starts m end ≡ Some x
late_some limit starts m end x e = cond_both (m.next == 0) _ _ (λ z. z ≡ Some x) (λ _. e)
    (λ _. cond_both (is_none m.late && int_lt (m.previous +ℤ pos limit) end) _ _ (λ z. z ≡ Some x)
    (λ t. absurd (both_ways _ (ap is_none e) ((and_parts _ _ t).0))) (λ _. e))

stays_late : (limit : ℕ) (starts : List ℕ) (m : Progress) (rs : List Run) (z : Run) (x : ℕ) → m.late ≡ Some x →
    Matches starts m.next rs → late_after limit starts (after_runs limit starts m rs) z.end ≡ Some x
unfolding after_runs
stays_late limit starts m [] z x e a = late_some limit starts m z.end x e
stays_late limit starts m (q ∷ rs) z x e a =
    ap (λ y. late_after limit starts (after_runs limit starts y rs) z.end) (confirmed_yes limit starts m q a.0)
    ∙ stays_late limit starts (taken limit starts m q) rs z x (late_some limit starts m q.end x e) a.1

late_yes : (limit : ℕ) (starts : List ℕ) (m : Progress) (end : ℤ) (at : ℕ) → m.next ≡ at + 1 → m.late ≡ None →
    int_lt (m.previous +ℤ pos limit) end ≡ true → late_after limit starts m end ≡ Some (slice_index_or starts at 0)
late_yes limit starts m end at next none e = cond_both (m.next == 0) _ _ (λ z. z ≡ Some (slice_index_or starts at 0))
    (λ t. let z = eqb-true _ _ t in absurd (omega arith))
    (λ _. cond_both (is_none m.late && int_lt (m.previous +ℤ pos limit) end) _ _ (λ z. z ≡ Some (slice_index_or starts at 0))
    (λ _. ap (λ i. Some (slice_index_or starts i 0)) (let h : m.next - 1 ≡ at = omega arith in h))
    (λ f. absurd (both_ways _ f (and_from _ _ (is_none_of _ none) e))))

late_not : (limit : ℕ) (starts : List ℕ) (m : Progress) (end : ℤ) → int_lt (m.previous +ℤ pos limit) end ≡ false →
    late_after limit starts m end ≡ m.late
late_not limit starts m end e = cond_both (m.next == 0) _ _ (λ z. z ≡ m.late) (λ _. refl)
    (λ _. cond_both (is_none m.late && int_lt (m.previous +ℤ pos limit) end) _ _ (λ z. z ≡ m.late)
    (λ t. absurd (both_ways _ e ((and_parts _ _ t).1))) (λ _. refl))

-- the late start is the first one of the chain
pub late_is_first : (limit : ℕ) (starts : List ℕ) (m : Progress) (r : Run) (rs : List Run) (z : Run) (at : ℕ) → m.next ≡ at + 1 →
    m.previous ≡ r.owner → m.late ≡ None → Matches starts m.next rs →
    late_after limit starts (after_runs limit starts m rs) z.end ≡ first_late limit starts at r (rs ++ z ∷ [])
unfolding after_runs first_late
late_is_first limit starts m r [] z at next prev none a =
    cond_both (int_lt (r.owner +ℤ pos limit) z.end) _ _ (λ x. late_after limit starts m z.end ≡ x)
    (λ e. late_yes limit starts m z.end at next none (ap (λ x. int_lt (x +ℤ pos limit) z.end) prev ∙ e))
    (λ e. late_not limit starts m z.end (ap (λ x. int_lt (x +ℤ pos limit) z.end) prev ∙ e) ∙ none)
late_is_first limit starts m r (q ∷ rs) z at next prev none a =
    ap (λ y. late_after limit starts (after_runs limit starts y rs) z.end) (confirmed_yes limit starts m q a.0)
    ∙ cond_both (int_lt (r.owner +ℤ pos limit) q.end) _ _
    (λ x. late_after limit starts (after_runs limit starts (taken limit starts m q) rs) z.end ≡ x)
    (λ e. stays_late limit starts (taken limit starts m q) rs z (slice_index_or starts at 0)
    (late_yes limit starts m q.end at next none (ap (λ x. int_lt (x +ℤ pos limit) q.end) prev ∙ e)) a.1)
    (λ e. late_is_first limit starts (taken limit starts m q) q rs z (at + 1) (ap (λ x. x + 1) next) refl
    (late_not limit starts m q.end (ap (λ x. int_lt (x +ℤ pos limit) q.end) prev ∙ e) ∙ none) a.1)
