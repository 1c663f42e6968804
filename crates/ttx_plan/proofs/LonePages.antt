-- A page that is alone in its number: no other page weighs on its places, and it takes no turns.
use Rattle.std.proofs.Common.{◌≡◌, ℕ, zero, suc, ◌+◌, ◌*◌, ◌%◌, ◌/◌, ◌<◌, Bool, true, false, cond, eqb, ◌&&◌, List, length}
use Rattle.std.proofs.Common.{Option, Some, None, refl, sym, ap, ◌∙◌, arith, inl, inr, get_or}
use Rattle.std.specs.Prelude.{slice_get}
use Rattle.std.specs.List.{count_by}
use Rattle.std.proofs.lemmas.Bool.{cond-true, cases_eq, cases_lt, eq-eqb, eqb-true, le-ltb, and_parts, and_right, or_from}
use Rattle.std.proofs.lemmas.List.Sums.{passes_at_first}
use Rattle.std.proofs.lemmas.Option.{slice_get_within, get_or_from_slice_get}
use Rattle.ttx_source.specs.Services.{Authored}
use Rattle.ttx_plan.specs.Spreading.{number_of}
use Rattle.ttx_plan.specs.SubpageTurns.{share_number, take_turns, first_of_turns, turn, turn_of, comes_before, is_mate_or_none, is_earlier_mate}
use Rattle.ttx_plan.specs.SubpageTurns.{count_below, mates_so_far, burden}
use Rattle.ttx_plan.proofs.SpreadBurdens.{first_not_after}
use Rattle.ttx_plan.proofs.SubpageLists.{listed_at, count_two}

-- one page has the number
abbrev pub IsAlone : List Authored → Authored → Type 0
IsAlone pages p = ◌≡◌ {A = ℕ} (count_by (λ q. eqb (number_of q) (number_of p)) pages) 1

same_number : (p q : Authored) → share_number p q ≡ true → eqb (number_of q) (number_of p) ≡ true
same_number p q t =
    let two = and_parts (eqb p.page.id.mag q.page.id.mag) (eqb p.page.id.page q.page.id.page) t in
    let mag = eqb-true p.page.id.mag q.page.id.mag two.0 in
    let page = eqb-true p.page.id.page q.page.id.page two.1 in
    eq-eqb (number_of q) (number_of p) (ap (λ m. m * 256 + q.page.id.page) (sym mag) ∙ ap (λ n. p.page.id.mag * 256 + n) (sym page))

only_one : (pages : List Authored) (p q : Authored) (at k : ℕ) → IsAlone pages p → slice_get pages at ≡ Some p → slice_get pages k ≡ Some q →
    share_number p q ≡ true → k ≡ at
only_one pages p q at k alone e f t = elim (cases_eq k at) [
  | inl same ↦ same
  | inr apart ↦
      let own = eq-eqb (number_of p) (number_of p) refl in
      let other = same_number p q t in
      elim (cases_lt k at) [
        | inl lt ↦ absurd (omega (arith, alone, count_two (λ x. eqb (number_of x) (number_of p)) pages k at q p lt f e other own))
        | inr le ↦
            let lt : at < k = omega (arith, le, apart) in
            absurd (omega (arith, alone, count_two (λ x. eqb (number_of x) (number_of p)) pages at k p q lt e f own other))
      ]
]

not_itself : (p q : Authored) (at other : ℕ) → other ≡ at → q ≡ p → comes_before at p other q ≡ false
not_itself p q at other same is =
    ap (λ k. comes_before at p k q) same ∙ ap (comes_before at p at) is
    ∙ or_from _ _ (le-ltb p.often p.often (omega arith)) (and_right (eqb p.often p.often) _ (le-ltb at at (omega arith)))

no_mate : (pages : List Authored) (places : List ℕ) (at : ℕ) (p : Authored) (round other : ℕ) → IsAlone pages p → slice_get pages at ≡ Some p →
    is_earlier_mate pages places at p round other ≡ false
no_mate pages places at p round other alone e = by (slice_get pages other) (λ q f t.
    let same : other ≡ at = only_one pages p q at other alone e f t in
    let is : Some q ≡ Some p = sym f ∙ ap (slice_get pages) same ∙ e in
    not_itself p q at other same cc)
  where
    neither : (a b c : Bool) → (a ≡ true → b ≡ false) → ((a && b) && c) ≡ false
    neither true true c h = let e : true ≡ false = h refl in cc
    neither true false c h = refl
    neither false b c h = refl

    by : (o : Option Authored) → ((q : Authored) → o ≡ Some q → share_number p q ≡ true → comes_before at p other q ≡ false) →
        is_mate_or_none at p round other (get_or places other 0) o ≡ false
    by None h = refl
    by (Some q) h = neither (share_number p q) (comes_before at p other q) (eqb (round % (8 / q.often)) (get_or places other 0)) (h q refl)

none_below : (n : ℕ) (test : ℕ → Bool) → ((k : ℕ) → test k ≡ false) → count_below n test ≡ 0
none_below zero test none = refl
none_below (suc n) test none =
    ap (λ m. m + cond {A = ℕ} (test n) 1 0) (none_below n test none) ∙ ap (λ (b : Bool). 0 + cond {A = ℕ} b 1 0) (none n)

no_turn : (pages : List Authored) (places : List ℕ) (at : ℕ) (p : Authored) → IsAlone pages p → slice_get pages at ≡ Some p →
    turn_of pages places at p ≡ None
no_turn pages places at p alone e =
    let le = first_not_after pages at p e in
    let w = slice_get_within pages at p e in
    let within : first_of_turns pages p < length pages = omega (arith, le, w) in
    let q = listed_at pages (first_of_turns pages p) within in
    let here : get_or pages (first_of_turns pages p) p ≡ q.0 = get_or_from_slice_get pages (first_of_turns pages p) q.0 p q.1 in
    let takes : take_turns p q.0 ≡ true = ap (take_turns p) (sym here) ∙ passes_at_first (take_turns p) pages p within in
    let same : first_of_turns pages p ≡ at =
    only_one pages p q.0 at (first_of_turns pages p) alone e q.1 (and_parts (share_number p q.0) (eqb p.often q.0.often) takes).0 in
    cond-true (eqb (first_of_turns pages p) at) None (Some (turn pages places p)) (eq-eqb (first_of_turns pages p) at same)

-- so its burden is the packets alone
pub lone_burden : (pages : List Authored) (places : List ℕ) (at : ℕ) (p : Authored) (packets round : ℕ) → IsAlone pages p →
    slice_get pages at ≡ Some p → packets ≡ burden pages places at p packets round
lone_burden pages places at p packets round alone e =
    let mates : mates_so_far pages places at p round ≡ 0 =
    none_below (length pages) (is_earlier_mate pages places at p round) (λ k. no_mate pages places at p round k alone e) in
    rw (mates, no_turn pages places at p alone e) (omega arith)
