-- The runs that count, one by one.
use Rattle.std.proofs.Common.{◌≡◌, ◌↔◌, ℕ, zero, suc, ◌+◌, ◌-◌, ◌<◌, ◌≤◌, ℤ, pos, ◌+ℤ◌, ◌≤ℤ◌, Bool, true, false, ◌&&◌, nat_le, if◌then◌else◌, List}
use Rattle.std.proofs.Common.{[], ◌∷◌, map, take, drop, length, get_or, Option, Some, None, refl, sym, ap, ◌∙◌, subst, inl, inr, arith}
use Rattle.std.specs.Prelude.{MatchResult, Result, Ok, Err, is_ok}
use Rattle.std.specs.List.{filter, list_all}
use Rattle.std.proofs.lemmas.Int.{ints}
use Rattle.std.proofs.lemmas.Bool.{cases_lt}
use Rattle.std.proofs.lemmas.Bool.Decides.{nat_tests}
use Rattle.std.proofs.lemmas.List.{drop_more, length-drop, get_or-drop}
use Rattle.ttx_witness.specs.declared.runs.transmissions.Transmission.{Transmission}
use Rattle.ttx_witness.specs.declared.runs.transmissions.Run.{Run}
use Rattle.ttx_witness.specs.runs.Transmissions.{windows, run_of, last_slot, all_sure}
use Rattle.ttx_witness.specs.runs.Confirming.{Rising}
use Rattle.ttx_witness.specs.runs.Repeating.{FollowInTime}
use Rattle.ttx_proof.specs.Bridging.{is_start_among, counts_first, counted, is_late, FollowsAfter}
use Rattle.ttx_proof.proofs.NamedStarts.{found, among}
use Rattle.ttx_proof.proofs.RunsInWindows.{windows_yes, windows_no, cases_Bool}

-- the search among starts that rise
pub rising_stays : (starts : List ℕ) → Rising starts → (i j : ℕ) → i ≤ j → j < length starts → get_or starts i 0 ≤ get_or starts j 0
rising_stays starts up i j le lt = elim (cases_lt i j) as (λ _. get_or starts i 0 ≤ get_or starts j 0) [
  | inl below ↦ let k = up i j below lt in omega arith
  | inr ge ↦ let e : i ≡ j = omega arith in let k = ap (λ x. get_or starts x 0) e in omega arith
]

pub search_tells : (starts : List ℕ) (start : ℕ) (r : Result ℕ ℕ) →
    MatchResult r (λ i. (i < length starts) × (get_or starts i 0 ≡ start))
    (λ i. (i ≤ length starts) × ((k : ℕ) → k < i → get_or starts k 0 < start)
    × ((k : ℕ) → i ≤ k → k < length starts → start < get_or starts k 0)) → is_ok r ≡ is_start_among starts start
search_tells starts start (Ok i) h = sym (among starts start i h.0 h.1)
search_tells starts start (Err i) h = elim (cases_Bool (is_start_among starts start)) as (λ _. false ≡ is_start_among starts start) [
  | inr e ↦ sym e
  | inl e ↦
      let k = found starts start e in
      elim (cases_lt k.0 i) as (λ _. false ≡ is_start_among starts start) [
        | inl lt ↦ absurd (let a = h.1 k.0 lt in let b = k.2 in omega arith)
        | inr ge ↦ absurd (let a = h.2 k.0 ge k.1 in let b = k.2 in omega arith)
      ]
]

module _ (named : ℤ → Bool) (k : ℕ) where
  long_enough : (b c : Bool) (n m : ℕ) → n ≤ m → (nat_le n m && b && c) ≡ (b && c)
  long_enough b c n m le = elim (cases_Bool (nat_le n m)) as
      (λ _. (nat_le n m && b && c) ≡ (b && c))
      [ inl e ↦ ap (λ x. x && b && c) e | inr e ↦ absurd (let h : n ≤ m = le in grind (arith, nat_tests)) ]

  too_short : (b c : Bool) (n m : ℕ) → m < n → (nat_le n m && b && c) ≡ false
  too_short b c n m lt = elim (cases_Bool (nat_le n m)) as
      (λ _. (nat_le n m && b && c) ≡ false)
      [ inl e ↦ absurd (let h : m < n = lt in grind (arith, nat_tests)) | inr e ↦ ap (λ x. x && b && c) e ]

  pub counts_short : (ts : List Transmission) → length ts < suc k → counts_first named k ts ≡ false
  counts_short ts lt = too_short (named (run_of (take (suc k) ts)).start) (run_of (take (suc k) ts)).sure (suc k) (length ts) lt

  pub counts_long : (t : Transmission) (ts : List Transmission) → suc k ≤ length (t ∷ ts) → counts_first named k (t ∷ ts)
      ≡ (named t.slot && list_all (λ t. t.sure) (take (suc k) (t ∷ ts)))
  counts_long t ts le = long_enough (named t.slot) (all_sure (take (suc k) (t ∷ ts))) (suc k) (suc (length ts)) le

  windows_short : (ts : List Transmission) → length ts < suc k → windows (suc k) ts ≡ []
  unfolding windows
  windows_short [] lt = refl
  windows_short (t ∷ ts) lt = windows_no (suc k) t ts lt

  filter_yes : (r : Run) (rs : List Run) → (named r.start && r.sure) ≡ true → filter (λ r. named r.start && r.sure) (r ∷ rs) ≡ r
      ∷ filter (λ r. named r.start && r.sure) rs
  filter_yes r rs e = by (named r.start && r.sure) e
    where
      by : (b : Bool) → b ≡ true → (if b then r ∷ filter (λ r. named r.start && r.sure) rs
          else filter (λ r. named r.start && r.sure) rs) ≡ r ∷ filter (λ r. named r.start && r.sure) rs
      by true e = refl
      by false e = cc

  filter_no : (r : Run) (rs : List Run) → (named r.start && r.sure) ≡ false → filter (λ r. named r.start && r.sure) (r ∷ rs)
      ≡ filter (λ r. named r.start && r.sure) rs
  filter_no r rs e = by (named r.start && r.sure) e
    where
      by : (b : Bool) → b ≡ false → (if b then r ∷ filter (λ r. named r.start && r.sure) rs
          else filter (λ r. named r.start && r.sure) rs) ≡ filter (λ r. named r.start && r.sure) rs
      by true e = cc
      by false e = refl

  abbrev of_windows : List (List Transmission) → List Run
  of_windows ws = filter (λ r. named r.start && r.sure) (map run_of ws)

  -- a run that counts comes first, or the rest decides
  pub counted_yes : (t : Transmission) (ts : List Transmission) → counts_first named k (t ∷ ts) ≡ true → (suc k ≤ length (t ∷ ts))
      × (counted named k (t ∷ ts) ≡ run_of (take (suc k) (t ∷ ts)) ∷ counted named k ts)
  counted_yes t ts e = elim (cases_lt (suc (length ts)) (suc k)) as
      (λ _. (suc k ≤ length (t ∷ ts)) × (counted named k (t ∷ ts) ≡ run_of (take (suc k) (t ∷ ts)) ∷ counted named k ts)) [
        | inl lt ↦ absurd (let f = counts_short (t ∷ ts) lt in cc)
        | inr ge ↦ (
          ge,
          ap of_windows (windows_yes (suc k) t ts ge)
              ∙ filter_yes (run_of (take (suc k) (t ∷ ts))) (map run_of (windows (suc k) ts)) (sym (counts_long t ts ge) ∙ e),
        )
      ]

  pub counted_no : (t : Transmission) (ts : List Transmission) → counts_first named k (t ∷ ts) ≡ false → counted named k (t ∷ ts) ≡ counted named k ts
  counted_no t ts e = elim (cases_lt (suc (length ts)) (suc k)) as (λ _. counted named k (t ∷ ts) ≡ counted named k ts) [
    | inl lt ↦ ap of_windows (windows_no (suc k) t ts lt) ∙ sym (ap of_windows (windows_short ts (omega arith)))
    | inr ge ↦ ap of_windows (windows_yes (suc k) t ts ge)
        ∙ filter_no (run_of (take (suc k) (t ∷ ts))) (map run_of (windows (suc k) ts)) (sym (counts_long t ts ge) ∙ e)
  ]

-- the end of a run
pub end_is : (k : ℕ) (t : Transmission) (ts : List Transmission) (d : Transmission) → suc k ≤ length (t ∷ ts) →
    last_slot t.slot (take k ts) ≡ (get_or (t ∷ ts) k d).slot
end_is zero t ts d le = refl
end_is (suc k) t [] d le = absurd (omega arith)
end_is (suc k) t (u ∷ us) d le = end_is k u us d (omega arith)

-- the first transmissions from a place on
pub counts_at : (named : ℤ → Bool) (k : ℕ) (sent : List Transmission) (at : ℕ) (d : Transmission) → at < length sent → suc k
    ≤ length sent - at → named (get_or sent at d).slot ≡ true →
    counts_first named k (drop at sent) ≡ list_all (λ t. t.sure) (take (suc k) (drop at sent))
counts_at named k sent at d lt le here =
    let e = drop_more sent at d lt in
    let size = length-drop at sent in
    let more = length-drop (at + 1) sent in
    subst (λ ts. counts_first named k ts ≡ list_all (λ t. t.sure) (take (suc k) ts)) (sym e)
    (counts_long named k (get_or sent at d) (drop (at + 1) sent) (omega arith)
    ∙ ap (λ x. x && list_all (λ t. t.sure) (take (suc k) (get_or sent at d ∷ drop (at + 1) sent))) here)

-- the owner of the previous run is replaced
pub follow_in : (limit : ℕ) (r : Run) (rs : List Run) → FollowInTime limit r rs ↔ FollowsAfter limit (Some r.owner) rs
follow_in limit r [] = (λ a. a, λ a. a)
follow_in limit r (q ∷ rs) = (λ a. a, λ a. a)

pub follow_on : (limit : ℕ) (previous : Option ℤ) (r : Run) (rs : List Run) → is_late previous limit r.end ≡ false →
    FollowsAfter limit previous (r ∷ rs) ↔ FollowsAfter limit (Some r.owner) rs
follow_on limit None r rs e = follow_in limit r rs
follow_on limit (Some owner) r rs e =
    let le : r.end ≤ℤ (owner +ℤ pos limit) = omega (arith, ints) in
    ((λ a. (follow_in limit r rs).0 a.1), (λ a. (le, (follow_in limit r rs).1 a)))

pub follow_late : (limit : ℕ) (previous : Option ℤ) (r : Run) (rs : List Run) → is_late previous limit r.end ≡ true →
    FollowsAfter limit previous (r ∷ rs) → ⊥
follow_late limit None r rs e a = cc
follow_late limit (Some owner) r rs e a = let k = a.0 in omega (arith, ints)

pub follow_end : (limit : ℕ) (previous : Option ℤ) → FollowsAfter limit previous []
follow_end limit None = tt
follow_end limit (Some owner) = tt

-- after one more place: the run that begins there counts and is not late, or it does not count
module _ (named : ℤ → Bool) (k limit : ℕ) (sent : List Transmission) (at : ℕ) (d : Transmission) (lt : at < length sent) where
  left_is : drop at sent ≡ get_or sent at d ∷ drop (at + 1) sent
  left_is = drop_more sent at d lt

  last_is : (ts : List Transmission) → drop at sent ≡ ts → suc k ≤ length ts → (get_or ts k d).slot ≡ (get_or sent (at + k) d).slot
  last_is ts e le = ap (λ t. t.slot) (ap (λ x. get_or x k d) (sym e) ∙ get_or-drop at sent k d)

  pub counted_on : (previous : Option ℤ) → counts_first named k (drop at sent) ≡ true → is_late previous limit (get_or sent (at + k) d).slot ≡ false →
      FollowsAfter limit previous (counted named k (drop at sent))
      ↔ FollowsAfter limit (Some (get_or sent at d).owner) (counted named k (drop (at + 1) sent))
  counted_on previous e f =
      let y = counted_yes named k (get_or sent at d) (drop (at + 1) sent) (ap (counts_first named k) (sym left_is) ∙ e) in
      let r = run_of (take (suc k) (get_or sent at d ∷ drop (at + 1) sent)) in
      let end : r.end ≡ (get_or sent (at + k) d).slot = end_is k (get_or sent at d) (drop (at + 1) sent) d y.0
      ∙ last_is (get_or sent at d ∷ drop (at + 1) sent) left_is y.0 in
      subst (λ ts. FollowsAfter limit previous (counted named k ts)
      ↔ FollowsAfter limit (Some (get_or sent at d).owner) (counted named k (drop (at + 1) sent))) (sym left_is)
      (subst (λ rs. FollowsAfter limit previous rs
      ↔ FollowsAfter limit (Some (get_or sent at d).owner) (counted named k (drop (at + 1) sent))) (sym y.1)
      (follow_on limit previous r (counted named k (drop (at + 1) sent)) (ap (is_late previous limit) end ∙ f)))

  pub counted_late : (previous : Option ℤ) → counts_first named k (drop at sent) ≡ true →
      is_late previous limit (get_or sent (at + k) d).slot ≡ true →
      FollowsAfter limit previous (counted named k (drop at sent)) → ⊥
  counted_late previous e f =
      let y = counted_yes named k (get_or sent at d) (drop (at + 1) sent) (ap (counts_first named k) (sym left_is) ∙ e) in
      let r = run_of (take (suc k) (get_or sent at d ∷ drop (at + 1) sent)) in
      let end : r.end ≡ (get_or sent (at + k) d).slot = end_is k (get_or sent at d) (drop (at + 1) sent) d y.0
      ∙ last_is (get_or sent at d ∷ drop (at + 1) sent) left_is y.0 in
      subst (λ ts. FollowsAfter limit previous (counted named k ts) → ⊥) (sym left_is)
      (subst (λ rs. FollowsAfter limit previous rs → ⊥) (sym y.1)
      (follow_late limit previous r (counted named k (drop (at + 1) sent)) (ap (is_late previous limit) end ∙ f)))

  pub counted_off : (previous : Option ℤ) → counts_first named k (drop at sent) ≡ false →
      FollowsAfter limit previous (counted named k (drop at sent)) ↔ FollowsAfter limit previous (counted named k (drop (at + 1) sent))
  counted_off previous e =
      let n = counted_no named k (get_or sent at d) (drop (at + 1) sent) (ap (counts_first named k) (sym left_is) ∙ e) in
      subst (λ rs. FollowsAfter limit previous rs ↔ FollowsAfter limit previous (counted named k (drop (at + 1) sent)))
      (sym (ap (counted named k) left_is ∙ n)) ((λ a. a), (λ a. a))

pub no_run : (named : ℤ → Bool) (k limit : ℕ) (previous : Option ℤ) → FollowsAfter limit previous (counted named k [])
unfolding windows
no_run named k limit previous = follow_end limit previous

-- what is past the end of a list
abbrev pub nothing : Transmission
nothing = record { slot = pos 0; owner = pos 0; sure = false }
