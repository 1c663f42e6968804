-- One more transmission, in what is held.
use Rattle.std.proofs.Common.{◌≡◌, ℕ, zero, suc, ◌+◌, ◌-◌, ◌<◌, ◌≤◌, if◌then◌else◌, ◌==◌, nat_lt, List, [], ◌∷◌, ◌++◌, Option, Some, None, map, take}
use Rattle.std.proofs.Common.{drop, length, refl, sym, ap, ◌∙◌, subst, inl, inr, arith, length-append, slice_get, eqb-true, eq-eqb, unsigned_abs}
use Rattle.std.proofs.lemmas.List.{map-append, take-append-le, length-take-le, length-drop, drop-append-le, drop-drop}
use Rattle.std.proofs.lemmas.Bool.{cases_lt, cond_both, both_ways}
use Rattle.std.proofs.lemmas.Bool.Decides.{nat_tests}
use Rattle.ttx_witness.specs.runs.Transmissions.{Transmission, Run, run_of, run_between, windows, last_slot, all_sure}
use Rattle.ttx_witness.specs.runs.Confirming.{Progress, confirmed, after_runs}
use Rattle.ttx_witness.specs.runs.SureStarts.{Spread, sure_runs, sure_starts, spread_after, spread_of, IsFound}
use Rattle.ttx_witness.specs.runs.Tracks.{ended, keep_last, listed, IsRecent, Held}
use Rattle.ttx_witness.proofs.Windows.{windows_step, windows_none, windows_short}

some_same : {A : Type 0} {x y : A} → Some x ≡ Some y → x ≡ y
some_same e = cc

last_slot_is : (t : Transmission) (ts : List Transmission) (last : Transmission) → slice_get (t ∷ ts) (length ts) ≡ Some last →
    last_slot t.slot ts ≡ last.slot
last_slot_is t [] last e = ap (λ x. x.slot) (some_same e)
last_slot_is t (u ∷ ts) last e = last_slot_is u ts last e

pub run_of_ends : (ts : List Transmission) (first last : Transmission) → slice_get ts 0 ≡ Some first → slice_get ts (length ts - 1)
    ≡ Some last → run_between first last (all_sure ts) ≡ run_of ts
run_of_ends [] first last e f = cc
run_of_ends (t ∷ ts) first last e f =
    let h : t ≡ first = some_same e in
    let n : suc (length ts) - 1 ≡ length ts = omega arith in
    let l : last_slot t.slot ts ≡ last.slot = last_slot_is t ts last (ap (slice_get (t ∷ ts)) (sym n) ∙ f) in
    subst (λ x. run_between x last (all_sure (t ∷ ts)) ≡ run_of (t ∷ ts)) h
    (ap (λ z. record { start = t.slot; owner = t.owner; end = z; sure = all_sure (t ∷ ts) }) (sym l))

pub keep_step : {A : Type 0} (k : ℕ) (ts : List A) (t : A) → 1 ≤ k → keep_last k (keep_last k ts ++ t ∷ []) ≡ keep_last k (ts ++ t ∷ [])
keep_step {A} k ts t h = elim (cases_lt (length ts) k) as (λ _. keep_last k (keep_last k ts ++ t ∷ []) ≡ keep_last k (ts ++ t ∷ [])) [
  | inl lt ↦ let z : length ts - k ≡ 0 = omega arith in ap (λ m. keep_last k (drop m ts ++ t ∷ [])) z
  | inr ge ↦
      let d = length ts - k in
      let a : length (drop d ts) ≡ k = length-drop d ts ∙ omega arith in
      let b : length (drop d ts ++ t ∷ []) ≡ length (drop d ts) + 1 = length-append (drop d ts) (t ∷ []) in
      let b' : length (ts ++ t ∷ []) ≡ length ts + 1 = length-append ts (t ∷ []) in
      let one : length (drop d ts ++ t ∷ []) - k ≡ 1 = omega arith in
      let many : length (ts ++ t ∷ []) - k ≡ d + 1 = omega arith in
      ap (λ m. drop m (drop d ts ++ t ∷ [])) one ∙ ap (drop 1) (sym (drop-append-le d ts (t ∷ []) (omega arith)))
      ∙ drop-drop 1 d (ts ++ t ∷ []) ∙ ap (λ m. drop m (ts ++ t ∷ [])) (sym many)
]

pub few_kept : {A : Type 0} (n : ℕ) (ts xs : List A) → xs ≡ keep_last n ts → length xs ≤ n
few_kept n ts xs e = let l : length xs ≡ length ts - (length ts - n) = ap length e ∙ length-drop (length ts - n) ts in omega arith

pub take_whole : {A : Type 0} (k : ℕ) (ts : List A) → length ts ≤ k → take k ts ≡ ts
take_whole zero [] h = refl
take_whole zero (t ∷ ts) h = absurd (omega arith)
take_whole (suc k) [] h = refl
take_whole (suc k) (t ∷ ts) h = ap (λ x. t ∷ x) (take_whole k ts (omega arith))

take_step : {A : Type 0} (k : ℕ) (ts : List A) (t : A) → take k (ts ++ t ∷ [])
    ≡ (if nat_lt (length (take k ts) + 1) (suc k) then take k ts ++ t ∷ [] else take k ts)
take_step {A} k ts t = elim (cases_lt (length ts) k) as
    (λ _. take k (ts ++ t ∷ []) ≡ (if nat_lt (length (take k ts) + 1) (suc k) then take k ts ++ t ∷ [] else take k ts)) [
      | inl lt ↦
          let b' : length (ts ++ t ∷ []) ≡ length ts + 1 = length-append ts (t ∷ []) in
          let w : take k ts ≡ ts = take_whole k ts (omega arith) in
          let v : take k (ts ++ t ∷ []) ≡ ts ++ t ∷ [] = take_whole k (ts ++ t ∷ []) (omega arith) in
          rw (v, w) (cond_both (nat_lt (length ts + 1) (suc k)) _ _ (λ x. ts ++ t ∷ [] ≡ x) (λ e. refl) (λ e. absurd (grind (arith, nat_tests))))
      | inr ge ↦
          let l : length (take k ts) ≡ k = length-take-le k ts ge in
          rw (take-append-le k ts (t ∷ []) ge)
          (cond_both (nat_lt (length (take k ts) + 1) (suc k)) _ _ (λ x. take k ts ≡ x) (λ e. absurd (grind (arith, nat_tests)))
          (λ e. refl))
    ]

-- the run that ends with one more transmission, if there is one
unfoldable pub run_at_end : ℕ → List Transmission → Option Run
run_at_end k ts = if length (keep_last (suc k) ts) == suc k then Some (run_of (keep_last (suc k) ts)) else None

pub ended_step : (k : ℕ) (ts : List Transmission) (t : Transmission) → ended k (ts ++ t ∷ []) ≡ ended k ts ++ listed (run_at_end k (ts ++ t ∷ []))
unfolding run_at_end
ended_step k ts t = elim (cases_lt (length ts) k) as (λ _. ended k (ts ++ t ∷ []) ≡ ended k ts ++ listed (run_at_end k (ts ++ t ∷ []))) [
  | inl lt ↦
      let b : length (ts ++ t ∷ []) ≡ length ts + 1 = length-append ts (t ∷ []) in
      let z : length (ts ++ t ∷ []) - suc k ≡ 0 = omega arith in
      let q : suc (length ts) < suc k = omega arith in
      let q' : length ts < suc k = omega arith in
      rw (windows_none (suc k) ts t q, windows_short (suc k) ts q', z)
      (cond_both (length (ts ++ t ∷ []) == suc k) _ _ (λ x. [] ≡ listed x)
      (λ e. absurd (let h = eqb-true _ _ e in omega arith)) (λ e. refl))
  | inr ge ↦
      let b : length (ts ++ t ∷ []) ≡ suc (length ts) = length-append ts (t ∷ []) ∙ omega arith in
      let l : length (keep_last (suc k) (ts ++ t ∷ [])) ≡ suc k = length-drop (length (ts ++ t ∷ []) - suc k) (ts ++ t ∷ []) ∙ omega arith in
      let w : windows (suc k) (ts ++ t ∷ []) ≡ windows (suc k) ts ++ keep_last (suc k) (ts ++ t ∷ []) ∷ [] =
      windows_step (suc k) ts t (omega arith) (omega arith) ∙ ap (λ m. windows (suc k) ts ++ drop (m - suc k) (ts ++ t ∷ []) ∷ []) (sym b) in
      ap (map run_of) w ∙ map-append run_of (windows (suc k) ts) (keep_last (suc k) (ts ++ t ∷ []) ∷ [])
      ∙ cond_both (length (keep_last (suc k) (ts ++ t ∷ [])) == suc k) _ _
      (λ x. ended k ts ++ run_of (keep_last (suc k) (ts ++ t ∷ [])) ∷ [] ≡ ended k ts ++ listed x) (λ e. refl)
      (λ e. absurd (both_ways _ e (eq-eqb _ _ l)))
]

-- what is held after one more, from the equations of the two steps
module _ (k : ℕ) (ts : List Transmission) (t : Transmission) (old new : Held) (held : IsRecent k ts old)
    (w : 1 ≤ old.repeat → length old.window ≤ old.repeat → new.window ≡ keep_last old.repeat (old.window ++ t ∷ [])) where
  pub window_step : new.window ≡ keep_last (suc k) (ts ++ t ∷ [])
  window_step =
      let short : length old.window ≤ suc k = few_kept (suc k) ts old.window held.window in
      let some : 1 ≤ old.repeat = let e = held.repeat in omega arith in
      let few : length old.window ≤ old.repeat = let e = held.repeat in omega arith in
      w some few ∙ ap (λ n. keep_last n (old.window ++ t ∷ [])) held.repeat
      ∙ ap (λ x. keep_last (suc k) (x ++ t ∷ [])) held.window ∙ keep_step (suc k) ts t (omega arith)

  pub recent_step : new.repeat ≡ old.repeat → new.firsts
      ≡ (if nat_lt (length old.firsts + 1) old.repeat then old.firsts ++ t ∷ [] else old.firsts) →
      IsRecent k (ts ++ t ∷ []) new
  recent_step r f = record {
    repeat = r ∙ held.repeat;
    window = window_step;
    firsts = f ∙ ap (λ x. if nat_lt (length x + 1) old.repeat then x ++ t ∷ [] else x) held.firsts
        ∙ ap (λ c. if nat_lt (length (take k ts) + 1) c then take k ts ++ t ∷ [] else take k ts) held.repeat ∙ sym (take_step k ts t);
  }

  pub run_step : (result : Option Run) → result ≡
      (if length new.window == old.repeat then Some (run_of new.window) else None) → ended k (ts ++ t ∷ [])
      ≡ ended k ts ++ listed result
  unfolding run_at_end
  run_step result e = ended_step k ts t ∙ ap (λ x. ended k ts ++ listed x)
      (sym (e ∙ ap (λ n. if length new.window == n then Some (run_of new.window) else None) held.repeat
      ∙ ap (λ xs. if length xs == suc k then Some (run_of xs) else None) window_step))

pub after_more : (limit : ℕ) (starts : List ℕ) (m : Progress) (rs qs : List Run) → after_runs limit starts m (rs ++ qs)
    ≡ after_runs limit starts (after_runs limit starts m rs) qs
unfolding after_runs
after_more limit starts m [] qs = refl
after_more limit starts m (r ∷ rs) qs = after_more limit starts (confirmed limit starts m r) rs qs

spread_more : (s : Option Spread) (rs qs : List Run) → spread_of s (rs ++ qs) ≡ spread_of (spread_of s rs) qs
unfolding spread_of
spread_more s [] qs = refl
spread_more s (r ∷ rs) qs = spread_more (spread_after s r) rs qs

sure_more : (rs qs : List Run) → sure_runs (rs ++ qs) ≡ sure_runs rs ++ sure_runs qs
unfolding sure_runs
sure_more [] qs = refl
sure_more (r ∷ rs) qs = cond_both r.sure (r ∷ sure_runs (rs ++ qs)) (sure_runs (rs ++ qs))
    (λ x. x ≡ (if r.sure then r ∷ sure_runs rs else sure_runs rs) ++ sure_runs qs)
    (λ e. ap (λ x. r ∷ x) (sure_more rs qs) ∙ cond_both r.sure (r ∷ sure_runs rs) (sure_runs rs)
    (λ x. r ∷ (sure_runs rs ++ sure_runs qs) ≡ x ++ sure_runs qs) (λ _. refl) (λ f. absurd (both_ways _ f e)))
    (λ e. sure_more rs qs ∙ cond_both r.sure (r ∷ sure_runs rs) (sure_runs rs) (λ x. sure_runs rs ++ sure_runs qs ≡ x ++ sure_runs qs)
    (λ f. absurd (both_ways _ e f)) (λ _. refl))

pub starts_more : (rs qs : List Run) → sure_starts (rs ++ qs) ≡ sure_starts rs ++ sure_starts qs
starts_more rs qs = ap (map (λ r. unsigned_abs r.start)) (sure_more rs qs) ∙ map-append (λ r. unsigned_abs r.start) (sure_runs rs) (sure_runs qs)

-- what is found after more runs have ended
pub found_more : (rs qs : List Run) (starts : List ℕ) (spread : Option Spread) (starts' : List ℕ) (spread' : Option Spread) →
    IsFound rs starts spread →
    starts' ≡ starts ++ sure_starts qs → spread' ≡ spread_of spread qs → IsFound (rs ++ qs) starts' spread'
found_more rs qs starts spread starts' spread' f a b = record {
  starts = a ∙ ap (λ x. x ++ sure_starts qs) f.starts ∙ sym (starts_more rs qs);
  spread = b ∙ ap (λ x. spread_of x qs) f.spread ∙ sym (spread_more None rs qs);
}
