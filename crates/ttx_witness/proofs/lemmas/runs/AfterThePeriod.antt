-- The transmissions that follow a period, from what is held of the period.
use Rattle.std.proofs.Common.{◌≡◌, ℕ, zero, suc, ◌+◌, ◌-◌, ◌<◌, ◌≤◌, false, if◌then◌else◌, ◌==◌, List, [], ◌∷◌, ◌++◌, take, drop, length, Option}
use Rattle.std.proofs.Common.{Some, None, refl, sym, ap, ◌∙◌, subst, inl, inr, arith, append_assoc, length-append}
use Rattle.std.specs.List.{AllByRecursion}
use Rattle.std.proofs.lemmas.List.{append-nil, length-take-le, take-append-drop}
use Rattle.std.proofs.lemmas.Int.{ints}
use Rattle.std.proofs.lemmas.Bool.{cases_lt}
use Rattle.ttx_witness.specs.runs.Transmissions.{Transmission, Run, later, further, run_of, runs}
use Rattle.ttx_witness.specs.runs.Tracks.{ended, keep_last, listed, Held, IsRecent, IsWithin, IsTurn, IsRound}
use Rattle.ttx_witness.proofs.Windows.{further_few}
use Rattle.ttx_witness.proofs.lemmas.runs.OneMore.{keep_step, few_kept, take_whole, run_at_end, ended_step}

further_none : (n k : ℕ) (ts : List Transmission) → length (take k ts) ≡ 0 → further n k ts ≡ []
unfolding further
further_none n zero ts e = refl
further_none n (suc k) [] e = refl
further_none n (suc k) (t ∷ ts) e = absurd (omega arith)

further_take : (n k : ℕ) (ts : List Transmission) → further n k (take k ts) ≡ further n k ts
further_take n k ts = elim (cases_lt (length ts) k) as (λ _. further n k (take k ts) ≡ further n k ts) [
  | inl lt ↦ ap (further n k) (take_whole k ts (omega arith))
  | inr ge ↦ let l : length (take k ts) ≡ k = length-take-le k ts ge in
      sym (further_few n k (take k ts) (drop k ts) (omega arith)) ∙ ap (further n k) (take-append-drop k ts)
]

pub within_more : (a b : ℕ) (ts : List Transmission) → a ≤ b → AllByRecursion (IsWithin a) ts → AllByRecursion (IsWithin b) ts
within_more a b [] le h = tt
within_more a b (t ∷ ts) le h = (
  record {
    slot_low = h.0.slot_low;
    slot_high = let k = h.0.slot_high in omega (arith, ints);
    owner_low = h.0.owner_low;
    owner_high = let k = h.0.owner_high in omega (arith, ints);
  },
  within_more a b ts le h.1,
)

within_end : (b : ℕ) (ts : List Transmission) (t : Transmission) → AllByRecursion (IsWithin b) ts → IsWithin b t →
    AllByRecursion (IsWithin b) (ts ++ t ∷ [])
within_end b [] t h w = (w, tt)
within_end b (u ∷ ts) t h w = (h.0, within_end b ts t h.1 w)

pub turn_length : (n : ℕ) (xs ys : List Transmission) (t : Transmission) → IsTurn n xs t ys → length ys ≡ length xs
turn_length n [] ys t h = absurd h
turn_length n (x ∷ xs) ys t h = ap length h.1 ∙ length-append xs (later n x ∷ []) ∙ omega arith

pub turn_within : (n b c : ℕ) (xs ys : List Transmission) (t : Transmission) → n ≤ 65536 → b + 65536 ≡ c → IsTurn n xs t ys →
    AllByRecursion (IsWithin b) xs → AllByRecursion (IsWithin c) ys
turn_within n b c [] ys t short e h w = absurd h
turn_within n b c (x ∷ xs) ys t short e h w =
    subst (AllByRecursion (IsWithin c)) (sym h.1) (within_end c xs (later n x) (within_more b c xs (omega arith) w.1) (record {
      slot_low = let k = w.0.slot_low in omega (arith, ints);
      slot_high = let k = w.0.slot_high in omega (arith, ints);
      owner_low = let k = w.0.owner_low in omega (arith, ints);
      owner_high = let k = w.0.owner_high in omega (arith, ints);
    }))

turn_further : (n k : ℕ) (xs ys : List Transmission) (t : Transmission) → IsTurn n xs t ys → further n (suc k) xs ≡ t ∷ further n k ys
unfolding further
turn_further n k [] ys t h = absurd h
turn_further n k (x ∷ xs) ys t h = ap (λ z. z ∷ further n k (xs ++ later n x ∷ [])) (sym h.0) ∙ ap (λ z. t ∷ further n k z) (sym h.1)

module _ (k n i : ℕ) (ts : List Transmission) (rs : List Run) where
  pub round_step : (old new : Held) (t : Transmission) (result : Option Run) → i < k → IsRound k n i ts rs old →
      IsTurn n old.firsts t new.firsts → new.repeat ≡ old.repeat →
      (1 ≤ old.repeat → length old.window ≤ old.repeat → new.window ≡ keep_last old.repeat (old.window ++ t ∷ [])) →
      result ≡ (if length new.window == old.repeat then Some (run_of new.window) else None) →
      IsRound k n (i + 1) ts (rs ++ listed result) new
  unfolding run_at_end
  round_step old new t result lt r h q w e =
      let xs = ts ++ r.more in
      let same : xs ++ t ∷ [] ≡ ts ++ (r.more ++ t ∷ []) = append_assoc ts r.more (t ∷ []) in
      let short : length old.window ≤ suc k = few_kept (suc k) xs old.window r.window in
      let some : 1 ≤ old.repeat = let e = r.repeat in omega arith in
      let few : length old.window ≤ old.repeat = let e = r.repeat in omega arith in
      let win : new.window ≡ keep_last (suc k) (xs ++ t ∷ []) =
      w some few ∙ ap (λ n. keep_last n (old.window ++ t ∷ [])) r.repeat ∙ ap (λ x. keep_last (suc k) (x ++ t ∷ [])) r.window
      ∙ keep_step (suc k) xs t (omega arith) in
      let c : k - i ≡ suc (k - (i + 1)) = omega arith in
      record {
        more = r.more ++ t ∷ [];
        repeat = q ∙ r.repeat;
        window = win ∙ ap (keep_last (suc k)) same;
        runs = ap (λ x. x ++ listed result) r.runs
            ∙ ap (λ x. ended k xs ++ listed x) (e ∙ ap (λ n. if length new.window == n then Some (run_of new.window) else None) r.repeat
            ∙ ap (λ ys. if length ys == suc k then Some (run_of ys) else None) win)
            ∙ sym (ended_step k xs t) ∙ ap (ended k) same;
        rest = append_assoc r.more (t ∷ []) (further n (k - (i + 1)) new.firsts)
            ∙ ap (λ x. r.more ++ x) (sym (turn_further n (k - (i + 1)) old.firsts new.firsts t h))
            ∙ ap (λ x. r.more ++ further n x old.firsts) (sym c) ∙ r.rest;
      }

  pub round_done : (held : Held) → k ≤ i → IsRound k n i ts rs held → rs ≡ runs n k ts
  unfolding further
  round_done held le r =
      let z : k - i ≡ 0 = omega arith in
      let e : r.more ≡ further n k ts = sym (append-nil r.more) ∙ ap (λ x. r.more ++ further n x held.firsts) (sym z) ∙ r.rest
      ∙ further_take n k ts in
      r.runs ∙ ap (λ x. ended k (ts ++ x)) e

-- before the first of these transmissions
pub round_begins : (k n : ℕ) (ts : List Transmission) (held : Held) → IsRecent k ts held → IsRound k n 0 ts (ended k ts) held
round_begins k n ts held i = record {
  more = [];
  repeat = i.repeat;
  window = i.window ∙ ap (keep_last (suc k)) (sym (append-nil ts));
  runs = ap (ended k) (sym (append-nil ts));
  rest = let z : k - 0 ≡ k = omega arith in ap (λ x. further n x held.firsts) z ∙ ap (further n k) i.firsts;
}

-- if none is held, none follows
pub round_empty : (k n : ℕ) (ts : List Transmission) (held : Held) → IsRecent k ts held → length held.firsts ≡ 0 →
    ended k ts ≡ runs n k ts
round_empty k n ts held i e =
    let z : further n k ts ≡ [] = further_none n k ts (ap length (sym i.firsts) ∙ e) in
    ap (ended k) (sym (append-nil ts) ∙ ap (λ x. ts ++ x) (sym z))

pub some_of : (n : ℕ) → false ≡ (n == 0) → 1 ≤ n
some_of zero e = cc
some_of (suc n) e = omega arith
