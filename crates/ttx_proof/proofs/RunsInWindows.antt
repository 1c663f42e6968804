-- The runs that count in a list of transmissions are all runs that count between its two slots.
use Rattle.std.proofs.Common.{◌≡◌, ℕ, zero, suc, ◌≤◌, ℤ, pos, ◌+ℤ◌, ◌<ℤ◌, ◌≤ℤ◌, Bool, true, ◌&&◌, List, [], ◌∷◌, map, take, length, sym, subst, inl}
use Rattle.std.proofs.Common.{inr, arith}
use Rattle.std.specs.List.{filter, AllByRecursion}
use Rattle.std.proofs.lemmas.List.{length-take-le}
use Rattle.std.proofs.lemmas.Int.{ints}
use Rattle.std.proofs.lemmas.Bool.{cases_lt, and_from, and_parts, cond_both}
use Rattle.ttx_page.proofs.SlotDistances.{cases_ltz}
use Rattle.ttx_witness.specs.declared.runs.transmissions.Transmission.{Transmission}
use Rattle.ttx_witness.specs.declared.runs.transmissions.Run.{Run}
use Rattle.ttx_witness.specs.runs.Transmissions.{start_of, windows, run_of, last_slot}
use Rattle.ttx_witness.specs.runs.Repeating.{Lists, Successive, IsSentAt, Tells, AreSent, BeginsSureRun, RunEndsBelow, IsRunOf}
pub use Rattle.std.proofs.lemmas.Bool.{cases_Bool}
use Rattle.ttx_witness.proofs.AllBetween.{slots}
use Rattle.ttx_witness.proofs.StreamRuns as R
pub use Rattle.ttx_witness.proofs.Windows.{windows_yes, windows_no}
use Rattle.ttx_proof.specs.Bridging.{counted}

-- a named start with a sure run
abbrev pub Counting : (ℤ → ℤ → Type 0) → (ℤ → ℤ → Type 0) → ℕ → (ℤ → Bool) → ℤ → Type 0
Counting Owned Sure k named i = (named i ≡ true) × BeginsSureRun Owned Sure k i

module _ (Owned Sure : ℤ → ℤ → Type 0) (one_owner : (h k j : ℤ) → Owned h j → Owned k j → h ≡ k) where
  abbrev Sent : ℤ → Type 0
  Sent = IsSentAt Owned

  abbrev Told : Transmission → Type 0
  Told = Tells Owned Sure

  told_sent : (t : Transmission) → Told t → Sent t.slot
  told_sent = R.told_sent Owned Sure

  -- a window of successive transmissions
  taken : (k : ℕ) (low high : ℤ) (ts : List Transmission) → AreSent Owned Sure low high ts → Successive Sent (slots (take k ts))
  taken zero low high ts l = tt
  taken (suc k) low high [] l = tt
  taken (suc zero) low high (t ∷ ts) l = told_sent t l.0
  taken (suc (suc k)) low high (t ∷ []) l = told_sent t l.0
  taken (suc (suc k)) low high (t ∷ u ∷ ts) l = (
    told_sent t l.0,
    let g = l.4.1 in omega (arith, ints),
    (λ x a b p. l.4.3 x (omega (arith, ints)) b p),
    taken (suc k) (t.slot +ℤ pos 1) high (u ∷ ts) l.4,
  )

  each_taken : (k : ℕ) (low high : ℤ) (ts : List Transmission) → AreSent Owned Sure low high ts → AllByRecursion Told (take k ts)
  each_taken zero low high ts l = tt
  each_taken (suc k) low high [] l = tt
  each_taken (suc k) low high (t ∷ ts) l = (l.0, each_taken k (t.slot +ℤ pos 1) high ts l.4)

  last_below : (k : ℕ) (low high : ℤ) (ts : List Transmission) (z : ℤ) → z <ℤ high → AreSent Owned Sure low high ts → last_slot z (take k ts) <ℤ high
  last_below zero low high ts z lt l = lt
  last_below (suc k) low high [] z lt l = lt
  last_below (suc k) low high (t ∷ ts) z lt l = last_below k (t.slot +ℤ pos 1) high ts t.slot l.2 l.4

  -- successive transmissions between two slots are not more than those of the list
  few : (low high : ℤ) (ts : List Transmission) (xs : List ℤ) → AreSent Owned Sure low high ts → Successive Sent xs →
      AllByRecursion (λ j. low ≤ℤ j) xs → AllByRecursion (λ j. j <ℤ high) xs → length xs ≤ length ts
  few low high ts [] l s a b = omega arith
  few low high [] (x ∷ xs) l s a b = absurd (l x a.0 b.0 (first x xs s))
    where
      first : (x : ℤ) (xs : List ℤ) → Successive Sent (x ∷ xs) → Sent x
      first x [] s = s
      first x (y ∷ xs) s = s.0
  few low high (t ∷ ts) (x ∷ xs) l s a b =
      let from : t.slot ≤ℤ x = elim (cases_ltz x t.slot) as (λ _. t.slot ≤ℤ x) [ inl lt ↦ absurd (l.3 x a.0 lt (first x xs s)) | inr ge ↦ ge ] in
      let i = few (t.slot +ℤ pos 1) high ts xs l.4 (rest x xs s) (above x xs s (t.slot +ℤ pos 1) (omega (arith, ints))) b.1 in
      let g : suc (length xs) ≤ suc (length ts) = omega arith in g
    where
      first : (x : ℤ) (xs : List ℤ) → Successive Sent (x ∷ xs) → Sent x
      first x [] s = s
      first x (y ∷ xs) s = s.0

      rest : (x : ℤ) (xs : List ℤ) → Successive Sent (x ∷ xs) → Successive Sent xs
      rest x [] s = tt
      rest x (y ∷ xs) s = s.3

      above : (x : ℤ) (xs : List ℤ) → Successive Sent (x ∷ xs) → (z : ℤ) → z ≤ℤ (x +ℤ pos 1) → AllByRecursion (λ j. z ≤ℤ j) xs
      above x [] s z le = tt
      above x (y ∷ xs) s z le = (let k = s.1 in omega (arith, ints), above y xs s.3 z (let k = s.1 in omega (arith, ints)))

  -- the members of a run are not before its first one
  after_first : (z : ℤ) (x : ℤ) (xs : List ℤ) → Successive Sent (x ∷ xs) → z ≤ℤ x → AllByRecursion (λ j. z ≤ℤ j) (x ∷ xs)
  after_first z x [] s le = (le, tt)
  after_first z x (y ∷ xs) s le = (le, after_first z y xs s.3 (let k = s.1 in omega (arith, ints)))

  module _ (named : ℤ → Bool) (k : ℕ) (high : ℤ) where
    -- a start that counts, and whose run ends before the last slot
    abbrev pub Here : ℤ → Type 0
    Here x = Counting Owned Sure (suc k) named x × RunEndsBelow Owned (suc k) x high

    pub record IsCounted (r : Run) : Type 0 where
      pub named_start : named r.start ≡ true
      pub sure : r.sure ≡ true
      pub inside : r.end <ℤ high
      pub run : IsRunOf Owned Sure (suc k) r

    here_sent : (x : ℤ) → Here x → Sent x
    here_sent x h = first x h.0.1.rest h.0.1.run.successive
      where
        first : (x : ℤ) (xs : List ℤ) → Successive Sent (x ∷ xs) → Sent x
        first x [] s = s
        first x (y ∷ xs) s = s.0

    -- nothing before the first
    lower : (low mid : ℤ) (rs : List Run) → low ≤ℤ mid → mid ≤ℤ high → ((x : ℤ) → low ≤ℤ x → x <ℤ mid → Here x → ⊥) →
        Lists start_of Here IsCounted mid high rs → Lists start_of Here IsCounted low high rs
    lower low mid [] a b none l = λ x c d p. elim (cases_ltz x mid) as (λ _. ⊥) [ inl lt ↦ none x c lt p | inr ge ↦ l x ge d p ]
    lower low mid (r ∷ rs) a b none l = (
      l.0,
      let g = l.1 in omega (arith, ints),
      l.2,
      (λ x c d p. elim (cases_ltz x mid) as (λ _. ⊥) [ inl lt ↦ none x c lt p | inr ge ↦ l.3 x ge d p ]),
      l.4,
    )

    pub counted_lists : (low : ℤ) (ts : List Transmission) → AreSent Owned Sure low high ts →
        Lists start_of Here IsCounted low high (counted named k ts)
    unfolding windows
    counted_lists low [] l = λ x a b h. l x a b (here_sent x h)
    counted_lists low (t ∷ ts) l = elim (cases_lt (suc (length ts)) (suc k)) as
        (λ _. Lists start_of Here IsCounted low high (counted named k (t ∷ ts))) [
          | inl lt ↦ subst (λ ws. Lists start_of Here IsCounted low high (filter (λ r. named r.start && r.sure) (map run_of ws)))
              (sym (windows_no (suc k) t ts lt))
              (λ x a b h.
              let ends = h.1 in
              let size = few low high (t ∷ ts) (x ∷ ends.rest) l ends.run.successive (after_first low x ends.rest ends.run.successive a) ends.ends in
              let count = ends.run.count in omega arith)
          | inr ge ↦ subst (λ ws. Lists start_of Here IsCounted low high (filter (λ r. named r.start && r.sure) (map run_of ws)))
              (sym (windows_yes (suc k) t ts ge)) (one_more (counted_lists (t.slot +ℤ pos 1) ts l.4) ge)
        ]
      where
        one_more : Lists start_of Here IsCounted (t.slot +ℤ pos 1) high (counted named k ts) → suc k ≤ suc (length ts) →
            Lists start_of Here IsCounted low high
            (filter (λ r. named r.start && r.sure) (run_of (t ∷ take k ts) ∷ map run_of (windows (suc k) ts)))
        one_more rest_lists ge =
            let r = run_of (t ∷ take k ts) in
            let is = R.window_is Owned Sure one_owner k (t ∷ take k ts)
            (record {
              count = length-take-le (suc k) (t ∷ ts) ge;
              successive = taken (suc k) low high (t ∷ ts) l;
              each = each_taken (suc k) low high (t ∷ ts) l;
            }) in
            cond_both (named r.start && r.sure) (r ∷ counted named k ts) (counted named k ts) (λ x. Lists start_of Here IsCounted low high x)
            (λ e. (
              record {
                named_start = (and_parts (named r.start) r.sure e).0;
                sure = (and_parts (named r.start) r.sure e).1;
                inside = last_below k (t.slot +ℤ pos 1) high ts t.slot l.2 l.4;
                run = is;
              },
              l.1,
              l.2,
              (λ x a b h. l.3 x a b (here_sent x h)),
              rest_lists,
            ))
            (λ e. lower low (t.slot +ℤ pos 1) (counted named k ts) (let a = l.1 in omega (arith, ints)) (let b = l.2 in omega (arith, ints))
            (λ x a b h. elim (cases_ltz x t.slot) as (λ _. ⊥) [
              | inl lt ↦ l.3 x a lt (here_sent x h)
              | inr from ↦
                  let same : x ≡ t.slot = omega (arith, ints) in
                  let c = subst Here same h in
                  let yes = and_from (named r.start) r.sure c.0.0 (is.sure.1 c.0.1) in cc
            ]) rest_lists)
