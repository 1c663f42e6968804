-- The final state of a track decides what is required of the named starts.
use Rattle.std.proofs.Common.{◌≡◌, ◌↔◌, ℕ, zero, suc, ◌+◌, ◌<◌, ◌≤◌, ℤ, pos, ◌+ℤ◌, ◌-ℤ◌, ◌<ℤ◌, ◌≤ℤ◌, List, [], ◌∷◌, ◌++◌, map, length, slice_index_or}
use Rattle.std.proofs.Common.{None, refl, sym, ap, ◌∙◌, subst, inl, inr, arith}
use Rattle.std.specs.List.{AllByRecursion}
use Rattle.std.proofs.lemmas.Int.{ints}
use Rattle.std.proofs.lemmas.List.{length-append}
use Rattle.std.proofs.lemmas.Bool.{cases_lt, cond_both}
use Rattle.ttx_page.proofs.SlotDistances.{cases_ltz}
use Rattle.ttx_witness.specs.runs.Transmissions.{Transmission, start_of, Run, run_of, runs, moved_run, windows, further, extended}
use Rattle.ttx_witness.specs.runs.Confirming.{Progress, Rising, is_next, late_after, confirmed_runs, after_runs, not_begun}
use Rattle.ttx_witness.specs.runs.Repeating.{Lists, Successive, Repeats, IsSentAt, AreSent, BeginsSureRun, IsRunOf, IsNamedRun, IsInTime}
use Rattle.ttx_witness.specs.runs.Repeating.{FollowInTime}
use Rattle.ttx_witness.proofs.Windows.{windows_yes, windows_no, windows_short}
use Rattle.ttx_witness.proofs.lemmas.runs.Rounds.{extended_lists, length_further}
use Rattle.ttx_witness.proofs.StreamRuns.{Sent, Told, told_sent, told_later, sent_earlier, runs_are}
use Rattle.ttx_witness.proofs.lemmas.runs.Neighbours as N
use Rattle.ttx_witness.proofs.lemmas.runs.ConfirmedStarts.{Matches, chosen_match, marked_chosen, marked_next, late_round, next_is, named_at}
use Rattle.ttx_witness.proofs.lemmas.runs.ConfirmedStarts.{RisesFrom, NoneFor, stuck}

runs_none : (n k : ℕ) → runs n k [] ≡ []
unfolding further windows
runs_none n zero = refl
runs_none n (suc k) = refl

pub all_chosen : (P : Run → Type 0) (starts : List ℕ) (next : ℕ) (rs : List Run) → AllByRecursion P rs →
    AllByRecursion P (confirmed_runs starts next rs)
unfolding confirmed_runs
all_chosen P starts next [] a = tt
all_chosen P starts next (r ∷ rs) a = cond_both (is_next starts next r) _ _ (AllByRecursion P)
    (λ e. (a.0, all_chosen P starts (next + 1) rs a.1)) (λ e. all_chosen P starts next rs a.1)

module _ (Owned Sure : ℤ → ℤ → Type 0) (n k : ℕ) (law : Repeats n Owned Sure) where
  rises_windows : (low high : ℤ) (ts : List Transmission) → AreSent Owned Sure low high ts → RisesFrom low (map run_of (windows (suc k) ts))
  unfolding windows
  rises_windows low high [] l = tt
  rises_windows low high (t ∷ ts) l = elim (cases_lt (suc (length ts)) (suc k)) as (λ _. RisesFrom low (map run_of (windows (suc k) (t ∷ ts)))) [
    | inl lt ↦ rw (windows_no (suc k) t ts lt) tt
    | inr ge ↦ rw (windows_yes (suc k) t ts ge) (l.1, rises_windows (t.slot +ℤ pos 1) high ts l.4)
  ]

  -- each slot of a period that is a transmission begins a run
  missing : (low high x : ℤ) (ts us : List Transmission) → length us ≡ k → AreSent Owned Sure low high ts → low ≤ℤ x → x <ℤ high →
      BeginsSureRun Owned Sure (suc k) x → IsSentAt Owned x → AllByRecursion (IsRunOf Owned Sure (suc k)) (map run_of (windows (suc k) (ts ++ us))) →
      NoneFor x (map run_of (windows (suc k) (ts ++ us))) → ⊥
  missing low high x [] us len l a b h p all none = l x a b p
  missing low high x (t ∷ ts) us len l a b h p all none =
      let m = length-append ts us in
      let w = windows_yes (suc k) t (ts ++ us) (omega arith) in
      let all' = subst (λ z. AllByRecursion (IsRunOf Owned Sure (suc k)) (map run_of z)) w all in
      let none' = subst (λ z. NoneFor x (map run_of z)) w none in
      elim (cases_ltz x t.slot) as (λ _. ⊥) [
        | inl lt ↦ l.3 x a lt p
        | inr ge ↦ elim (cases_ltz t.slot x) as (λ _. ⊥) [
          | inl gt ↦ missing (t.slot +ℤ pos 1) high x ts us len l.4 (omega (arith, ints)) b h p all'.1 none'.1
          | inr le ↦ let e : t.slot ≡ x = omega (arith, ints) in none'.0 e (all'.0.sure.1 (subst (BeginsSureRun Owned Sure (suc k)) (sym e) h))
        ]
      ]

  below_windows : (low high : ℤ) (ts us : List Transmission) → length us ≡ k → AreSent Owned Sure low high ts →
      AllByRecursion (λ r. r.start <ℤ high) (map run_of (windows (suc k) (ts ++ us)))
  below_windows low high [] us len l = rw (windows_short (suc k) us (omega arith)) tt
  below_windows low high (t ∷ ts) us len l =
      let m = length-append ts us in
      rw (windows_yes (suc k) t (ts ++ us) (omega arith)) (l.2, below_windows (t.slot +ℤ pos 1) high ts us len l.4)

  pub good_at : (starts : List ℕ) (next : ℕ) (rs : List Run) → Matches starts next rs → AllByRecursion (IsRunOf Owned Sure (suc k)) rs →
      AllByRecursion (λ r. r.start <ℤ pos n) rs →
      (i : ℕ) → next ≤ i → i < next + length rs → (named_at starts i <ℤ pos n) × BeginsSureRun Owned Sure (suc k) (named_at starts i)
  good_at starts next [] m a b i low high = absurd (omega arith)
  good_at starts next (r ∷ rs) m a b i low high =
      elim (cases_lt next i) as (λ _. (named_at starts i <ℤ pos n) × BeginsSureRun Owned Sure (suc k) (named_at starts i)) [
        | inl lt ↦ good_at starts (next + 1) rs m.1 a.1 b.1 i (omega arith) (omega arith)
        | inr ge ↦
            let e : next ≡ i = omega arith in
            let q = next_is starts next r m.0 in
            let w : r.start ≡ named_at starts i = sym q.start ∙ ap (named_at starts) e in
            (subst (λ x. x <ℤ pos n) w b.0, subst (BeginsSureRun Owned Sure (suc k)) w (a.0.sure.0 q.sure))
      ]

  -- the starts of the list below n, as named starts of the stream
  module _ (starts : List ℕ) (rising : Rising starts) (limit : ℕ) (ts : List Transmission) (told : AreSent Owned Sure (pos 0) (pos n) ts) where
    abbrev all_runs : List Run
    all_runs = runs n k ts

    abbrev final : Progress
    final = after_runs limit starts not_begun all_runs

    pub are : AllByRecursion (IsRunOf Owned Sure (suc k)) all_runs
    are = runs_are Owned Sure n law k ts told

    pub rise : RisesFrom (pos 0) all_runs
    rise = let m = extended_lists (Sent Owned Sure) (Told Owned Sure) (told_sent Owned Sure) n (told_later Owned Sure n law)
        (sent_earlier Owned Sure n law) k ts told in
        rises_windows (pos 0) m.0 (extended n k ts) m.2

    sent_of : (x : ℤ) → BeginsSureRun Owned Sure (suc k) x → IsSentAt Owned x
    sent_of x h = first h.rest h.run.successive
      where
        first : (rest : List ℤ) → Successive (IsSentAt Owned) (x ∷ rest) → IsSentAt Owned x
        first [] a = a
        first (y ∷ rest) a = a.0

    -- a slot of the period with a sure run is the start of a sure run of the list
    pub not_missing : (x : ℤ) → pos 0 ≤ℤ x → x <ℤ pos n → BeginsSureRun Owned Sure (suc k) x → NoneFor x all_runs → ⊥
    not_missing x from below h none = go ts told are none
      where
        go : (ts : List Transmission) → AreSent Owned Sure (pos 0) (pos n) ts →
            AllByRecursion (IsRunOf Owned Sure (suc k)) (runs n k ts) → NoneFor x (runs n k ts) → ⊥
        go [] l a none = l x from below (sent_of x h)
        go (t ∷ ts) l a none = missing (pos 0) (pos n) x (t ∷ ts) (further n k (t ∷ ts))
            (length_further n k (t ∷ ts) (omega arith)) l from below h (sent_of x h) a none

    -- if the cursor stops before the end, the start at which it stops has no sure run
    pub stops : (at : ℕ) → at ≡ final.next → at < length starts → named_at starts at <ℤ pos n →
        BeginsSureRun Owned Sure (suc k) (named_at starts at) → ⊥
    stops at is lt below h = not_missing (named_at starts at) (omega (arith, ints)) below h
        (stuck starts rising 0 (pos 0) all_runs rise (λ _. omega (arith, ints)) at (is ∙ marked_next limit starts not_begun all_runs) lt)

    abbrev all_below : Type 0
    all_below = AllByRecursion (λ r. r.start <ℤ pos n) all_runs

    pub runs_below : all_below
    runs_below = go ts told
      where
        go : (ts : List Transmission) → AreSent Owned Sure (pos 0) (pos n) ts → AllByRecursion (λ r. r.start <ℤ pos n) (runs n k ts)
        go [] l = subst (AllByRecursion (λ r. r.start <ℤ pos n)) (sym (runs_none n k)) tt
        go (t ∷ ts) l = below_windows (pos 0) (pos n) (t ∷ ts) (further n k (t ∷ ts)) (length_further n k (t ∷ ts) (omega arith)) l

    pub picked : List Run
    picked = confirmed_runs starts 0 all_runs

    -- each start before it has a sure run
    pub before_stop : (i : ℕ) → i < final.next → (named_at starts i <ℤ pos n) × BeginsSureRun Owned Sure (suc k) (named_at starts i)
    unfolding picked
    before_stop i lt =
        let c = marked_next limit starts not_begun all_runs in
        good_at starts 0 picked (chosen_match starts 0 all_runs) (all_chosen (IsRunOf Owned Sure (suc k)) starts 0 all_runs are)
        (all_chosen (λ r. r.start <ℤ pos n) starts 0 all_runs runs_below) i (omega arith) (omega arith)

    -- if it reaches the end, each start has a sure run
    pub complete : final.next ≡ length starts → (i : ℕ) → i < length starts → (named_at starts i <ℤ pos n)
        × BeginsSureRun Owned Sure (suc k) (named_at starts i)
    unfolding picked
    complete all i lt =
        let c = marked_next limit starts not_begun all_runs in
        good_at starts 0 picked (chosen_match starts 0 all_runs) (all_chosen (IsRunOf Owned Sure (suc k)) starts 0 all_runs are)
        (all_chosen (λ r. r.start <ℤ pos n) starts 0 all_runs runs_below) i (omega arith) (omega arith)

    -- the named slots are the starts and their repetitions
    module _ (Named : ℤ → Type 0) (up : (i : ℤ) → Named i → Named (i +ℤ pos n)) (down : (i : ℤ) → Named i → Named (i -ℤ pos n))
        (named_is : (i : ℕ) → i < length starts → Named (named_at starts i))
        (named_in : (x : ℤ) → pos 0 ≤ℤ x → x <ℤ pos n → Named x → (i : ℕ) × (i < length starts) × (x ≡ named_at starts i)) where
      abbrev IsOne : Run → Type 0
      IsOne = IsNamedRun Owned Sure Named (suc k)

      pub lists_from : (next : ℕ) (low : ℤ) (rs : List Run) → Matches starts next rs → next + length rs ≡ length starts → pos 0 ≤ℤ low →
          ((i : ℕ) → i < next → i < length starts → named_at starts i <ℤ low) → ((i : ℕ) → next ≤ i → i < length starts → low ≤ℤ named_at starts i) →
          AllByRecursion (IsRunOf Owned Sure (suc k)) rs → AllByRecursion (λ r. r.start <ℤ pos n) rs → Lists start_of Named IsOne low (pos n) rs
      lists_from next low [] m e z before after a b = λ x c d p.
          let w = named_in x (omega (arith, ints)) d p in let k = before w.0 (let g = w.1 in omega arith) w.1 in let q = w.2 in omega (arith, ints)
      lists_from next low (r ∷ rs) m e z before after a b =
          let q = next_is starts next r m.0 in
          let first = after next (omega arith) q.within in
          let same = q.start in (
            record { named = subst Named q.start (named_is next q.within); run = a.0 },
            omega (arith, ints),
            b.0,
            (λ x c d p. let w = named_in x (omega (arith, ints)) (let g = b.0 in omega (arith, ints)) p in
                let v = w.2 in
                elim (cases_lt w.0 next) as (λ _. ⊥) [
                  | inl lt ↦ let k = before w.0 lt w.1 in omega (arith, ints)
                  | inr ge ↦ elim (cases_lt next w.0) as (λ _. ⊥) [
                    | inl gt ↦ let k : slice_index_or starts next 0 < slice_index_or starts w.0 0 = rising next w.0 gt w.1 in omega (arith, ints)
                    | inr le ↦ let k : named_at starts w.0 ≡ named_at starts next =
                        ap (named_at starts) (let h : w.0 ≡ next = omega arith in h) in omega (arith, ints)
                  ]
                ]),
            lists_from (next + 1) (r.start +ℤ pos 1) rs m.1 (omega arith) (omega (arith, ints))
                (λ i lt l. elim (cases_lt i next) as (λ _. named_at starts i <ℤ (r.start +ℤ pos 1)) [
                  | inl lower ↦ let k : slice_index_or starts i 0 < slice_index_or starts next 0 = rising i next lower q.within in omega (arith, ints)
                  | inr ge ↦ let k : named_at starts i ≡ named_at starts next =
                      ap (named_at starts) (let h : i ≡ next = omega arith in h) in omega (arith, ints)
                ])
                (λ i le l. let k : slice_index_or starts next 0 < slice_index_or starts i 0 = rising next i (omega arith) l in omega (arith, ints))
                a.1 b.1,
          )

      -- the runs of all starts follow one another in time if and only if every tuning slot is served
      pub follow_in_time : (g : Run) (rs : List Run) → Matches starts 0 (g ∷ rs) → length starts ≡ 0 + length (g ∷ rs) →
          AllByRecursion (IsRunOf Owned Sure (suc k)) (g ∷ rs) → AllByRecursion (λ r. r.start <ℤ pos n) (g ∷ rs) →
          FollowInTime limit g (rs ++ moved_run (pos n) g ∷ []) ↔ ((tau : ℤ) → IsInTime Owned Named (suc k) limit tau)
      follow_in_time g rs m e a b = N.neighbours Owned Sure n (suc k) limit law Named up down g rs
          (lists_from 0 (pos 0) (g ∷ rs) m (omega arith) (omega (arith, ints)) (λ i lt w. absurd (omega arith)) (λ i le w. omega (arith, ints)) a b)

      -- if all starts are confirmed, none is late if and only if every tuning slot is served
      pub in_time : final.next ≡ length starts → 0 < length starts →
          (late_after limit starts final (final.first_end +ℤ pos n) ≡ None) ↔ ((tau : ℤ) → IsInTime Owned Named (suc k) limit tau)
      in_time all one = go (confirmed_runs starts 0 all_runs) (chosen_match starts 0 all_runs)
          (sym all ∙ marked_next limit starts not_begun all_runs) (all_chosen (IsRunOf Owned Sure (suc k)) starts 0 all_runs are)
          (all_chosen (λ r. r.start <ℤ pos n) starts 0 all_runs runs_below) (marked_chosen limit starts not_begun all_runs)
        where
          go : (rs : List Run) → Matches starts 0 rs → length starts ≡ 0 + length rs → AllByRecursion (IsRunOf Owned Sure (suc k)) rs →
              AllByRecursion (λ r. r.start <ℤ pos n) rs →
              final ≡ after_runs limit starts not_begun rs →
              (late_after limit starts final (final.first_end +ℤ pos n) ≡ None) ↔ ((tau : ℤ) → IsInTime Owned Named (suc k) limit tau)
          go [] m e a b f = absurd (omega arith)
          go (g ∷ rs) m e a b f =
              let r = late_round limit starts n g rs m in
              let q = follow_in_time g rs m e a b in
              let same : late_after limit starts final (final.first_end +ℤ pos n)
              ≡ late_after limit starts (after_runs limit starts not_begun (g ∷ rs))
              ((after_runs limit starts not_begun (g ∷ rs)).first_end +ℤ pos n) =
              ap (λ x. late_after limit starts x (x.first_end +ℤ pos n)) f in
              ((λ d. q.0 (r.0 (sym same ∙ d))), (λ t. same ∙ r.1 (q.1 t)))
