-- What was sent so far: the slots of a schedule up to now, with one more slot, and with another edition.
use Rattle.std.proofs.Common.{◌≡◌, ℕ, zero, suc, ◌+◌, ◌*◌, ◌<◌, ℤ, pos, ◌+ℤ◌, ◌-ℤ◌, ◌<ℤ◌, List, [], ◌∷◌, ◌++◌, length, get_or}
use Rattle.std.proofs.Common.{refl, sym, ap, ◌∙◌, arith, length-append}
use Rattle.std.proofs.lemmas.Int.{ints}
use Rattle.ttx_page.specs.Streams.{Stream, repeated, turned}
use Rattle.ttx_page.specs.Laws.{EachSlotTurns, sent_from}
use Rattle.ttx_proof.proofs.NamedStarts.{turned_start, turned_more}
use Rattle.ttx_playout.specs.Schedules.{Edition, Showing, span, edition_at, first_slot, sent, one_more, taken}
use Rattle.ttx_playout.specs.Takeovers.{IsPlace}
use Rattle.ttx_playout.proofs.SentEditions.{below, more_is_same, past_stays}

-- one more slot of a stream
sent_from_more : (s : Stream) (a : ℤ) (n : ℕ) → sent_from s a (suc n) ≡ sent_from s a n ++ s (a +ℤ pos n) ∷ []
sent_from_more s a zero = let e : a ≡ a +ℤ pos 0 = omega (arith, ints) in ap (λ z. s z ∷ []) e
sent_from_more s a (suc n) =
    let e : (a +ℤ pos 1) +ℤ pos n ≡ a +ℤ pos (suc n) = omega (arith, ints) in
    ap (λ xs. s a ∷ xs) (sent_from_more s (a +ℤ pos 1) n) ∙ ap (λ z. (s a ∷ sent_from s (a +ℤ pos 1) n) ++ s z ∷ []) e

sent_from_same : (s t : Stream) (a : ℤ) (n : ℕ) → ((i : ℤ) → i <ℤ (a +ℤ pos n) → s i ≡ t i) → sent_from s a n ≡ sent_from t a n
sent_from_same s t a zero same = refl
sent_from_same s t a (suc n) same =
    ap (λ x. x ∷ sent_from s (a +ℤ pos 1) n) (same a (omega (arith, ints)))
    ∙ ap (λ xs. t a ∷ xs) (sent_from_same s t (a +ℤ pos 1) n (λ i lt. same i (omega (arith, ints))))

sent_from_moved : (s : Stream) (by : ℤ) → ((i : ℤ) → s (i +ℤ by) ≡ s i) → (a : ℤ) (n : ℕ) → sent_from s (a +ℤ by) n ≡ sent_from s a n
sent_from_moved s by same a zero = refl
sent_from_moved s by same a (suc n) =
    let e : (a +ℤ by) +ℤ pos 1 ≡ (a +ℤ pos 1) +ℤ by = omega (arith, ints) in
    ap (λ x. x ∷ sent_from s ((a +ℤ by) +ℤ pos 1) n) (same a) ∙ ap (λ z. s a ∷ sent_from s z n) e
    ∙ ap (λ xs. s a ∷ xs) (sent_from_moved s by same (a +ℤ pos 1) n)

-- what was sent before slot i, one slot later
pub log_more : (s : Stream) (i : ℤ) (log : List (List ℕ)) (slot : List ℕ) → sent_from s (i -ℤ pos (length log)) (length log) ≡ log →
    s i ≡ slot → sent_from s ((i +ℤ pos 1) -ℤ pos (length (log ++ slot ∷ []))) (length (log ++ slot ∷ [])) ≡ log ++ slot ∷ []
log_more s i log slot is here =
    let size : length (log ++ slot ∷ []) ≡ suc (length log) = length-append log (slot ∷ []) ∙ one (length log) in
    let e : (i +ℤ pos 1) -ℤ pos (suc (length log)) ≡ i -ℤ pos (length log) = omega (arith, ints) in
    let f : (i -ℤ pos (length log)) +ℤ pos (length log) ≡ i = omega (arith, ints) in
    ap (λ n. sent_from s ((i +ℤ pos 1) -ℤ pos n) n) size
    ∙ ap (λ z. sent_from s z (suc (length log))) e
    ∙ sent_from_more s (i -ℤ pos (length log)) (length log)
    ∙ ap (λ xs. xs ++ s ((i -ℤ pos (length log)) +ℤ pos (length log)) ∷ []) is
    ∙ ap (λ x. log ++ x ∷ []) (ap s f ∙ here)
  where
    one : (n : ℕ) → n + 1 ≡ suc n
    one n = omega arith

pub log_same : (s t : Stream) (i : ℤ) (log : List (List ℕ)) → ((j : ℤ) → j <ℤ i → t j ≡ s j) →
    sent_from s (i -ℤ pos (length log)) (length log) ≡ log → sent_from t (i -ℤ pos (length log)) (length log) ≡ log
log_same s t i log same is = sent_from_same t s (i -ℤ pos (length log)) (length log) (λ j lt. same j (omega (arith, ints))) ∙ is

-- the next slot is at its place of the last edition's cycle
end_slot : (first : Edition) (t : Showing) (later : List Showing) (at : ℕ) →
    at < length (edition_at first (t ∷ later) (length (t ∷ later))).cycle →
    sent first (t ∷ later) (pos (first_slot (t ∷ later) (length (t ∷ later)) + at))
    ≡ get_or (edition_at first (t ∷ later) (length (t ∷ later))).cycle at []
end_slot first t [] at lt =
    let e : pos ((span t + 0) + at) -ℤ pos (span t) ≡ pos at = omega (arith, ints) in
    ap (repeated t.edition.cycle) e ∙ ap (λ n. get_or t.edition.cycle n []) (turned_start (length t.edition.cycle) at lt)
end_slot first t (next ∷ later) at lt =
    let n = first_slot (next ∷ later) (length (next ∷ later)) in
    let e : pos ((span t + n) + at) -ℤ pos (span t) ≡ pos (n + at) = omega (arith, ints) in
    ap (sent t.edition (next ∷ later)) e ∙ end_slot t.edition next later at lt

pub slot_there : (first : Edition) (later : List Showing) (at : ℕ) (i : ℤ) → IsPlace first later at i →
    at < length (edition_at first later (length later)).cycle → sent first later i ≡ get_or (edition_at first later (length later)).cycle at []
slot_there first [] at i place lt = ap (λ n. get_or first.cycle n []) place
slot_there first (t ∷ later) at i place lt = ap (sent first (t ∷ later)) place ∙ end_slot first t later at lt

-- the place after the next slot
module _ (turn : EachSlotTurns) (n at : ℕ) (i : ℤ) (place : turned n i ≡ at) (lt : at < n) where
  turned_next : turned n (i +ℤ pos 1) ≡ turned n (pos (at + 1))
  turned_next =
      let t = turn n i (omega arith) in
      let e = t.place in
      let f : pos (turned n i) +ℤ t.by ≡ pos at +ℤ t.by = ap (λ k. pos k +ℤ t.by) place in
      let g : i +ℤ pos 1 ≡ pos (at + 1) +ℤ t.by = omega (arith, ints) in
      ap (turned n) g ∙ t.same (pos (at + 1))

  turned_first : at + 1 ≡ n → turned n (i +ℤ pos 1) ≡ 0
  turned_first e =
      let f : pos (at + 1) ≡ pos 0 +ℤ pos (1 * n) = omega (arith, ints) in
      turned_next ∙ ap (turned n) f ∙ turned_more n 1 (pos 0) ∙ turned_start n 0 (omega arith)

pub next_inside : EachSlotTurns → (first : Edition) (later : List Showing) (at : ℕ) (i : ℤ) → IsPlace first later at i →
    at + 1 < length (edition_at first later (length later)).cycle → IsPlace first later (at + 1) (i +ℤ pos 1)
next_inside turn first [] at i place lt =
    turned_next turn (length first.cycle) at i place (omega arith) ∙ turned_start (length first.cycle) (at + 1) lt
next_inside turn first (t ∷ later) at i place lt = omega (arith, ints)

more_slots : (first : Edition) (t : Showing) (later : List Showing) →
    first_slot (one_more (t ∷ later)) (length (one_more (t ∷ later)))
    ≡ first_slot (t ∷ later) (length (t ∷ later)) + length (edition_at first (t ∷ later) (length (t ∷ later))).cycle
more_slots first t [] = product t.periods (length t.edition.cycle)
  where
    product : (m n : ℕ) → (m + 1) * n + 0 ≡ m * n + 0 + n
    product m n = omega arith
more_slots first t (next ∷ later) = let e = more_slots t.edition next later in omega arith

pub next_period : EachSlotTurns → (first : Edition) (later : List Showing) (at : ℕ) (i : ℤ) → IsPlace first later at i →
    at + 1 ≡ length (edition_at first later (length later)).cycle → IsPlace first (one_more later) 0 (i +ℤ pos 1)
next_period turn first [] at i place e = turned_first turn (length first.cycle) at i place (omega arith) e
next_period turn first (t ∷ []) at i place e = let f = more_slots first t [] in omega (arith, ints)
next_period turn first (t ∷ next ∷ later) at i place e = let f = more_slots first t (next ∷ later) in omega (arith, ints)

-- another edition takes over
taken_slots : (next : Edition) (later : List Showing) → first_slot (taken later next) (length (taken later next)) ≡ first_slot later (length later)
taken_slots next [] = omega arith
taken_slots next (t ∷ later) = ap (λ n. span t + n) (taken_slots next later)

pub record IsSoFar (log : List (List ℕ)) (first : Edition) (later : List Showing) (at : ℕ) : Type 0 where
  pub next : ℤ
  pub place : IsPlace first later at next
  pub is_log : sent_from (sent first later) (next -ℤ pos (length log)) (length log) ≡ log

pub so_far_taken : EachSlotTurns → (first next : Edition) (later : List Showing) (log : List (List ℕ)) (i : ℤ) → 0 < length first.cycle →
    IsPlace first later 0 i → sent_from (sent first later) (i -ℤ pos (length log)) (length log) ≡ log → IsSoFar log first (taken later next) 0
so_far_taken turn first next [] log i some place is =
    let t = turn (length first.cycle) i some in
    let e = t.place in
    let f : pos (turned (length first.cycle) i) +ℤ t.by ≡ pos 0 +ℤ t.by = ap (λ k. pos k +ℤ t.by) place in
    let g : i -ℤ pos (length log) ≡ (pos 0 -ℤ pos (length log)) +ℤ t.by = omega (arith, ints) in
    let later : List Showing = record { edition = next; periods = 0 } ∷ [] in
    record {
      next = pos 0;
      place = omega (arith, ints);
      is_log = log_same (repeated first.cycle) (sent first later) (pos 0) log (below first later)
          (sym (sent_from_moved (repeated first.cycle) t.by (λ j. ap (λ n. get_or first.cycle n []) (t.same j)) (pos 0 -ℤ pos (length log)) (length log))
          ∙ sym (ap (λ z. sent_from (repeated first.cycle) z (length log)) g) ∙ is);
    }
so_far_taken turn first next (t ∷ later) log i some place is =
    let e = taken_slots next (t ∷ later) in
    record {
      next = i;
      place = omega (arith, ints);
      is_log = log_same (sent first (t ∷ later)) (sent first (taken (t ∷ later) next)) i log
          (λ j lt. past_stays first next (t ∷ later) j (omega (arith, ints))) is;
    }

pub so_far_inside : EachSlotTurns → (first : Edition) (later : List Showing) (log : List (List ℕ)) (slot : List ℕ) (at : ℕ) (i : ℤ) →
    IsPlace first later at i → sent_from (sent first later) (i -ℤ pos (length log)) (length log) ≡ log →
    get_or (edition_at first later (length later)).cycle at [] ≡ slot →
    at + 1 < length (edition_at first later (length later)).cycle → IsSoFar (log ++ slot ∷ []) first later (at + 1)
so_far_inside turn first later log slot at i place is here lt = record {
  next = i +ℤ pos 1;
  place = next_inside turn first later at i place lt;
  is_log = log_more (sent first later) i log slot is (slot_there first later at i place (omega arith) ∙ here);
}

pub so_far_period : EachSlotTurns → (first : Edition) (later : List Showing) (log : List (List ℕ)) (slot : List ℕ) (at : ℕ) (i : ℤ) →
    IsPlace first later at i → sent_from (sent first later) (i -ℤ pos (length log)) (length log) ≡ log →
    get_or (edition_at first later (length later)).cycle at [] ≡ slot →
    at + 1 ≡ length (edition_at first later (length later)).cycle → IsSoFar (log ++ slot ∷ []) first (one_more later) 0
so_far_period turn first later log slot at i place is here e = record {
  next = i +ℤ pos 1;
  place = next_period turn first later at i place e;
  is_log = log_same (sent first later) (sent first (one_more later)) (i +ℤ pos 1) (log ++ slot ∷ []) (λ j _. more_is_same first later j)
      (log_more (sent first later) i log slot is (slot_there first later at i place (omega arith) ∙ here));
}
