-- What a schedule sends, edition by edition, and a schedule that is cut after an edition.
use Rattle.std.proofs.Common.{◌≡◌, ℕ, zero, suc, ◌+◌, ◌<◌, ℤ, pos, negsuc, ◌-ℤ◌, ◌<ℤ◌, ◌≤ℤ◌, List, [], ◌∷◌, length, get_or, take, refl, sym, ap, ◌∙◌, arith}
use Rattle.std.proofs.lemmas.Int.{ints}
use Rattle.ttx_page.specs.Streams.{repeated, joined}
use Rattle.ttx_proof.proofs.NamedStarts.{turned_back}
use Rattle.ttx_playout.specs.Schedules.{Edition, Showing, span, first_slot, sent, AreEditions, IsHandedOn, LastsToNext}
use Rattle.ttx_playout.specs.Laws.{MoreIsSame, PastStays}

pub below : (first : Edition) (later : List Showing) (i : ℤ) → i <ℤ pos 0 → sent first later i ≡ repeated first.cycle i
below first [] i lt = refl
below first (t ∷ later) (pos i) lt = absurd (omega (arith, ints))
below first (t ∷ later) (negsuc i) lt = refl

pub above : (first : Edition) (t : Showing) (later : List Showing) (i : ℤ) → pos 0 ≤ℤ i →
    sent first (t ∷ later) i ≡ sent t.edition later (i -ℤ pos (span t))
above first t later (pos i) le = refl
above first t later (negsuc i) le = absurd (omega (arith, ints))

-- whole periods earlier a cycle sends the same
periods_back : (t : Showing) (i : ℤ) → repeated t.edition.cycle (i -ℤ pos (span t)) ≡ repeated t.edition.cycle i
periods_back t i = ap (λ n. get_or t.edition.cycle n []) (turned_back (length t.edition.cycle) t.periods i)

-- the change to the last edition is that of the two cycles alone
pub last_change : (first : Edition) (t : Showing) (i : ℤ) → sent first (t ∷ []) i ≡ joined first.cycle t.edition.cycle i
last_change first t (pos i) = periods_back t (pos i)
last_change first t (negsuc i) = refl

-- any other change is, up to the next one
pub next_change : (first : Edition) (t : Showing) (later : List Showing) (i : ℤ) → i <ℤ pos (span t) →
    sent first (t ∷ later) i ≡ joined first.cycle t.edition.cycle i
next_change first t later (pos i) lt = below t.edition later (pos i -ℤ pos (span t)) (omega (arith, ints)) ∙ periods_back t (pos i)
next_change first t later (negsuc i) lt = refl

-- cut after some editions, a schedule sends the same up to the next one
pub cut_same : (first : Edition) (later : List Showing) (n : ℕ) (i : ℤ) → (n < length later → i <ℤ pos (first_slot later n)) →
    sent first (take n later) i ≡ sent first later i
cut_same first [] zero i before = refl
cut_same first [] (suc n) i before = refl
cut_same first (t ∷ later) zero i before = sym (below first (t ∷ later) i (before (omega arith)))
cut_same first (t ∷ later) (suc n) (pos i) before = cut_same t.edition later n (pos i -ℤ pos (span t))
    (λ lt. let k = before (omega arith) in omega (arith, ints))
cut_same first (t ∷ later) (suc n) (negsuc i) before = refl

pub cut_editions : (first : Edition) (later : List Showing) (n : ℕ) → AreEditions first later → AreEditions first (take n later)
cut_editions first [] zero are = are
cut_editions first [] (suc n) are = are
cut_editions first (t ∷ later) zero are = are.0
cut_editions first (t ∷ later) (suc n) are = (are.0, cut_editions t.edition later n are.1)

cut_lasts : (t : Showing) (later : List Showing) (n : ℕ) → LastsToNext t later → LastsToNext t (take n later)
cut_lasts t [] zero lasts = tt
cut_lasts t [] (suc n) lasts = tt
cut_lasts t (next ∷ later) zero lasts = tt
cut_lasts t (next ∷ later) (suc n) lasts = lasts

pub cut_handed : (first : Edition) (later : List Showing) (n : ℕ) → IsHandedOn first later → IsHandedOn first (take n later)
cut_handed first [] zero handed = handed
cut_handed first [] (suc n) handed = handed
cut_handed first (t ∷ later) zero handed = (handed.0.0.old, handed.0.1.old_class)
cut_handed first (t ∷ later) (suc n) handed = (handed.0, cut_lasts t later n handed.1, cut_handed t.edition later n handed.2)

pub more_is_same : MoreIsSame
more_is_same first [] i = refl
more_is_same first (t ∷ []) (pos i) = periods_back (record t { periods = t.periods + 1 }) (pos i) ∙ sym (periods_back t (pos i))
more_is_same first (t ∷ []) (negsuc i) = refl
more_is_same first (t ∷ next ∷ later) (pos i) = more_is_same t.edition (next ∷ later) (pos i -ℤ pos (span t))
more_is_same first (t ∷ next ∷ later) (negsuc i) = refl

pub past_stays : PastStays
past_stays first next [] i lt = below first (record { edition = next; periods = 0 } ∷ []) i lt
past_stays first next (t ∷ later) (pos i) lt = past_stays t.edition next later (pos i -ℤ pos (span t)) (omega (arith, ints))
past_stays first next (t ∷ later) (negsuc i) lt = refl
