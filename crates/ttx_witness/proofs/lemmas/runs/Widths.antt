-- The least limit of an item has an upper bound: a run of 8 transmissions spans at most 8 periods.
use Rattle.std.proofs.Common.{◌≡◌, ℕ, zero, suc, ◌+◌, ◌-◌, ◌*◌, ◌≤◌, ℤ, pos, negsuc, ◌+ℤ◌, ◌-ℤ◌, ◌≤ℤ◌, nat_le, List, [], ◌∷◌, ◌++◌, map, take, length}
use Rattle.std.proofs.Common.{Option, Some, None, refl, sym, subst, arith}
use Rattle.std.proofs.lemmas.Int.{ints}
use Rattle.std.specs.List.{AllByRecursion}
use Rattle.std.proofs.lemmas.Bool.{cond_both}
use Rattle.ttx_witness.specs.runs.Transmissions.{Transmission, Run, run_of, last_slot, windows, later, further, extended, runs}
use Rattle.ttx_witness.specs.runs.SureStarts.{Spread, widened, spread_after, spread_of, above_zero, width}
use Rattle.ttx_witness.specs.runs.Tracks.{IsWithin}
use Rattle.ttx_page.specs.Streams.{run_length}
use Rattle.ttx_page.specs.declared.item.Item.{Item}
use Rattle.ttx_page.specs.declared.item.Item.TheVariants.{Head as TheHead, Row as TheRow, Links as TheLinks}
use Rattle.ttx_witness.specs.search.Finding.{limit_of}
use Rattle.ttx_witness.proofs.lemmas.runs.AfterThePeriod.{within_more, turn_within}

all_append : {A : Type 0} (P : A → Type 0) (xs ys : List A) → AllByRecursion P xs → AllByRecursion P ys → AllByRecursion P (xs ++ ys)
all_append P [] ys a b = b
all_append P (x ∷ xs) ys a b = (a.0, all_append P xs ys a.1 b)

further_within : (n k b : ℕ) (ts : List Transmission) → n ≤ 65536 → AllByRecursion (IsWithin b) ts →
    AllByRecursion (IsWithin (b + 65536 * k)) (further n k ts)
unfolding further
further_within n zero b ts short w = tt
further_within n (suc k) b [] short w = tt
further_within n (suc k) b (t ∷ ts) short w =
    let first = w.0 in
    let low = first.slot_low in let high = first.slot_high in let owner_low = first.owner_low in let owner_high = first.owner_high in
    let rest = further_within n k (b + 65536) (ts ++ later n t ∷ []) short
    (turn_within n b (b + 65536) (t ∷ ts) (ts ++ later n t ∷ []) (later n t) short refl (refl, refl) w) in
    let same : (b + 65536) + 65536 * k ≡ b + 65536 * suc k = omega arith in (
      record { slot_low = omega (arith, ints); slot_high = omega (arith, ints); owner_low = omega (arith, ints); owner_high = omega (arith, ints) },
      subst (λ c. AllByRecursion (IsWithin c) (further n k (ts ++ later n t ∷ []))) same rest,
    )

-- the owner and the end of a run are within a bound
record IsRunWithin (c : ℕ) (r : Run) : Type 0 where
  owner_low : pos 0 ≤ℤ (r.owner +ℤ pos 65536)
  end_high : r.end ≤ℤ pos c

last_within : (c k : ℕ) (z : ℤ) (ts : List Transmission) → z ≤ℤ pos c → AllByRecursion (IsWithin c) ts → last_slot z (take k ts) ≤ℤ pos c
last_within c zero z ts le w = le
last_within c (suc k) z [] le w = le
last_within c (suc k) z (t ∷ ts) le w = last_within c k t.slot ts w.0.slot_high w.1

runs_within : (c k : ℕ) (ts : List Transmission) → AllByRecursion (IsWithin c) ts → AllByRecursion (IsRunWithin c) (map run_of (windows (suc k) ts))
unfolding windows
runs_within c k [] w = tt
runs_within c k (t ∷ ts) w = cond_both (nat_le (suc k) (suc (length ts))) (take (suc k) (t ∷ ts) ∷ windows (suc k) ts) []
    (λ ws. AllByRecursion (IsRunWithin c) (map run_of ws))
    (λ _. (record { owner_low = w.0.owner_low; end_high = last_within c k t.slot ts w.0.slot_high w.1 }, runs_within c k ts w.1)) (λ _. tt)

above_most : (z : ℤ) (w : ℕ) → z ≤ℤ pos w → above_zero z ≤ w
above_most (pos a) w h = omega (arith, ints)
above_most (negsuc a) w h = omega arith

record IsSpreadWithin (c : ℕ) (s : Spread) : Type 0 where
  first_high : s.first_end ≤ℤ pos c
  previous_low : pos 0 ≤ℤ (s.previous +ℤ pos 65536)
  widest_high : s.widest ≤ c + 65536

abbrev Within : ℕ → Option Spread → Type 0
Within c None = Unit {0}
Within c (Some s) = IsSpreadWithin c s

widened_within : (c : ℕ) (s : Option Spread) (r : Run) → Within c s → IsRunWithin c r → IsSpreadWithin c (widened s r)
widened_within c None r w a = record { first_high = a.end_high; previous_low = a.owner_low; widest_high = omega arith }
widened_within c (Some s) r w a =
    let low = w.previous_low in let high = a.end_high in let most = w.widest_high in
    let more = above_most (r.end -ℤ s.previous) (c + 65536) (omega (arith, ints)) in
    record { first_high = w.first_high; previous_low = a.owner_low; widest_high = omega arith }

spread_within : (c : ℕ) (s : Option Spread) (rs : List Run) → Within c s → AllByRecursion (IsRunWithin c) rs → Within c (spread_of s rs)
unfolding spread_of
spread_within c s [] w a = w
spread_within c s (r ∷ rs) w a = spread_within c (spread_after s r) rs
    (cond_both r.sure (Some (widened s r)) s (Within c) (λ _. widened_within c s r w a.0) (λ _. w)) a.1

-- the least limit for sure runs of at most 8 transmissions
pub width_most : (n k : ℕ) (ts : List Transmission) (s : Spread) → n ≤ 65536 → k ≤ 7 → AllByRecursion (IsWithin 65536) ts →
    spread_of None (runs n k ts) ≡ Some s → width n s ≤ 655360
width_most n k ts s short few w e =
    let c = 65536 + 65536 * k in
    let all = all_append (IsWithin (65536 + 65536 * k)) ts (further n k ts) (within_more 65536 (65536 + 65536 * k) ts (omega arith) w)
    (further_within n k 65536 ts short w) in
    let within : IsSpreadWithin (65536 + 65536 * k) s =
    subst (Within (65536 + 65536 * k)) e
    (spread_within (65536 + 65536 * k) None (runs n k ts) tt (runs_within (65536 + 65536 * k) k (extended n k ts) all)) in
    let a = within.first_high in let b = within.previous_low in let d = within.widest_high in
    let last = above_most ((s.first_end +ℤ pos n) -ℤ s.previous) (65536 + 65536 * k + 131072) (omega (arith, ints)) in
    omega arith

pub limit_most : (n k : ℕ) (ts : List Transmission) (o : Option Spread) (limit : ℕ) → n ≤ 65536 → k ≤ 7 →
    AllByRecursion (IsWithin 65536) ts → o ≡ spread_of None (runs n k ts) → limit_of n o ≡ Some limit → limit ≤ 655360
limit_most n k ts None limit short few w e l = let h : None ≡ Some limit = l in cc
limit_most n k ts (Some s) limit short few w e l = let h : width n s ≡ limit = cc in let m = width_most n k ts s short few w (sym e) in omega arith

-- a run has at most 8 transmissions
pub run_most : (repeat : ℕ) (item : Item) (count : ℕ) → repeat ≤ 8 → count ≡ run_length repeat item → count - 1 ≤ 7
run_most repeat TheHead count few e = omega arith
run_most repeat (TheRow r) count few e = omega arith
run_most repeat TheLinks count few e = omega arith
