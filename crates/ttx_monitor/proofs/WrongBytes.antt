-- How many bytes are wrong, while a feed grows by one slot.
use Rattle.std.proofs.Common.{◌≡◌, ℕ, zero, suc, ◌+◌, ◌<◌, ◌≤◌, Bool, true, false, not, ◌==◌, ◌||◌, if◌then◌else◌, List, [], ◌∷◌, ◌++◌, length, get_or}
use Rattle.std.proofs.Common.{refl, ap, ◌∙◌, inl, inr, arith, eq-eqb, eqb-true}
use Rattle.std.proofs.lemmas.Bool.{cases_Bool}
use Rattle.std.proofs.lemmas.List.{get_or_append_left, get_or_push}
use Rattle.ttx_packet.specs.Slots.{kind_of, is_empty}
use Rattle.ttx_monitor.specs.Watching.{Watched, sent_at}
use Rattle.ttx_monitor.specs.Totals.{compared_bytes, count_to, sum_to, is_wrong, wrong_in, wrong_bits_at, bits_in, wrong_bytes}
use Rattle.std.specs.Int.Bits.{xor_self}
use Rattle.ttx_code.specs.Words.{distance, ones}

none_counted : (test : ℕ → Bool) (n : ℕ) → ((x : ℕ) → x < n → test x ≡ false) → count_to test n ≡ 0
unfolding count_to
none_counted test zero f = refl
none_counted test (suc n) f = rw (f n (omega arith)) (none_counted test n (λ x lt. f x (omega arith)))

module _ (test : ℕ → Bool) (n : ℕ) where
  pub passed : test n ≡ true → count_to test (n + 1) ≡ count_to test n + 1
  unfolding count_to
  passed h = let e : n + 1 ≡ suc n = omega arith in ap (count_to test) e ∙ rw h (let g : suc (count_to test n) ≡ count_to test n + 1 = omega arith in g)

  pub failed : test n ≡ false → count_to test (n + 1) ≡ count_to test n
  unfolding count_to
  failed h = let e : n + 1 ≡ suc n = omega arith in ap (count_to test) e ∙ rw h refl

pub none_before : (test : ℕ → Bool) → count_to test 0 ≡ 0
unfolding count_to
none_before test = refl

pub no_wrong : (w : Watched) → wrong_bytes w [] 0 ≡ 0
unfolding wrong_bytes
no_wrong w = refl

module _ (w : Watched) (feed : List (List ℕ)) (slot : List ℕ) where
  earlier : (m : ℕ) → m ≤ length feed → wrong_bytes w (feed ++ slot ∷ []) m ≡ wrong_bytes w feed m
  unfolding wrong_bytes
  earlier zero le = refl
  earlier (suc m) le =
      ap (λ k. k + wrong_in (sent_at w m) (get_or (feed ++ slot ∷ []) m [])) (earlier m (omega arith))
      ∙ ap (λ s. wrong_bytes w feed m + wrong_in (sent_at w m) s) (get_or_append_left feed (slot ∷ []) [] m (omega arith))

  pub wrong_more : wrong_bytes w (feed ++ slot ∷ []) (length feed + 1) ≡ wrong_bytes w feed (length feed) + wrong_in (sent_at w (length feed)) slot
  unfolding wrong_bytes
  wrong_more =
      let e : length feed + 1 ≡ suc (length feed) = omega arith in
      ap (wrong_bytes w (feed ++ slot ∷ [])) e
      ∙ ap (λ k. k + wrong_in (sent_at w (length feed)) (get_or (feed ++ slot ∷ []) (length feed) [])) (earlier (length feed) (omega arith))
      ∙ ap (λ s. wrong_bytes w feed (length feed) + wrong_in (sent_at w (length feed)) s) (get_or_push feed slot [] (length feed) refl)

-- one byte
module _ (sent received : List ℕ) (x : ℕ) where
  pub differs_at : (get_or received x 0 ≡ get_or sent x 0 → ⊥) → is_wrong sent received x ≡ true
  differs_at ne = elim (cases_Bool (get_or received x 0 == get_or sent x 0)) as (λ _. is_wrong sent received x ≡ true) [
    | inl same ↦ absurd (ne (eqb-true (get_or received x 0) (get_or sent x 0) same))
    | inr other ↦ ap not other
  ]

  pub same_at : get_or received x 0 ≡ get_or sent x 0 → is_wrong sent received x ≡ false
  same_at e = ap not (eq-eqb (get_or received x 0) (get_or sent x 0) e)

-- sums
none_summed : (of : ℕ → ℕ) (n : ℕ) → ((x : ℕ) → x < n → of x ≡ 0) → sum_to of n ≡ 0
unfolding sum_to
none_summed of zero f = refl
none_summed of (suc n) f = let a = none_summed of n (λ x lt. f x (omega arith)) in let b = f n (omega arith) in omega arith

pub first_sum : (of : ℕ → ℕ) → sum_to of 0 ≡ 0
unfolding sum_to
first_sum of = refl

pub next_sum : (of : ℕ → ℕ) (n : ℕ) → sum_to of (n + 1) ≡ sum_to of n + of n
unfolding sum_to
next_sum of n = let e : n + 1 ≡ suc n = omega arith in ap (sum_to of) e

pub no_bits : (a : ℕ) → distance a a ≡ 0
unfolding distance ones
no_bits a = rw xor_self refl

none_either_way : (b : Bool) (n : ℕ) → n ≡ 0 → (if b then 0 else n) ≡ 0
none_either_way true n e = refl
none_either_way false n e = e

-- a slot in which no byte is wrong
module _ (sent received : List ℕ) (same : (x : ℕ) → x < compared_bytes (kind_of sent) → get_or received x 0 ≡ get_or sent x 0) where
  pub none_in : wrong_in sent received ≡ 0
  none_in = none_counted (is_wrong sent received) (compared_bytes (kind_of sent)) (λ x lt. ap not (eq-eqb _ _ (same x lt)))

  pub no_bits_in : bits_in sent received ≡ 0
  no_bits_in = none_either_way (is_empty sent || is_empty received) (sum_to (wrong_bits_at sent received) (compared_bytes (kind_of sent)))
      (none_summed (wrong_bits_at sent received) (compared_bytes (kind_of sent))
      (λ x lt. ap (λ b. distance (get_or sent x 0) b) (same x lt) ∙ no_bits (get_or sent x 0)))
