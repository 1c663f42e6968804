-- If a stream is the same d slots later, then so are its runs.
use Rattle.std.proofs.Common.{◌≡◌, ℕ, suc, ℤ, pos, ◌+ℤ◌, ◌-ℤ◌, ◌<ℤ◌, List, [], ◌∷◌, map, ap, ◌∙◌, subst, arith}
use Rattle.std.specs.List.{AllByRecursion}
use Rattle.std.proofs.lemmas.List.{length-map}
use Rattle.std.proofs.lemmas.Int.{ints}
use Rattle.ttx_witness.specs.runs.Transmissions.{Run, moved_run}
use Rattle.ttx_witness.specs.runs.Repeating.{Successive, IsSentAt, IsSureSent, Repeats, IsRunFrom, BeginsSureRun, RunEndsBelow, IsRunOf}

abbrev on : ℤ → List ℤ → List ℤ
on d xs = map (λ x. x +ℤ d) xs

-- d slots later, and back
module _ (Owned Sure : ℤ → ℤ → Type 0) (k : ℕ) (d b : ℤ) (other : d +ℤ b ≡ pos 0)
    (owned_d : (h j : ℤ) → Owned h j → Owned (h +ℤ d) (j +ℤ d)) (owned_b : (h j : ℤ) → Owned h j → Owned (h +ℤ b) (j +ℤ b))
    (sure_d : (h j : ℤ) → Sure h j → Sure (h +ℤ d) (j +ℤ d)) where
  sent_d : (j : ℤ) → IsSentAt Owned j → IsSentAt Owned (j +ℤ d)
  sent_d j a = record { owner = a.owner +ℤ d; owned = owned_d a.owner j a.owned }

  sent_b : (j : ℤ) → IsSentAt Owned j → IsSentAt Owned (j -ℤ d)
  sent_b j a = let e : j +ℤ b ≡ j -ℤ d = omega (arith, ints)
      in subst (IsSentAt Owned) e (record { owner = a.owner +ℤ b; owned = owned_b a.owner j a.owned })

  sures_d : (xs : List ℤ) → AllByRecursion (IsSureSent Owned Sure) xs → AllByRecursion (IsSureSent Owned Sure) (on d xs)
  sures_d [] a = tt
  sures_d (x ∷ xs) a = (record { owner = a.0.owner +ℤ d; owned = owned_d a.0.owner x a.0.owned; sure = sure_d a.0.owner x a.0.sure }, sures_d xs a.1)

  below_d : (e : ℤ) (xs : List ℤ) → AllByRecursion (λ j. j <ℤ e) xs → AllByRecursion (λ j. j <ℤ (e +ℤ d)) (on d xs)
  below_d e [] a = tt
  below_d e (x ∷ xs) a = ((let l = a.0 in omega (arith, ints)), below_d e xs a.1)

  successive_d : (xs : List ℤ) → Successive (IsSentAt Owned) xs → Successive (IsSentAt Owned) (on d xs)
  successive_d [] a = tt
  successive_d (x ∷ []) a = sent_d x a
  successive_d (x ∷ y ∷ xs) a = (
    sent_d x a.0,
    (let l = a.1 in omega (arith, ints)),
    (λ z low high p. a.2 (z -ℤ d) (omega (arith, ints)) (omega (arith, ints)) (sent_b z p)),
    successive_d (y ∷ xs) a.3,
  )

  run_d : (i : ℤ) (rest : List ℤ) → IsRunFrom Owned k i rest → IsRunFrom Owned k (i +ℤ d) (on d rest)
  run_d i rest r = record { count = ap suc (length-map rest (λ x. x +ℤ d)) ∙ r.count; successive = successive_d (i ∷ rest) r.successive }

  pub has_sure_d : (i : ℤ) → BeginsSureRun Owned Sure k i → BeginsSureRun Owned Sure k (i +ℤ d)
  has_sure_d i h = record { rest = on d h.rest; run = run_d i h.rest h.run; all_sure = sures_d (i ∷ h.rest) h.all_sure }

  pub ends_d : (i e : ℤ) → RunEndsBelow Owned k i e → RunEndsBelow Owned k (i +ℤ d) (e +ℤ d)
  ends_d i e h = record { rest = on d h.rest; run = run_d i h.rest h.run; ends = below_d e (i ∷ h.rest) h.ends }

module _ (Owned Sure : ℤ → ℤ → Type 0) (k : ℕ) (d b : ℤ) (other : d +ℤ b ≡ pos 0) (other' : b +ℤ d ≡ pos 0)
    (owned_d : (h j : ℤ) → Owned h j → Owned (h +ℤ d) (j +ℤ d)) (owned_b : (h j : ℤ) → Owned h j → Owned (h +ℤ b) (j +ℤ b))
    (sure_d : (h j : ℤ) → Sure h j → Sure (h +ℤ d) (j +ℤ d)) (sure_b : (h j : ℤ) → Sure h j → Sure (h +ℤ b) (j +ℤ b)) where
  pub run_moved : (r : Run) → IsRunOf Owned Sure k r → IsRunOf Owned Sure k (moved_run d r)
  run_moved r a = record {
    owned = owned_d r.owner r.start a.owned;
    sure = (
      (λ e. has_sure_d Owned Sure k d b other owned_d owned_b sure_d r.start (a.sure.0 e)),
      (λ h. let e : (r.start +ℤ d) +ℤ b ≡ r.start = omega (arith, ints) in
          a.sure.1 (subst (BeginsSureRun Owned Sure k) e (has_sure_d Owned Sure k b d other' owned_b owned_d sure_b (r.start +ℤ d) h))),
    );
    ends = λ e. (
      (λ l. let q : (e -ℤ d) +ℤ d ≡ e = omega (arith, ints) in
          subst (RunEndsBelow Owned k (r.start +ℤ d)) q
          (ends_d Owned Sure k d b other owned_d owned_b sure_d r.start (e -ℤ d)
          ((a.ends (e -ℤ d)).0 (omega (arith, ints))))),
      (λ h. let q : (r.start +ℤ d) +ℤ b ≡ r.start = omega (arith, ints) in
          let l = (a.ends (e +ℤ b)).1 (subst (λ z. RunEndsBelow Owned k z (e +ℤ b)) q
          (ends_d Owned Sure k b d other' owned_b owned_d sure_b (r.start +ℤ d) e h)) in
          omega (arith, ints)),
    );
  }

-- one period later, and one period earlier
module _ (Owned Sure : ℤ → ℤ → Type 0) (n k : ℕ) (law : Repeats n Owned Sure) where
  abbrev pub minus : ℤ
  minus = pos 0 -ℤ pos n

  minus_is : (j : ℤ) → j -ℤ pos n ≡ j +ℤ minus
  minus_is j = omega (arith, ints)

  earlier : (P : ℤ → ℤ → Type 0) → ((h j : ℤ) → P h j → P (h -ℤ pos n) (j -ℤ pos n)) → (h j : ℤ) → P h j → P (h +ℤ minus) (j +ℤ minus)
  earlier P e h j a = subst (λ x. P x (j +ℤ minus)) (minus_is h) (subst (P (h -ℤ pos n)) (minus_is j) (e h j a))

  pub run_later : (r : Run) → IsRunOf Owned Sure k r → IsRunOf Owned Sure k (moved_run (pos n) r)
  run_later = run_moved Owned Sure k (pos n) minus (omega (arith, ints)) (omega (arith, ints)) law.owned_later
      (earlier Owned law.owned_earlier) law.sure_later (earlier Sure law.sure_earlier)

  pub run_earlier : (r : Run) → IsRunOf Owned Sure k r → IsRunOf Owned Sure k (moved_run minus r)
  run_earlier = run_moved Owned Sure k minus (pos n) (omega (arith, ints)) (omega (arith, ints))
      (earlier Owned law.owned_earlier) law.owned_later (earlier Sure law.sure_earlier) law.sure_later
