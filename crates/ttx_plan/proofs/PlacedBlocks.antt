-- Blocks with their places among the rounds: what holds for them, and in which rounds they are sent.
use Rattle.std.proofs.Common.{◌≡◌, ℕ, zero, suc, ◌/◌, ◌%◌, ◌<◌, Bool, true, eqb, List, [], ◌∷◌, ◌++◌, length}
use Rattle.std.proofs.Common.{get_or, refl, sym, ap, ◌∙◌, arith, inl, inr, ◌||◌, mod-eq_of_lt, append-nil}
use Rattle.std.specs.Prelude.{sum_by}
use Rattle.std.specs.List.{AllByRecursion, list_any}
use Rattle.std.proofs.lemmas.Bool.{cases_lt, eq-eqb}
use Rattle.std.proofs.lemmas.List.Sums.{sum_by-cons}
use Rattle.ttx_plan.specs.Blocks.{Block, at_place, placed, round_of, rounds_to}
use Rattle.ttx_plan.specs.Ranges.{IsOften}
use Rattle.ttx_plan.proofs.ListElements.{Has, has_left, has_right, has_parts, has_filter, has_passed, all_has}
use Rattle.ttx_plan.proofs.OftenNumbers.{period_range}

-- a block whose place is in range
pub record IsInRounds (block : Block) : Type 0 where
  pub often : IsOften block.often
  pub place : block.place < 8 / block.often

-- places change nothing else

pub placed_all : (P : Block → Type 0) → ((place : ℕ) (block : Block) → P block → P (at_place place block)) →
    (places : List ℕ) (blocks : List Block) → AllByRecursion P blocks → AllByRecursion P (placed places blocks)
placed_all P moves [] blocks a = a
placed_all P moves (place ∷ places) [] a = tt
placed_all P moves (place ∷ places) (block ∷ blocks) a = (moves place block a.0, placed_all P moves places blocks a.1)

pub placed_has : (places : List ℕ) (blocks : List Block) (block : Block) → Has block blocks →
    (place : ℕ) × Has (at_place place block) (placed places blocks)
placed_has [] blocks block h = (block.place, h)
placed_has (place ∷ places) [] block h = absurd h
placed_has (place ∷ places) (b ∷ blocks) block (inl e) = (place, inl (ap (at_place place) e))
placed_has (place ∷ places) (b ∷ blocks) block (inr h) = let r = placed_has places blocks block h in (r.0, inr r.1)

pub placed_next : (places : List ℕ) (blocks : List Block) (block : Block) → placed places (blocks ++ block ∷ [])
    ≡ placed places blocks ++ at_place (get_or places (length blocks) block.place) block ∷ []
placed_next [] blocks block = refl
placed_next (place ∷ []) [] block = refl
placed_next (place ∷ (q ∷ places)) [] block = refl
placed_next (place ∷ places) (b ∷ blocks) block = ap (λ z. at_place place b ∷ z) (placed_next places blocks block)

pub placed_none : (places : List ℕ) → [] ≡ placed places []
placed_none [] = refl
placed_none (place ∷ places) = refl

pub round_starts : (places : List ℕ) (blocks : List Block) (round : ℕ) → rounds_to blocks round
    ≡ rounds_to blocks round ++ round_of (placed places []) round
round_starts places blocks round = sym (append-nil (rounds_to blocks round))
    ∙ ap (λ x. rounds_to blocks round ++ round_of x round) (placed_none places)

pub placed_sum : (f : Block → ℕ) → ((place : ℕ) (block : Block) → f (at_place place block) ≡ f block) →
    (places : List ℕ) (blocks : List Block) → sum_by f (placed places blocks) ≡ sum_by f blocks
placed_sum f same [] blocks = refl
placed_sum f same (place ∷ places) [] = refl
placed_sum f same (place ∷ places) (b ∷ blocks) =
    let h : sum_by f (placed places blocks) ≡ sum_by f blocks = placed_sum f same places blocks in
    omega (arith, h, same place b, sum_by-cons f b blocks, sum_by-cons f (at_place place b) (placed places blocks))

pub placed_any : (p : Block → Bool) → ((place : ℕ) (block : Block) → p (at_place place block) ≡ p block) →
    (places : List ℕ) (blocks : List Block) → list_any p (placed places blocks) ≡ list_any p blocks
placed_any p same [] blocks = refl
placed_any p same (place ∷ places) [] = refl
placed_any p same (place ∷ places) (b ∷ blocks) = ap (λ x. x || list_any p (placed places blocks)) (same place b)
    ∙ ap (λ x. p b || x) (placed_any p same places blocks)

-- a block is sent in the round of its place

in_rounds : (blocks : List Block) (n r : ℕ) (block : Block) → r < n → eqb (r % (8 / block.often)) block.place ≡ true → Has block blocks →
    Has block (rounds_to blocks n)
in_rounds blocks zero r block lt due h = absurd (omega arith)
in_rounds blocks (suc n) r block lt due h = elim (cases_lt r n) as (λ _. Has block (rounds_to blocks n ++ round_of blocks n)) [
  | inl before ↦ has_left block (rounds_to blocks n) (round_of blocks n) (in_rounds blocks n r block before due h)
  | inr last ↦
      let same : n ≡ r = omega arith in
      has_right block (rounds_to blocks n) (round_of blocks n) (has_filter (λ b. eqb (n % (8 / b.often)) b.place) block blocks h
      (ap (λ m. eqb (m % (8 / block.often)) block.place) same ∙ due))
]

pub in_its_round : (blocks : List Block) (block : Block) → AllByRecursion IsInRounds blocks → Has block blocks → Has block (rounds_to blocks 8)
in_its_round blocks block a h =
    let r = all_has IsInRounds blocks block a h in
    in_rounds blocks 8 block.place block (omega (arith, r.place, (period_range block.often r.often).1))
    (eq-eqb (block.place % (8 / block.often)) block.place (mod-eq_of_lt r.place)) h

-- each block of the rounds is one of the blocks
pub of_rounds : (blocks : List Block) (n : ℕ) (block : Block) → Has block (rounds_to blocks n) → Has block blocks
of_rounds blocks zero block h = absurd h
of_rounds blocks (suc n) block h = elim (has_parts block (rounds_to blocks n) (round_of blocks n) h) as (λ _. Has block blocks)
    [ inl before ↦ of_rounds blocks n block before | inr last ↦ has_passed _ block blocks last ]
