-- A block that is sent n times in eight rounds counts n times in a sum over the blocks that are sent.
use Rattle.std.proofs.Common.{◌≡◌, ℕ, zero, suc, ◌+◌, ◌*◌, ◌/◌, ◌%◌, Bool, true, false, cond, List, [], ◌∷◌, length, refl, sym, ap, ◌∙◌, arith, eqb}
use Rattle.std.specs.Prelude.{sum_by, filter, ◌<◌}
use Rattle.std.specs.List.{AllByRecursion}
use Rattle.std.proofs.lemmas.List.Sums.{sum_by-cons, sum_by-append}
use Rattle.ttx_plan.specs.Blocks.{Block, round_of, rounds_to}
use Rattle.ttx_plan.specs.Ranges.{IsOften}
use Rattle.ttx_plan.proofs.OftenNumbers.{by_often}
use Rattle.ttx_plan.proofs.PlacedBlocks.{IsInRounds}

-- w for each of the first n rounds in which the block is sent
abbrev pub in_rounds : ℕ → ℕ → ℕ → ℕ → ℕ
in_rounds often place zero w = 0
in_rounds often place (suc n) w = in_rounds often place n w + cond (eqb (n % (8 / often)) place) w 0

sum_same : (f g : Block → ℕ) (blocks : List Block) → ((b : Block) → f b ≡ g b) → sum_by f blocks ≡ sum_by g blocks
sum_same f g [] h = refl
sum_same f g (b ∷ blocks) h = let k : sum_by f blocks ≡ sum_by g blocks = sum_same f g blocks h
    in omega (arith, h b, sum_by-cons f b blocks, sum_by-cons g b blocks)

pub sum_filter : (f : Block → ℕ) (p : Block → Bool) (blocks : List Block) → sum_by f (filter p blocks) ≡ sum_by (λ b. cond (p b) (f b) 0) blocks
sum_filter f p [] = refl
sum_filter f p (b ∷ blocks) =
    let h : sum_by f (filter p blocks) ≡ sum_by (λ b. cond (p b) (f b) 0) blocks = sum_filter f p blocks in
    let k : sum_by (λ b. cond (p b) (f b) 0) (b ∷ blocks) ≡ cond (p b) (f b) 0 + sum_by (λ b. cond (p b) (f b) 0) blocks =
    sum_by-cons (λ b. cond (p b) (f b) 0) b blocks in
    one (p b) ∙ ap (λ x. cond (p b) (f b) 0 + x) h ∙ sym k
  where
    one : (c : Bool) → sum_by f (cond c (b ∷ filter p blocks) (filter p blocks)) ≡ cond c (f b) 0 + sum_by f (filter p blocks)
    one true = sum_by-cons f b (filter p blocks)
    one false = omega arith

sum_both : (f g : Block → ℕ) (blocks : List Block) → sum_by f blocks + sum_by g blocks ≡ sum_by (λ b. f b + g b) blocks
sum_both f g [] = refl
sum_both f g (b ∷ blocks) =
    let h : sum_by f blocks + sum_by g blocks ≡ sum_by (λ b. f b + g b) blocks = sum_both f g blocks in
    omega (arith, h, sum_by-cons f b blocks, sum_by-cons g b blocks, sum_by-cons (λ b. f b + g b) b blocks)

sum_rounds : (f : Block → ℕ) (blocks : List Block) (n : ℕ) → sum_by f (rounds_to blocks n) ≡ sum_by (λ b. in_rounds b.often b.place n (f b)) blocks
sum_rounds f blocks zero = zeros blocks
  where
    zeros : (bs : List Block) → 0 ≡ sum_by (λ b. 0) bs
    zeros [] = refl
    zeros (b ∷ bs) = let h : 0 ≡ sum_by (λ (b : Block). 0) bs = zeros bs in omega (arith, h, sum_by-cons (λ (b : Block). 0) b bs)
sum_rounds f blocks (suc n) =
    rw (sum_by-append f (rounds_to blocks n) (round_of blocks n), sum_rounds f blocks n, sum_filter f (λ b. eqb (n % (8 / b.often)) b.place) blocks)
    (sum_both (λ b. in_rounds b.often b.place n (f b)) (λ b. cond (eqb (n % (8 / b.often)) b.place) (f b) 0) blocks)

-- in eight rounds a block is sent `often` times, whatever its place
once : (place w : ℕ) → place < 8 → in_rounds 1 place 8 w ≡ 1 * w
once zero w lt = omega arith
once (suc zero) w lt = omega arith
once (suc (suc zero)) w lt = omega arith
once (suc (suc (suc zero))) w lt = omega arith
once (suc (suc (suc (suc zero)))) w lt = omega arith
once (suc (suc (suc (suc (suc zero))))) w lt = omega arith
once (suc (suc (suc (suc (suc (suc zero)))))) w lt = omega arith
once (suc (suc (suc (suc (suc (suc (suc zero))))))) w lt = omega arith
once (suc (suc (suc (suc (suc (suc (suc (suc n)))))))) w lt = absurd (omega (arith, lt))

twice : (place w : ℕ) → place < 4 → in_rounds 2 place 8 w ≡ 2 * w
twice zero w lt = omega arith
twice (suc zero) w lt = omega arith
twice (suc (suc zero)) w lt = omega arith
twice (suc (suc (suc zero))) w lt = omega arith
twice (suc (suc (suc (suc n)))) w lt = absurd (omega (arith, lt))

four_times : (place w : ℕ) → place < 2 → in_rounds 4 place 8 w ≡ 4 * w
four_times zero w lt = omega arith
four_times (suc zero) w lt = omega arith
four_times (suc (suc n)) w lt = absurd (omega (arith, lt))

eight_times : (place w : ℕ) → place < 1 → in_rounds 8 place 8 w ≡ 8 * w
eight_times zero w lt = omega arith
eight_times (suc n) w lt = absurd (omega (arith, lt))

pub in_eight_rounds : (often place w : ℕ) → IsOften often → place < 8 / often → in_rounds often place 8 w ≡ often * w
in_eight_rounds often place w = by_often (λ n. place < 8 / n → in_rounds n place 8 w ≡ n * w) (once place w) (twice place w) (four_times place w)
    (eight_times place w) often

pub sum_sent : (f : Block → ℕ) (blocks : List Block) → AllByRecursion IsInRounds blocks →
    sum_by f (rounds_to blocks 8) ≡ sum_by (λ b. b.often * f b) blocks
sum_sent f blocks a = sum_rounds f blocks 8 ∙ each blocks a
  where
    each : (bs : List Block) → AllByRecursion IsInRounds bs → sum_by (λ b. in_rounds b.often b.place 8 (f b)) bs ≡ sum_by (λ b. b.often * f b) bs
    each [] a = refl
    each (b ∷ bs) a =
        sum_by-cons (λ b. in_rounds b.often b.place 8 (f b)) b bs
        ∙ ap (λ x. x + sum_by (λ b. in_rounds b.often b.place 8 (f b)) bs) (in_eight_rounds b.often b.place (f b) a.0.often a.0.place)
        ∙ ap (λ x. b.often * f b + x) (each bs a.1)
        ∙ sym (sum_by-cons (λ b. b.often * f b) b bs)

length_sum : (blocks : List Block) → length blocks ≡ sum_by (λ b. 1) blocks
length_sum [] = refl
length_sum (b ∷ blocks) = let h : length blocks ≡ sum_by (λ b. 1) blocks = length_sum blocks
    in omega (arith, h, sum_by-cons (λ (b : Block). 1) b blocks)

pub count_sent : (blocks : List Block) → AllByRecursion IsInRounds blocks → length (rounds_to blocks 8) ≡ sum_by (λ b. b.often) blocks
count_sent blocks a =
    length_sum (rounds_to blocks 8) ∙ sum_sent (λ b. 1) blocks a
    ∙ sum_same (λ b. b.often * 1) (λ b. b.often) blocks (λ b. omega arith)
