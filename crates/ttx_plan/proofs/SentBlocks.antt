-- The blocks that are sent are those of the rounds, with or without time-filling headers before them.
use Rattle.std.proofs.Common.{◌≡◌, ℕ, zero, suc, ◌+◌, Bool, true, false, ◌&&◌, ◌||◌, cond, eqb, List, [], ◌∷◌, ◌++◌, length}
use Rattle.std.proofs.Common.{refl, sym, ap, ◌∙◌, arith, inl, inr}
use Rattle.std.specs.Prelude.{sum_by}
use Rattle.std.specs.List.{AllByRecursion, list_any}
use Rattle.std.proofs.lemmas.List.Sums.{sum_by-cons}
use Rattle.ttx_plan.specs.Blocks.{Block, led, round_of, rounds_to, latest, with_fillers, sent_blocks, has_pages, used_to, packets_in}
use Rattle.ttx_plan.specs.Seen.{fillers_in}
use Rattle.ttx_plan.proofs.ListElements.{all_append, all_filter, Has, any_has, has_any}
use Rattle.ttx_plan.proofs.PlacedBlocks.{IsInRounds, in_its_round, of_rounds}

-- what holds for each

pub rounds_all : (P : Block → Type 0) (blocks : List Block) (n : ℕ) → AllByRecursion P blocks → AllByRecursion P (rounds_to blocks n)
rounds_all P blocks zero a = tt
rounds_all P blocks (suc n) a = all_append P (rounds_to blocks n) (round_of blocks n) (rounds_all P blocks n a) (all_filter P _ blocks a)

pub led_all : (P : Block → Type 0) → ((filler : Bool) (block : Block) → P block → P (led filler block)) →
    (late : Bool) (before blocks : List Block) → AllByRecursion P blocks → AllByRecursion P (with_fillers late before blocks)
led_all P keeps late before [] a = tt
led_all P keeps late before (block ∷ blocks) a = (keeps _ block a.0, led_all P keeps late (block ∷ before) blocks a.1)

-- what does not depend on a time-filling header holds for the blocks that are sent
pub order_all : (P : Block → Type 0) → ((filler : Bool) (block : Block) → P block → P (led filler block)) →
    (late : Bool) (blocks : List Block) → AllByRecursion P blocks → AllByRecursion P (sent_blocks late blocks)
order_all P keeps late blocks a = led_all P keeps late [] (rounds_to blocks 8) (rounds_all P blocks 8 a)

-- one of the blocks

pub led_has : (late : Bool) (before blocks : List Block) (block : Block) → Has block blocks → (filler : Bool)
    × Has (led filler block) (with_fillers late before blocks)
led_has late before [] block h = absurd h
led_has late before (b ∷ blocks) block (inl e) = let filler = late && eqb (latest b.queue before) b.page in (filler, inl (ap (led _) e))
led_has late before (b ∷ blocks) block (inr h) = let r = led_has late (b ∷ before) blocks block h in (r.0, inr r.1)

-- the queues that have pages

any_rounds : (p : Block → Bool) (blocks : List Block) → AllByRecursion IsInRounds blocks → list_any p (rounds_to blocks 8) ≡ list_any p blocks
any_rounds p blocks a = same_truth (list_any p (rounds_to blocks 8)) (list_any p blocks)
    (λ e. let r = any_has p (rounds_to blocks 8) e in has_any p blocks r.0 (of_rounds blocks 8 r.0 r.1) r.2)
    (λ e. let r = any_has p blocks e in has_any p (rounds_to blocks 8) r.0 (in_its_round blocks r.0 a r.1) r.2)
  where
    same_truth : (a b : Bool) → (a ≡ true → b ≡ true) → (b ≡ true → a ≡ true) → a ≡ b
    same_truth true b there back = sym (there refl)
    same_truth false true there back = back refl
    same_truth false false there back = refl

pub any_led : (late : Bool) (before blocks : List Block) (queue : ℕ) → has_pages (with_fillers late before blocks) queue ≡ has_pages blocks queue
any_led late before [] queue = refl
any_led late before (b ∷ blocks) queue = ap (λ x. eqb b.queue queue || x) (any_led late (b ∷ before) blocks queue)

pub same_queues : (late : Bool) (blocks : List Block) → AllByRecursion IsInRounds blocks → (queue : ℕ) →
    has_pages (sent_blocks late blocks) queue ≡ has_pages blocks queue
same_queues late blocks a queue = any_led late [] (rounds_to blocks 8) queue ∙ any_rounds (λ b. eqb b.queue queue) blocks a

-- lists of blocks with the same queues
pub used_alike : (xs ys : List Block) → ((queue : ℕ) → has_pages xs queue ≡ has_pages ys queue) → (n : ℕ) → used_to xs n ≡ used_to ys n
used_alike xs ys same zero = refl
used_alike xs ys same (suc n) = ap (λ x. x ++ cond (has_pages xs n) (n ∷ []) []) (used_alike xs ys same n)
    ∙ ap (λ b. used_to ys n ++ cond b (n ∷ []) []) (same n)

-- how many there are

pub led_length : (late : Bool) (before blocks : List Block) → length (with_fillers late before blocks) ≡ length blocks
led_length late before [] = refl
led_length late before (b ∷ blocks) = ap suc (led_length late (b ∷ before) blocks)

pub led_packets : (late : Bool) (before blocks : List Block) → packets_in (with_fillers late before blocks)
    ≡ sum_by (λ b. length b.rest + 1) blocks + fillers_in (with_fillers late before blocks)
led_packets late before [] = refl
led_packets late before (b ∷ blocks) =
    let h : packets_in (with_fillers late (b ∷ before) blocks) ≡ sum_by (λ b. length b.rest + 1) blocks
    + fillers_in (with_fillers late (b ∷ before) blocks) = led_packets late (b ∷ before) blocks in
    let first : Block = led (late && eqb (latest b.queue before) b.page) b in
    omega (
      arith,
      h,
      sum_by-cons (λ (b : Block). length b.rest + 1) b blocks,
      sum_by-cons (λ (x : Block). cond x.filler 1 0 + (length x.rest + 1)) first (with_fillers late (b ∷ before) blocks),
      sum_by-cons (λ (x : Block). cond x.filler 1 0) first (with_fillers late (b ∷ before) blocks),
    )
