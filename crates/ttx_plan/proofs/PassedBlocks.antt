-- The blocks that are sent, one by one, with the page number in the latest header of each queue.
use Rattle.std.proofs.Common.{◌≡◌, ℕ, ◌+◌, ◌/◌, ◌%◌, ◌<◌, Bool, true, false, ◌&&◌, cond, eqb, List, [], ◌∷◌, ◌++◌, map, length, take}
use Rattle.std.proofs.Common.{get_or, set, refl, sym, ap, ◌∙◌, arith, append_assoc, append-nil}
use Rattle.std.proofs.Common.{Some}
use Rattle.std.specs.Prelude.{slice_get}
use Rattle.std.proofs.lemmas.Bool.{eq-eqb, ne_eqb}
use Rattle.std.proofs.lemmas.List.{length-set, map-append, take_more}
use Rattle.std.proofs.lemmas.List.Elements.{filter-append}
use Rattle.std.proofs.lemmas.List.Sums.{sum_by-append, sum_by-cons}
use Rattle.ttx_plan.specs.Blocks.{Block, led, round_of, rounds_to, latest, with_fillers}
use Rattle.ttx_plan.specs.declared.block.PageBlock.{PageBlock}
use Rattle.ttx_plan.specs.Order.{some_block, picked}
use Rattle.ttx_plan.proofs.ListElements.{set_cond}
use Rattle.ttx_plan.specs.Seen.{seen, fillers_in}

-- the blocks that have been passed, latest first
abbrev pub passed : List Block → List Block → List Block
passed before [] = before
passed before (block ∷ blocks) = passed (block ∷ before) blocks

passed_next : (before blocks : List Block) (block : Block) → passed before (blocks ++ block ∷ []) ≡ block ∷ passed before blocks
passed_next before [] block = refl
passed_next before (b ∷ blocks) block = passed_next (b ∷ before) blocks block

abbrev pub is_again : List Block → Block → Bool
is_again blocks block = eqb (latest block.queue (passed [] blocks)) block.page

pub fillers_next : (late : Bool) (before blocks : List Block) (block : Block) → with_fillers late before (blocks ++ block ∷ [])
    ≡ with_fillers late before blocks ++ led (late && eqb (latest block.queue (passed before blocks)) block.page) block ∷ []
fillers_next late before [] block = refl
fillers_next late before (b ∷ blocks) block = ap (λ z. led (late && eqb (latest b.queue before) b.page) b ∷ z)
    (fillers_next late (b ∷ before) blocks block)

-- what is kept of the blocks that have been passed

pub record KeepsLatest (pages : List ℕ) (blocks : List Block) : Type 0 where
  pub size : length pages ≡ 8
  pub kept : (queue : ℕ) → queue < 8 → get_or pages queue 0 ≡ latest queue (passed [] blocks)

pub keeps_next : (pages : List ℕ) (blocks : List Block) (block : Block) → block.queue < 8 → KeepsLatest pages blocks →
    KeepsLatest (set pages block.queue block.page) (blocks ++ block ∷ [])
keeps_next pages blocks block lt k = record {
  size = length-set pages block.queue block.page ∙ k.size;
  kept = λ queue below. set_cond pages block.queue queue block.page (omega (arith, k.size, lt))
      ∙ ap (cond (eqb block.queue queue) block.page) (k.kept queue below) ∙ ap (latest queue) (sym (passed_next [] blocks block));
}

pub again_is : (pages : List ℕ) (blocks : List Block) (block : Block) → block.queue < 8 → KeepsLatest pages blocks →
    eqb (get_or pages block.queue 0) block.page ≡ is_again blocks block
again_is pages blocks block lt k = ap (λ n. eqb n block.page) (k.kept block.queue lt)

-- a round continues

abbrev pub in_round : ℕ → Block → Bool
in_round round block = eqb (round % (8 / block.often)) block.place

pub sent_more : (all some : List Block) (round : ℕ) (block : Block) → in_round round block ≡ true → rounds_to all round
    ++ round_of (some ++ block ∷ []) round ≡ (rounds_to all round ++ round_of some round) ++ block ∷ []
sent_more all some round block e = rw (filter-append, e) (sym (append_assoc (rounds_to all round) (round_of some round) (block ∷ [])))

pub sent_same : (all some : List Block) (round : ℕ) (block : Block) → in_round round block ≡ false → rounds_to all round
    ++ round_of (some ++ block ∷ []) round ≡ rounds_to all round ++ round_of some round
sent_same all some round block e = rw (filter-append, e) (ap (λ z. rounds_to all round ++ z) (append-nil (round_of some round)))

-- the blocks that are sent, and how many of them follow a time-filling header

one_more : (xs : List Block) (x : Block) → fillers_in xs + cond x.filler 1 0 ≡ fillers_in (xs ++ x ∷ [])
one_more xs x = omega (
  arith,
  sum_by-append (λ (y : Block). cond y.filler 1 0) xs (x ∷ []),
  sum_by-cons (λ (y : Block). cond y.filler 1 0) x [],
)

-- the lists after one more block: `next` is `some` with the block
pub sent_then : (late : Bool) (all some next : List Block) (round : ℕ) (block : Block) (filler : Bool) (pages : List ℕ)
    (sent : List Block) → next ≡ some ++ block ∷ [] → block.queue < 8 → round % (8 / block.often) ≡ block.place →
    KeepsLatest pages (rounds_to all round ++ round_of some round) → filler ≡ (late && eqb (get_or pages block.queue 0) block.page) →
    sent ≡ with_fillers late [] (rounds_to all round ++ round_of some round) →
    sent ++ led filler block ∷ [] ≡ with_fillers late [] (rounds_to all round ++ round_of next round)
sent_then late all some next round block filler pages sent more lt due k f s =
    rw (
      more,
      sent_more all some round block (eq-eqb (round % (8 / block.often)) block.place due),
      fillers_next late [] (rounds_to all round ++ round_of some round) block,
      s,
      f,
      again_is pages (rounds_to all round ++ round_of some round) block lt k,
    )

pub count_then : (late : Bool) (all some next : List Block) (round : ℕ) (block : Block) (filler : Bool) (pages : List ℕ) (count : ℕ) →
    next ≡ some ++ block ∷ [] → block.queue < 8 → round % (8 / block.often) ≡ block.place →
    KeepsLatest pages (rounds_to all round ++ round_of some round) → filler ≡ (late && eqb (get_or pages block.queue 0) block.page) →
    count ≡ fillers_in (with_fillers late [] (rounds_to all round ++ round_of some round)) →
    count + cond filler 1 0 ≡ fillers_in (with_fillers late [] (rounds_to all round ++ round_of next round))
count_then late all some next round block filler pages count more lt due k f s =
    let sent = with_fillers late [] (rounds_to all round ++ round_of some round) in
    ap (λ n. n + cond filler 1 0) s ∙ one_more sent (led filler block)
    ∙ ap fillers_in (sent_then late all some next round block filler pages sent more lt due k f refl)

pub keeps_then : (all some next : List Block) (round : ℕ) (block : Block) (pages : List ℕ) → next ≡ some ++ block ∷ [] →
    block.queue < 8 → round % (8 / block.often) ≡ block.place →
    KeepsLatest pages (rounds_to all round ++ round_of some round) →
    KeepsLatest (set pages block.queue block.page) (rounds_to all round ++ round_of next round)
keeps_then all some next round block pages more lt due k =
    rw (more, sent_more all some round block (eq-eqb (round % (8 / block.often)) block.place due))
    (keeps_next pages (rounds_to all round ++ round_of some round) block lt k)

-- if the block is not sent in the round, the lists stay
pub list_else : (all some next : List Block) (round : ℕ) (block : Block) → next ≡ some ++ block ∷ [] →
    (round % (8 / block.often) ≡ block.place → ⊥) → rounds_to all round ++ round_of some round ≡ rounds_to all round ++ round_of next round
list_else all some next round block more off =
    rw (more, sent_same all some round block (ne_eqb (round % (8 / block.often)) block.place off))

-- one more of the program's blocks
pub seen_next : (blocks : List PageBlock) (i : ℕ) (block : PageBlock) → i < length blocks → block ≡ get_or blocks i block →
    map seen (take (i + 1) blocks) ≡ map seen (take i blocks) ++ seen block ∷ []
seen_next blocks i block lt is = rw (take_more blocks i block lt, ← is, map-append)

-- blocks in an order: one more of them

picked_append : (blocks : List Block) (xs ys : List ℕ) → picked blocks (xs ++ ys) ≡ picked blocks xs ++ picked blocks ys
picked_append blocks [] ys = refl
picked_append blocks (x ∷ xs) ys =
    ap (λ z. some_block (slice_get blocks x) ++ z) (picked_append blocks xs ys)
    ∙ sym (append_assoc (some_block (slice_get blocks x)) (picked blocks xs) (picked blocks ys))

pub picked_next : (blocks : List Block) (order : List ℕ) (k : ℕ) (block : Block) → k < length order →
    slice_get blocks (get_or order k 0) ≡ Some block → picked blocks (take (k + 1) order) ≡ picked blocks (take k order) ++ block ∷ []
picked_next blocks order k block lt e =
    ap (picked blocks) (take_more order k 0 lt) ∙ picked_append blocks (take k order) (get_or order k 0 ∷ [])
    ∙ ap (λ z. picked blocks (take k order) ++ z) (append-nil (some_block (slice_get blocks (get_or order k 0))) ∙ ap some_block e)
