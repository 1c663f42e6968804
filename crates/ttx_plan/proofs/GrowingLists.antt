-- Lists that grow by what one more element sends.
use Rattle.std.proofs.Common.{◌≡◌, ℕ, ◌+◌, ◌<◌, ◌≤◌, List, [], ◌∷◌, ◌++◌, false, cond, eqb, map, length, take, get_or, replicate, sym, ap, subst}
use Rattle.std.proofs.Common.{append_assoc, append-nil, take_all}
use Rattle.std.specs.Prelude.{flat_map}
use Rattle.std.proofs.lemmas.Bool.{eq-eqb, ne_eqb}
use Rattle.std.proofs.lemmas.Grind.{flat_map-append}
use Rattle.std.proofs.lemmas.List.{map-append, take_more, replicate_more}
use Rattle.ttx_plan.specs.declared.rounds.SentBlock.{SentBlock}
use Rattle.ttx_plan.specs.declared.packet.Packet.{Packet}
use Rattle.ttx_plan.specs.Blocks.{Block, packets_of}
use Rattle.ttx_plan.specs.Seen.{seen_sent}

-- a first element, the same several times, and then the others

pub same_more : {B : Type 0} (list : List B) (first again : B) (n : ℕ) → (list ++ first ∷ replicate n again) ++ again ∷ [] ≡ list
    ++ first ∷ replicate (n + 1) again
same_more list first again n = simp (append_assoc, replicate_more)

pub others_begin : {B : Type 0} (list : List B) (first again : B) (n m : ℕ) → n ≡ m → list ++ first ∷ replicate n again ≡ list ++ first
    ∷ (replicate m again ++ [])
others_begin list first again n m e = rw (e, append-nil)

pub others_more : {A B : Type 0} (list : List B) (first : B) (between : List B) (sent : A → B) (xs ys : List A) (i : ℕ) (d : A) → ys
    ≡ xs → i < length ys →
    (list ++ first ∷ (between ++ map sent (take i xs))) ++ sent (get_or ys i d) ∷ [] ≡ list ++ first ∷ (between ++ map sent (take (i + 1) xs))
others_more list first between sent xs ys i d same here =
    rw (same, take_more xs i d (subst (λ zs. i < length zs) same here), map-append) (simp append_assoc)

pub others_end : {A B : Type 0} (list : List B) (first : B) (between : List B) (sent : A → B) (xs ys : List A) (i : ℕ) → ys ≡ xs → length ys ≤ i →
    list ++ first ∷ (between ++ map sent (take i xs)) ≡ list ++ first ∷ (between ++ map sent xs)
others_end list first between sent xs ys i same past =
    ap (λ z. list ++ first ∷ (between ++ map sent z)) (take_all i xs (subst (λ zs. length zs ≤ i) same past))

-- the packets of a queue, block by block

abbrev pub of_queue : ℕ → Block → List Packet
of_queue queue b = cond (eqb b.queue queue) (packets_of false b) []

more : (queue : ℕ) (sent : List SentBlock) (i : ℕ) (b : SentBlock) → i < length sent → b ≡ get_or sent i b →
    flat_map (of_queue queue) (map seen_sent (take i sent)) ++ of_queue queue (seen_sent b)
    ≡ flat_map (of_queue queue) (map seen_sent (take (i + 1) sent))
more queue sent i b here is =
    rw (take_more sent i b here, ← is, map-append) (rw (flat_map-append, append-nil))

pub own_more : (queue : ℕ) (sent : List SentBlock) (i : ℕ) (b : SentBlock) → i < length sent → b ≡ get_or sent i b → b.block.now.queue ≡ queue →
    flat_map (of_queue queue) (map seen_sent (take i sent)) ++ packets_of false (seen_sent b)
    ≡ flat_map (of_queue queue) (map seen_sent (take (i + 1) sent))
own_more queue sent i b here is own = rw (← more queue sent i b here is, eq-eqb b.block.now.queue queue own)

pub other_more : (queue : ℕ) (sent : List SentBlock) (i : ℕ) (b : SentBlock) → i < length sent → b ≡ get_or sent i b →
    (b.block.now.queue ≡ queue → ⊥) →
    flat_map (of_queue queue) (map seen_sent (take i sent)) ≡ flat_map (of_queue queue) (map seen_sent (take (i + 1) sent))
other_more queue sent i b here is other =
    rw (← more queue sent i b here is, ne_eqb b.block.now.queue queue other) (sym (append-nil _))
