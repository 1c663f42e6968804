-- The queues that have pages.
use Rattle.std.proofs.Common.{◌≡◌, ℕ, ◌+◌, Bool, true, false, cond, List, [], ◌∷◌, ◌++◌, ◌||◌, map, refl, ap, ◌∙◌, append_assoc, add-one, eqb}
use Rattle.std.specs.List.{list_any}
use Rattle.std.proofs.Common.{suc, length, arith, length-append}
use Rattle.std.proofs.lemmas.List.{map-append}
use Rattle.ttx_plan.specs.declared.packet.Slot.{Slot}
use Rattle.ttx_plan.specs.declared.packet.Slot.TheVariants.{Sent}
use Rattle.ttx_plan.specs.declared.rounds.SentBlock.{SentBlock}
use Rattle.ttx_plan.specs.Blocks.{Block, has_pages, used_to, time_filling_packet}
use Rattle.ttx_plan.specs.Seen.{seen_sent}

pub any_seen : (queue : ℕ) (sent : List SentBlock) → list_any (λ b. eqb b.block.now.queue queue) sent ≡ has_pages (map seen_sent sent) queue
any_seen queue [] = refl
any_seen queue (b ∷ sent) = ap (λ x. eqb b.block.now.queue queue || x) (any_seen queue sent)

pub used_more : (front : List Slot) (blocks : List Block) (queue : ℕ) (b : Bool) → has_pages blocks queue ≡ b →
    (front ++ map (λ n. Sent n (time_filling_packet true n)) (used_to blocks queue))
    ++ cond b (Sent queue (time_filling_packet true queue) ∷ []) [] ≡ front
    ++ map (λ n. Sent n (time_filling_packet true n)) (used_to blocks (queue + 1))
used_more front blocks queue b e = rw (add-one, e, map-append) (rw (append_assoc, one b) refl)
  where
    one : (x : Bool) → cond x (Sent queue (time_filling_packet true queue) ∷ []) []
        ≡ map (λ n. Sent n (time_filling_packet true n)) (cond x (queue ∷ []) [])
    one true = refl
    one false = refl

pub used_next : (sent : List Block) (queue : ℕ) → length (used_to sent (queue + 1)) ≡ length (used_to sent queue) + cond (has_pages sent queue) 1 0
used_next sent queue =
    let n : queue + 1 ≡ suc queue = omega arith in
    ap (λ k. length (used_to sent k)) n ∙ length-append (used_to sent queue) (cond (has_pages sent queue) (queue ∷ []) [])
    ∙ ap (λ k. length (used_to sent queue) + k) (one (has_pages sent queue))
  where
    one : (x : Bool) → length (cond x (queue ∷ []) []) ≡ cond {A = ℕ} x 1 0
    one true = refl
    one false = refl
