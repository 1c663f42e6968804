-- A receiver over the slots of a cycle, slot by slot.
use Rattle.std.proofs.Common.{◌≡◌, ℕ, zero, suc, ◌+◌, ◌*◌, ◌/◌, ◌%◌, ◌<◌, pos, List, [], ◌∷◌, ◌++◌, length, get_or, refl, sym, ap, ◌∙◌, subst, arith}
use Rattle.std.specs.Prelude.{fold}
use Rattle.std.proofs.lemmas.Nat.{div-add-mod', mod-mul-add}
use Rattle.std.proofs.Math.Nat.{add-mod_right}
use Rattle.ttx_page.specs.Laws.{RunsGoOn, sent_from}
use Rattle.ttx_page.specs.Memories.{Memory}
use Rattle.ttx_page.specs.Receivers.{Step, Run}
use Rattle.ttx_page.specs.Streams.{Stream, repeated}
use Rattle.ttx_page.specs.declared.class.Class.{Class}
use Rattle.ttx_page.specs.declared.selection.Selection.{Selection}
use Rattle.ttx_tool.specs.Receive.{tuned_as, Hears}

-- the slots that are sent, and one more
sent_more : (s : Stream) (a n : ℕ) → sent_from s (pos a) (suc n) ≡ sent_from s (pos a) n ++ s (pos (a + n)) ∷ []
sent_more s a zero = let same : a ≡ a + 0 = omega arith in ap (λ i. s (pos i) ∷ []) same
sent_more s a (suc n) =
    let later : a + 1 + n ≡ a + suc n = omega arith in
    ap (λ rest. s (pos a) ∷ rest) (sent_more s (a + 1) n ∙ ap (λ i. sent_from s (pos (a + 1)) n ++ s (pos i) ∷ []) later)

-- what is made of the slots, and of one more
fold_more : {X : Type 0} (next : X → List ℕ → X) (x : X) (slots : List (List ℕ)) (slot : List ℕ) →
    fold next x (slots ++ slot ∷ []) ≡ next (fold next x slots) slot
fold_more next x [] slot = refl
fold_more next x (s ∷ slots) slot = fold_more next (next x s) slots slot

-- the receiver is what it makes of the slot where the cycle stands
pub next_more : {X : Type 0} (next : X → List ℕ → X) (old mid new : X) (slots : List (List ℕ)) (start count at : ℕ) →
    at ≡ (start + count) % length slots → mid ≡ fold next old (sent_from (repeated slots) (pos start) count) →
    new ≡ next mid (get_or slots at []) → new ≡ fold next old (sent_from (repeated slots) (pos start) (count + 1))
next_more next old mid new slots start count at place before after =
    let more : count + 1 ≡ suc count = omega arith in
    let sent = ap (sent_from (repeated slots) (pos start)) more ∙ sent_more (repeated slots) start count in
    after ∙ ap (λ i. next mid (get_or slots i [])) place ∙ ap (λ x. next x (get_or slots ((start + count) % length slots) [])) before
    ∙ sym (fold_more next old (sent_from (repeated slots) (pos start) count) (get_or slots ((start + count) % length slots) []))
    ∙ ap (fold next old) (sym sent)

-- the receiver hears the slot where the cycle stands
pub hears_more : RunsGoOn → {class class' : Class} {lines lines' : ℕ} {sel sel' : Selection} {mid new : Memory} (old : Memory)
    (slots : List (List ℕ)) (start count at : ℕ) →
    class' ≡ class → lines' ≡ lines → sel' ≡ sel → at ≡ (start + count) % length slots →
    Hears (tuned_as class lines sel) slots start count old mid → Step class' lines' sel' mid (get_or slots at []) new →
    Hears (tuned_as class lines sel) slots start (count + 1) old new
hears_more law {class} {class'} {lines} {lines'} {sel} {sel'} {mid} {new} old slots start count at a b c place run step =
    let heard = subst (λ i. Step class' lines' sel' mid (get_or slots i []) new) place step in
    let next : count + 1 ≡ suc count = omega arith in
    let more = ap (sent_from (repeated slots) (pos start)) next ∙ sent_more (repeated slots) start count in
    subst (λ list. Run class lines sel old list new) (sym more)
    (law class class' lines lines' sel sel' old mid new (sent_from (repeated slots) (pos start) count)
    (get_or slots ((start + count) % length slots) []) a b c run heard)

-- the next place, inside the cycle and at its end
pub next_inside : (a n at : ℕ) → at ≡ a % n → at + 1 < n → at + 1 ≡ (a + 1) % n
next_inside a n at place h =
    let split : a / n * n + a % n ≡ a = div-add-mod' a n in
    let whole : a / n * n + (at + 1) ≡ a + 1 = omega (arith, split, place) in
    sym (mod-mul-add (a / n) n (at + 1) h) ∙ ap (λ z. z % n) whole

pub next_round : (a n at : ℕ) → 0 < n → at ≡ a % n → at + 1 ≡ n → 0 ≡ (a + 1) % n
next_round a n at some place h =
    let split : a / n * n + a % n ≡ a = div-add-mod' a n in
    let whole : a / n * n + 0 + n ≡ a + 1 = omega (arith, split, place, h) in
    sym (add-mod_right (a / n * n + 0) n ∙ mod-mul-add (a / n) n 0 some) ∙ ap (λ z. z % n) whole
