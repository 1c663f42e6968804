-- What is received while slots pass.
use Rattle.std.proofs.Common.{◌≡◌, ◌↔◌, Bool, true, ℕ, suc, ◌+◌, ◌<◌, pos, ◌+ℤ◌, List, [], ◌∷◌, ◌++◌, length, get_or, refl, sym, ap, ◌∙◌, subst, inl}
use Rattle.std.proofs.Common.{inr, arith, length-append}
use Rattle.std.specs.List.Sorted.{IsNonDecreasing}
use Rattle.std.proofs.lemmas.Bool.{cases_lt}
use Rattle.ttx_page.specs.Receivers.{scripted}
use Rattle.ttx_page.specs.declared.class.Class.TheVariants.{Any}
use Rattle.ttx_page.specs.Streams.{Stream}
use Rattle.ttx_receiver.specs.Tuning.{Script, script_step, script_at, tuned_at}
use Rattle.ttx_page.specs.Pages.{Page}
use Rattle.ttx_certify.specs.Seen.{HasView}
use Rattle.ttx_counter.specs.Counters.{CounterRun, selection_for}
use Rattle.ttx_counter.specs.Checking.{IsJudgedRun}
use Rattle.ttx_counter.specs.Keys.{AreSlotKeys, AreFlipped}
use Rattle.ttx_counter.specs.Rule.{IsCursor}
use Rattle.ttx_counter.specs.Hearing.{IsHitBy, script_after, IsHeard}
use Rattle.ttx_counter.proofs.KeyCursors.{inside}

pub hit_by : (keys : List ℕ) → IsNonDecreasing keys → (n from to : ℕ) → IsCursor keys n from → AreSlotKeys keys n from to →
    (sent received : List ℕ) → AreFlipped keys from to sent received → IsHitBy keys n sent received
hit_by keys sorted n from to c s sent received f = record {
  size = f.size;
  hit = λ i lt e. let w = inside keys sorted n from to c s i lt e in f.hit i w.0 w.1;
  other = λ x none. f.other x (λ i low high e. none i (let w = s.within in omega arith) (s.own i low high) e);
}

pub script_more : (r : Script) (received : List (List ℕ)) (slot : List ℕ) → script_after r (received ++ slot ∷ [])
    ≡ script_step (script_after r received) slot
unfolding script_after
script_more r [] slot = refl
script_more r (x ∷ received) slot = script_more (script_step r x) received slot

-- the program's receiver with a script is that of the definitions
pub script_memory : (r : Script) (received : List (List ℕ)) → (script_after r received).tuned.memory
    ≡ scripted Any r.tuned.lines r.tuned.selection r.choices r.tuned.memory received
unfolding script_after
script_memory r [] = refl
script_memory r (x ∷ received) = script_memory (script_step r x) received

pub get_before : (xs : List (List ℕ)) (y : List ℕ) (i : ℕ) → i < length xs → get_or (xs ++ y ∷ []) i [] ≡ get_or xs i []
get_before [] y i lt = absurd (omega arith)
get_before (x ∷ xs) y ℕ.zero lt = refl
get_before (x ∷ xs) y (suc i) lt = get_before xs y i (omega arith)

pub get_last : (xs : List (List ℕ)) (y : List ℕ) → get_or (xs ++ y ∷ []) (length xs) [] ≡ y
get_last [] y = refl
get_last (x ∷ xs) y = get_last xs y

unfoldable pub heard_none : (s : Stream) (start : ℕ) (keys : List ℕ) (r : Script) → IsHeard s start 0 keys r r
unfolding script_after
heard_none s start keys r = record { received = []; count = refl; each = λ i lt. absurd (omega arith); reached = refl }

unfoldable pub heard_more : (s : Stream) (start n : ℕ) (keys : List ℕ) (old now new : Script) (slot : List ℕ) →
    IsHitBy keys n (s (pos start +ℤ pos n)) slot → new ≡ script_step now slot → IsHeard s start n keys old now →
    IsHeard s start (n + 1) keys old new
heard_more s start n keys old now new slot hit step h = record {
  received = h.received ++ slot ∷ [];
  count = let c = h.count in length-append h.received (slot ∷ []) ∙ omega arith;
  each = λ i lt. elim (cases_lt i n) as (λ _. IsHitBy keys i (s (pos start +ℤ pos i)) (get_or (h.received ++ slot ∷ []) i [])) [
    | inl low ↦ subst (λ z. IsHitBy keys i (s (pos start +ℤ pos i)) z)
        (sym (get_before h.received slot i (let c = h.count in omega arith))) (h.each i low)
    | inr up ↦
        let e : n ≡ i = omega arith in
        let q : length h.received ≡ n = h.count in
        subst (λ j. IsHitBy keys j (s (pos start +ℤ pos j)) (get_or (h.received ++ slot ∷ []) j [])) e
        (subst (λ z. IsHitBy keys n (s (pos start +ℤ pos n)) z)
        (sym (ap (λ j. get_or (h.received ++ slot ∷ []) j []) (sym q) ∙ get_last h.received slot)) hit)
  ];
  reached = step ∙ ap (λ z. script_step z slot) h.reached ∙ sym (script_more old h.received slot);
}

pub judged : (s : Stream) (keys : List ℕ) (p : Page) (c : CounterRun) (wrong : Bool) (old new : Script) → IsHeard s c.start c.slots keys old new →
    old ≡ script_at (tuned_at (selection_for c.any_sub p.id) c.lines c.former) c.choices → (wrong ≡ true)
    ↔ (HasView p new.tuned.memory → ⊥) → IsJudgedRun s keys p c wrong
judged s keys p c wrong old new h is told = record {
  received = h.received;
  count = h.count;
  each = h.each;
  told = subst (λ m. (wrong ≡ true) ↔ (HasView p m → ⊥))
      (ap (λ r. r.tuned.memory) h.reached ∙ script_memory old h.received
      ∙ ap (λ (o : Script). scripted Any o.tuned.lines o.tuned.selection o.choices o.tuned.memory h.received) is) told;
}
