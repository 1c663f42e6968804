-- The slot and the row that are due where a monitor stands, and what is kept of a slot that is received as it was sent.
use Rattle.std.proofs.Common.{◌≡◌, ℕ, ◌+◌, ◌%◌, ◌<◌, ◌≤◌, not, true, ◌==◌, List, [], ◌∷◌, ◌++◌, length}
use Rattle.std.proofs.Common.{get_or, Option, Some, None, refl, sym, ap, ◌∙◌, subst, arith, eq-eqb, eqb-true}
use Rattle.std.specs.Option.{IfSome}
use Rattle.std.proofs.lemmas.Bool.{both_ways, and_parts}
use Rattle.ttx_counter.specs.Cells.{is_text}
use Rattle.std.proofs.lemmas.Nat.{mod_below}
use Rattle.std.proofs.lemmas.List.{length_push}
use Rattle.ttx_cycle.specs.Cycles.{slots_of, slots_of-IsCycle}
use Rattle.ttx_counter.proofs.SentRows.{slot_at}
use Rattle.ttx_monitor.specs.Watching.{Watched, sent_at}
use Rattle.ttx_monitor.specs.Standing.{Stands}
use Rattle.ttx_monitor.specs.Streaks.{place_at, counted, AreCounted, AreCleared, AreTextsRight, IsNoted}
use Rattle.ttx_monitor.specs.Places.{is_at}
use Rattle.ttx_monitor.specs.declared.monitor.Monitor.{Monitor}
use Rattle.ttx_monitor.specs.declared.places.RowPlace.{RowPlace}
use Rattle.ttx_monitor.proofs.FeedStreaks.{turn_next, right, latest}

module _ (m : Monitor) (w : Watched) (feed : List (List ℕ)) (st : Stands m w feed) where
  pub some_slots : 0 < length w.cycle
  some_slots = subst (λ l. 0 < length l) st.cycle (slots_of-IsCycle m.cycle.now).some

  inside : m.at < length w.cycle
  inside = subst (λ z. z < length w.cycle) (sym st.at) (mod_below (w.start + length feed) (length w.cycle) some_slots)

  pub due_place : (place : Option RowPlace) → place ≡ get_or m.table.items m.at None → place ≡ place_at w m.table.items (length feed)
  due_place place is = is ∙ ap (λ z. get_or m.table.items z None) st.at

  pub due_slot : (sent : List ℕ) → (m.at < length (slots_of m.cycle.now) → sent ≡ get_or (slots_of m.cycle.now) m.at []) → sent ≡ sent_at w (length feed)
  due_slot sent is =
      is (subst (λ l. m.at < length l) (sym st.cycle) inside) ∙ ap (λ l. get_or l m.at []) st.cycle
      ∙ sym (slot_at w.cycle w.start (length feed) m.at st.at)

  pub next_at : (slots : List (List ℕ)) → slots ≡ w.cycle → (slot : List ℕ) (at : ℕ) → (m.at < length slots → at ≡ (m.at + 1) % length slots) →
      at ≡ (w.start + length (feed ++ slot ∷ [])) % length w.cycle
  next_at slots same slot at is =
      let grown : w.start + length feed + 1 ≡ w.start + length (feed ++ slot ∷ []) = let l = length_push feed slot in omega arith in
      is (subst (λ l. m.at < length l) (sym same) inside)
      ∙ ap (λ l. (m.at + 1) % length l) same
      ∙ ap (λ z. (z + 1) % length w.cycle) st.at
      ∙ turn_next (w.start + length feed) (length w.cycle) some_slots
      ∙ ap (λ z. z % length w.cycle) grown

-- the cells of a row whose text is right end their streaks
pub as_cleared : (at from to k : ℕ) (sent received old new : List ℕ) → ((x : ℕ) → from ≤ x → x < to → get_or received x 0 ≡ get_or sent x 0) →
    AreCleared at from to old new → AreCounted at from to k sent received old new
as_cleared at from to k sent received old new same a = record {
  size = a.size;
  inside = λ x low lt.
      a.inside x low lt ∙ sym (ap (counted k (get_or old (at + x) 0)) (eq-eqb (get_or received x 0) (get_or sent x 0) (same x low lt)));
  before = a.before;
  after = a.after;
}

-- no streak is reached
pub right_noted : (w : Watched) (table : List (Option RowPlace)) (feed : List (List ℕ)) (slot : List ℕ) → 1 ≤ w.repeat →
    AreTextsRight w table feed slot → IsNoted w table (feed ++ slot ∷ []) (length feed) None
right_noted w table feed slot some texts i r x lt low text h =
    let none = right w table feed slot i r x h (latest w table feed slot x ∙ ap not (eq-eqb _ _ (texts i r x h text))) in omega arith

-- the text of the row at a place ends before this byte
pub text_below : (o : Option RowPlace) (end : ℕ) → IfSome o (λ p. (x : ℕ) → is_text p.row x ≡ true → x < end) → (i r x : ℕ) →
    is_at i r o ≡ true → is_text r x ≡ true → x < end
text_below None end h i r x here text = absurd (both_ways _ refl here)
text_below (Some p) end h i r x here text =
    h x (subst (λ z. is_text z x ≡ true) (sym (eqb-true p.row r (and_parts (p.page == i) (p.row == r) here).1)) text)
