-- What may have changed, over several steps; and rows that are updated one by one.
use Rattle.std.proofs.Common.{◌≡◌, ◌∙◌, ℕ, ◌+◌, ◌≤◌, min, max, Bool, List, [], ap, sym, subst, inl, inr, arith, Option, Some, None, replicate, Bor}
use Rattle.std.proofs.Common.{MatchOption}
use Rattle.std.proofs.lemmas.List.{ext_get_or}
use Rattle.ttx_page.specs.Memories.{Memory}
use Rattle.ttx_page.specs.Packets.{packet_of}
use Rattle.ttx_page.specs.Receivers.{Step}
use Rattle.ttx_page.specs.declared.class.Class.{Class}
use Rattle.ttx_page.specs.declared.selection.Selection.{Selection}
use Rattle.ttx_receiver.specs.Touching.{AreAlikeBut, touch_of, LeavesOthers, StepTouches, IsRowBelow, with_touch, IsBehind}
use Rattle.ttx_receiver.specs.declared.touch.Touch.{Touch}
use Rattle.ttx_receiver.specs.declared.touch.Touch.TheVariants.{Nothing, Row, Everything}
use Rattle.ttx_receiver.specs.declared.touch.Touched.{Touched}

-- differences add up in a range that contains both
module _ (k m n : Memory) where
  pub AreAlikeBut-trans : (a b c d e f : ℕ) → e ≤ a → b ≤ f → e ≤ c → d ≤ f → AreAlikeBut a b k m → AreAlikeBut c d m n → AreAlikeBut e f k n
  AreAlikeBut-trans a b c d e f p q s t x y = record {
    control = x.control ∙ y.control;
    links = x.links ∙ y.links;
    count = x.count ∙ y.count;
    rows = λ r out. elim out [
      | inl low ↦ x.rows r (inl (omega arith)) ∙ y.rows r (inl (omega arith))
      | inr high ↦ x.rows r (inr (omega arith)) ∙ y.rows r (inr (omega arith))
    ];
  }

  pub AreAlikeBut-none : (a b : ℕ) → AreAlikeBut a b k m → AreAlikeBut 0 0 m n → AreAlikeBut a b k n
  AreAlikeBut-none a b x y = record {
    control = x.control ∙ y.control;
    links = x.links ∙ y.links;
    count = x.count ∙ y.count;
    rows = λ r out. x.rows r out ∙ y.rows r (inr (omega arith));
  }

-- after a step, the copy is behind in what the step may change and in what it was behind before
pub behind_more : (t : Touched) (touch : Touch) (kept held new : Memory) → IsRowBelow 25 touch → IsBehind t kept held →
    LeavesOthers touch held new → IsBehind (with_touch t touch) kept new
behind_more t Nothing kept held new low b l = record { inside = b.inside; alike = λ e. AreAlikeBut-none kept held new t.begin t.end (b.alike e) l }
behind_more t (Row number) kept held new low b l = record {
  inside = omega arith;
  alike = λ e. AreAlikeBut-trans kept held new t.begin t.end number (number + 1) (min t.begin number) (max t.end (number + 1))
      (omega arith) (omega arith) (omega arith) (omega arith) (b.alike e) l;
}
behind_more t Everything kept held new low b l = record { inside = b.inside; alike = λ e. cc }

module _ (class : Class) (lines : ℕ) (sel : Selection) (kept held new : Memory) (received : List ℕ) (law : StepTouches)
    (step : Step class lines sel held received new) where
  pub behind_step : (t u : Touched) (touch : Touch) (own : Selection) (storing : Bool) → touch
      ≡ touch_of own storing (packet_of received) → own ≡ sel → storing ≡ held.storing
      → IsRowBelow 25 touch → u ≡ with_touch t touch → IsBehind t kept held → IsBehind u kept new
  behind_step t u touch own storing is same stored low after behind =
      let touches : touch_of sel held.storing (packet_of received) ≡ touch =
      ap (λ s. touch_of s held.storing (packet_of received)) (sym same)
      ∙ ap (λ b. touch_of own b (packet_of received)) (sym stored) ∙ sym is in
      let leaves : LeavesOthers touch held new = subst (λ x. LeavesOthers x held new) touches (law class lines sel held received new step) in
      subst (λ x. IsBehind x kept new) (sym after) (behind_more t touch kept held new low behind leaves)

-- a step with the bytes of a slot
pub step_of : (class : Class) (lines : ℕ) (sel : Selection) (m new : Memory) (slot : Option (Bor (List ℕ))) (bytes : List ℕ)
    → MatchOption slot (bytes ≡ replicate 42 0) (λ s. bytes ≡ s.now)
    → MatchOption slot (Step class lines sel m (replicate 42 0) new) (λ s. Step class lines sel m s.now new) → Step class lines sel m bytes new
step_of class lines sel m new None bytes is step = subst (λ b. Step class lines sel m b new) (sym is) step
step_of class lines sel m new (Some s) bytes is step = subst (λ b. Step class lines sel m b new) (sym is) step

pub rows_alike : (m n : Memory) → AreAlikeBut 0 0 m n → m.rows ≡ n.rows
rows_alike m n a = ext_get_or [] m.rows n.rows a.count (λ k l. a.rows k (inr (omega arith)))
