-- A run extended by one slot.
use Rattle.std.proofs.Common.{◌≡◌, ℕ, List, [], ◌∷◌, ◌++◌, refl, subst}
use Rattle.ttx_page.specs.declared.class.Class.{Class}
use Rattle.ttx_page.specs.declared.selection.Selection.{Selection}
use Rattle.ttx_page.specs.Memories.{Memory}
use Rattle.ttx_page.specs.Receivers.{Step, Run}

run_more : {class : Class} {lines : ℕ} {sel : Selection} {mid new : Memory} {slot : List ℕ} (m : Memory) (received : List (List ℕ)) →
    Run class lines sel m received mid → Step class lines sel mid slot new → Run class lines sel m (received ++ slot ∷ []) new
run_more {class} {lines} {sel} {mid} {new} {slot} m [] r s = (new, subst (λ x. Step class lines sel x slot new) r s, refl)
run_more m (first ∷ received) r s = (r.0, r.1, run_more r.0 received r.2 s)

-- a step with equal settings
same_step : {class class' : Class} {lines lines' : ℕ} {sel sel' : Selection} {m new : Memory} {slot : List ℕ} → class' ≡ class → lines'
    ≡ lines → sel' ≡ sel →
    Step class' lines' sel' m slot new → Step class lines sel m slot new
same_step {class} {class'} {lines} {lines'} {sel} {sel'} {m} {new} {slot} a b c s =
    subst (λ k. Step k lines sel m slot new) a (subst (λ k. Step class' k sel m slot new) b (subst (λ k. Step class' lines' k m slot new) c s))

pub runs_go_on : (class class' : Class) (lines lines' : ℕ) (sel sel' : Selection) (m mid new : Memory) (received : List (List ℕ)) (slot : List ℕ) →
    class' ≡ class → lines' ≡ lines → sel' ≡ sel → Run class lines sel m received mid → Step class' lines' sel' mid slot new →
    Run class lines sel m (received ++ slot ∷ []) new
runs_go_on class class' lines lines' sel sel' m mid new received slot a b c run step = run_more m received run (same_step a b c step)
