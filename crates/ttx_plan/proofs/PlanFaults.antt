-- What the two faults say about each answer of a plan.
use Rattle.std.proofs.Common.{◌≡◌, ℕ, ◌<◌, ◌≤◌, Bool, false, true, List, [], ◌∷◌, Result, Err, length, eqb, ap, sym, subst, arith}
use Rattle.std.specs.Prelude.{◌↔◌}
use Rattle.std.proofs.lemmas.Bool.{eqb-true}
use Rattle.ttx_cycle.specs.declared.cycles.Cycle.{Cycle}
use Rattle.ttx_page.specs.declared.class.Class.{Class}
use Rattle.ttx_plan.specs.declared.faults.PlanFault.{PlanFault}
use Rattle.ttx_plan.specs.declared.faults.PlanFault.TheVariants.{TooLong}
use Rattle.ttx_plan.specs.Blocks.{sent_blocks, length_bound}
use Rattle.ttx_plan.specs.Carries.{blocks_sent_at}
use Rattle.ttx_source.specs.Services.{Authored, ServiceFields, IsService}
use Rattle.ttx_plan.specs.Spread.{IsSpread, IsTooLongSpread}
use Rattle.ttx_plan.proofs.SpreadOnce.{spread_once}
use Rattle.ttx_plan.proofs.ServicePages.{each_often}

abbrev pub Answer : Type 0
Answer = Result Cycle PlanFault

pub is_told : {P : Type 0} (given asked : Answer) → given ≡ asked → P → (given ≡ asked) ↔ P
is_told given asked same p = (λ _. p, λ _. same)

pub is_not_told : {P : Type 0} (given asked : Answer) → (given ≡ asked → ⊥) → (P → ⊥) → (given ≡ asked) ↔ P
is_not_told given asked other fails = (λ e. absurd (other e), λ p. absurd (fails p))

pub is_not_long : {r n : ℕ} (given asked : Answer) → (given ≡ asked → ⊥) → r ≡ n → r ≤ 65536 → (given ≡ asked) ↔ (65536 < n)
is_not_long given asked other e few = is_not_told given asked other (λ long. omega (arith, e, few, long))

-- the program's list of pages is empty if and only if the service's is
pub empty_alike : {A : Type 0} (values : List A) (pages : List Authored) → length values ≡ length pages → true ≡ eqb (length values) 0 → pages ≡ []
empty_alike values [] same e = ap (λ _. []) same
empty_alike [] (p ∷ pages) same e = absurd (omega (arith, same))
empty_alike (v ∷ values) (p ∷ pages) same e = absurd (omega (arith, eqb-true (length (v ∷ values)) 0 (sym e)))

pub some_alike : {A : Type 0} (values : List A) (pages : List Authored) → length values ≡ length pages → false ≡ eqb (length values) 0 →
    pages ≡ [] → ⊥
some_alike values (p ∷ pages) same e none = cc
some_alike [] [] same e none = let f : false ≡ true = e in cc
some_alike (v ∷ values) [] same e none = omega (arith, same)

-- without pages the bound is two fields
pub bound_of_none : (spread : List ℕ) (late : Bool) (class : Class) (lines : ℕ) (pages : List Authored) → lines ≤ 32 → pages ≡ [] →
    65536 < length_bound lines (blocks_sent_at spread late class pages) → ⊥
bound_of_none [] late class lines [] few none long = omega arith
bound_of_none (place ∷ spread) late class lines [] few none long = omega arith
bound_of_none spread late class lines (p ∷ pages) few none long = cc

-- places that spread the pages

abbrev IsLong : List ℕ → Bool → Class → ServiceFields → Type 0
IsLong places late class service = 65536 < length_bound service.lines (blocks_sent_at places late class service.pages)

pub exactly_too_long : (places : List ℕ) (late : Bool) (class : Class) (service : ServiceFields) → IsService service →
    IsSpread class service.pages places → IsLong places late class service ↔ IsTooLongSpread late class service
exactly_too_long places late class service is spread = (
  λ long. record { places = places; spread = spread; long = long },
  λ other. subst (λ blocks. 65536 < length_bound service.lines (sent_blocks late blocks))
      (spread_once class service.pages other.places places (each_often service.serial service.pages is.pages) other.spread spread)
      other.long,
)

pub spread_too_long : (places : List ℕ) (late : Bool) (class : Class) (service : ServiceFields) (answer : Answer) → IsService service →
    IsSpread class service.pages places → (answer ≡ Err TooLong) ↔ IsLong places late class service →
    (answer ≡ Err TooLong) ↔ IsTooLongSpread late class service
spread_too_long places late class service answer is spread long =
    let exact = exactly_too_long places late class service is spread in
    (λ e. exact.0 (long.0 e), λ other. long.1 (exact.1 other))
