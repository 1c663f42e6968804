-- A planned cycle is accepted with some certificate, and the search finds the least deadline.
use Rattle.std.proofs.Common.{◌≡◌, ◌⊎◌, ℕ, ◌≤◌, Bool, true, false, not, ◌&&◌, List, Option, Some, None, refl, sym, subst, inl, inr, arith}
use Rattle.std.proofs.lemmas.Bool.{cases_Bool}
use Rattle.ttx_links.specs.Laws.{WrittenLinksAreRead}
use Rattle.ttx_page.specs.declared.class.Class.{Class}
use Rattle.ttx_page.specs.declared.class.Class.TheVariants.{Any, Clearing}
use Rattle.ttx_page.specs.declared.item.Item.{Item}
use Rattle.ttx_page.specs.Laws.{BlankIsTested, SteadySendsItsOwn}
use Rattle.ttx_page.specs.PageLinks.{HasLinks}
use Rattle.ttx_page.specs.Pages.{Page, IsPage, IsBlank, needed, is_blank}
use Rattle.ttx_source.specs.Services.{ServiceFields, pages_of}
use Rattle.ttx_plan.specs.Acceptance.{IsPlanned, IsTransmitted, PlannedIsAccepted, IsLeastFound, PlannedIsFound}
use Rattle.ttx_plan.specs.Contents.{is_sent_to}
use Rattle.ttx_witness.specs.search.Finding.{CanBeAccepted, IsLeastDeadline}
use Rattle.ttx_witness.specs.laws.SureItems.{HasSureStart, AllSureHaveStarts, SureItemsAreAccepted}
use Rattle.ttx_plan.proofs.ReadPackets.{LawsBelow}
use Rattle.ttx_plan.proofs.RepeatedHeaders.{planned_is_sure}
use Rattle.ttx_plan.proofs.ServicePages.{authored_is, page_there}
use Rattle.ttx_plan.proofs.SteadyPages.{planned_is_steady}
use Rattle.ttx_plan.proofs.UnderHeaders.{planned_is_clean}
use Rattle.ttx_plan.proofs.WholeBlocks.{planned_items_are_sent}

-- an item that a viewer sees is sent; or it is blank, and receivers surely clear
sent_or_blank : (blank : BlankIsTested) (class : Class) (p : Page) (item : Item) → IsPage p → HasLinks p → needed p item ≡ true →
    (is_sent_to class p item ≡ true) ⊎ ((class ≡ Clearing) × IsBlank p item)
sent_or_blank blank Any p item is l need = inl need
sent_or_blank blank Clearing p item is l need = elim (cases_Bool (is_blank p item)) as
    (λ _. ((needed p item && not (is_blank p item)) ≡ true) ⊎ ((Clearing ≡ Clearing) × IsBlank p item)) [
      | inl y ↦ inr (refl, (blank p item is l.six need).0 y)
      | inr n ↦ inl (both (needed p item) (is_blank p item) need n)
    ]
  where
    both : (a b : Bool) → a ≡ true → b ≡ false → (a && not b) ≡ true
    both true true e f = sym f
    both true false e f = refl
    both false b e f = e

module _ (laws : LawsBelow) (written : WrittenLinksAreRead) (own : SteadySendsItsOwn) (blank : BlankIsTested)
    (starts : AllSureHaveStarts) (accept : SureItemsAreAccepted) where
  has_start : (late : Bool) (class : Class) (service : ServiceFields) (cycle : List (List ℕ)) → IsPlanned late class service cycle →
      (repeat : ℕ) → 1 ≤ repeat → (p : Page) → IsTransmitted class cycle p → (item : Item) → is_sent_to class p item ≡ true →
      HasSureStart cycle p.id service.lines repeat item
  has_start late class service cycle c repeat one p t item sent =
      let j = t.items item sent in
      starts cycle c.some p.id service.lines repeat item one j.1.owner j.0 j.1.owned
      (λ h k o. planned_is_sure laws c.places late class service cycle c.service_is c.said c.carries c.some p.id item h k o)

  pub planned_is_accepted : PlannedIsAccepted
  planned_is_accepted late class service cycle c repeat one eight =
      accept cycle (pages_of service) class service.lines repeat 1000000 c.some c.few c.service_is.lines_from c.service_is.lines_to one
      eight (omega arith) (omega arith)
      (omega (arith, c.few, c.service_is.lines_from))
      (record {
        clean = planned_is_clean laws c.places late class service cycle c.service_is c.said c.carries;
        steady = planned_is_steady laws written own late class service cycle c;
      })
      (λ n p at item need.
      let there = page_there service.pages n p at in
      let a = authored_is service.serial service.pages c.service_is.pages n there.0 there.1 in
      let is : IsPage p = subst IsPage there.2 a.page in
      let l : HasLinks p = subst HasLinks there.2 (c.linked n there.0 there.1) in
      let t = planned_items_are_sent laws written late class service cycle c n p at in
      elim (sent_or_blank blank class p item is l need) as
      (λ _. HasSureStart cycle p.id service.lines repeat item ⊎ ((class ≡ Clearing) × IsBlank p item)) [
        | inl s ↦ inl (has_start late class service cycle c repeat one p t item s)
        | inr b ↦ inr b
      ])

  pub planned_is_found : PlannedIsFound
  planned_is_found late class service cycle c repeat one eight w deadline f = by deadline f.least
    where
      can : CanBeAccepted cycle (pages_of service) w.class w.lines w.repeat 1000000
      can =
          subst (λ x. CanBeAccepted cycle (pages_of service) x w.lines w.repeat 1000000) (sym f.same_class)
          (subst (λ x. CanBeAccepted cycle (pages_of service) class x w.repeat 1000000) (sym f.same_lines)
          (subst (λ x. CanBeAccepted cycle (pages_of service) class service.lines x 1000000) (sym f.same_repeat)
          (planned_is_accepted late class service cycle c repeat one eight)))

      by : (answer : Option ℕ) → IsLeastDeadline cycle (pages_of service) w answer → IsLeastFound cycle (pages_of service) w answer
      by None l = absurd (l.1 1000000 can)
      by (Some d) l = record { deadline = d; is = refl; same = l.0; accepted = l.1; least = l.2 }
