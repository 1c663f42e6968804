use Rattle.std.proofs.Common.{◌≡◌, ◌↔◌, ℕ, pos, ◌-ℤ◌, ◌+ℤ◌, ℤ, Bool, Option, Some, None, refl, sym, ap, ◌∙◌, arith}
use Rattle.std.proofs.lemmas.Bool.{both_ways, eqb-true, false≢true}
use Rattle.std.proofs.lemmas.Int.{ints}
use Rattle.std.specs.Cmp.{booleans_Decides}
use Rattle.ttx_witness.specs.declared.sent.owners.Owner.{Owner}
use Rattle.ttx_witness.specs.sent.ItemTransmissions.{PageOwner, owner_moved}
use Rattle.ttx_witness.specs.sent.Collected.{is_page, seen_by}
use Rattle.ttx_certify.proofs.walks.returning_owners.is_later.Goals as goal
use Rattle.ttx_certify.proofs.walks.returning_owners.is_later.Goals.{then-from, else-from}

seen_alike : (s t : ℤ) (m n u v : Bool) → s ≡ t → m ≡ n → u ≡ v →
    ◌≡◌ {A = Option PageOwner} (Some (record { slot = s; mine = m; tainted = u })) (Some (record { slot = t; mine = n; tainted = v }))
seen_alike s t m n u v e f g = ap (λ x. Some (record { slot = x; mine = m; tainted = u })) e
    ∙ ap (λ x. Some (record { slot = t; mine = x; tainted = u })) f ∙ ap (λ x. Some (record { slot = t; mine = n; tainted = x })) g

only_owner : (x y : PageOwner) → ◌≡◌ {A = Option PageOwner} (Some x) (Some y) → x ≡ y
only_owner x y e = cc

module _ (d : ℤ) (i : ℕ) where
  abbrev AreLater : Owner → Owner → Type 0
  AreLater a b = (b.slot +ℤ d ≡ a.slot) × (is_page i b.page ≡ is_page i a.page) × (b.tainted ≡ a.tainted)

  later : (a b : Owner) (entry exit : Option Owner) → entry ≡ Some a → exit ≡ Some b →
      AreLater a b ↔ (owner_moved d (seen_by i exit) ≡ seen_by i entry)
  later a b entry exit e f = (
    (λ l. ap (λ o. owner_moved d (seen_by i o)) f ∙ seen_alike _ _ _ _ _ _ l.0 l.1 l.2 ∙ sym (ap (seen_by i) e)),
    (λ m. let same = only_owner (record { slot = b.slot +ℤ d; mine = is_page i b.page; tainted = b.tainted })
        (record { slot = a.slot; mine = is_page i a.page; tainted = a.tainted })
        (sym (ap (λ o. owner_moved d (seen_by i o)) f) ∙ m ∙ ap (seen_by i) e) in
        (ap (λ o. o.slot) same, ap (λ o. o.mine) same, ap (λ o. o.tainted) same)),
  )

  none_later : (a : Owner) (entry exit : Option Owner) → entry ≡ Some a → exit ≡ None → owner_moved d (seen_by i exit) ≡ seen_by i entry → ⊥
  none_later a entry exit e f m =
      let same : ◌≡◌ {A = Option PageOwner} None (seen_by i (Some a)) = sym (ap (λ o. owner_moved d (seen_by i o)) f) ∙ m ∙ ap (seen_by i) e in cc

  none_earlier : (b : Owner) (entry exit : Option Owner) → entry ≡ None → exit ≡ Some b → owner_moved d (seen_by i exit) ≡ seen_by i entry → ⊥
  none_earlier b entry exit e f m =
      let same : ◌≡◌ {A = Option PageOwner} (owner_moved d (seen_by i (Some b))) None =
      sym (ap (λ o. owner_moved d (seen_by i o)) f) ∙ m ∙ ap (seen_by i) e in cc

pub returns-in-None-None : goal.returns-in-None-None
returns-in-None-None c = (
  (λ t. ap (λ o. owner_moved (pos 0 -ℤ pos c.args.by) (seen_by c.args.index o)) c.in-None-None.is-1
      ∙ sym (ap (seen_by c.args.index) c.in-None-None.is-0)),
  (λ m. refl),
)

pub returns-then-is_page : goal.returns-then-is_page
returns-then-is_page c =
    let a = c.in-Some-Some.a in let b = c.in-Some-Some.b in let d = pos 0 -ℤ pos c.args.by in
    let same = later d c.args.index a b c.args.entry c.args.exit c.in-Some-Some.is-0 c.in-Some-Some.is-1 in
    let parts : (b.slot +ℤ d ≡ a.slot) × (is_page c.args.index b.page ≡ is_page c.args.index a.page) = elim c.if-from.branch [
      | then-from w ↦ (
        omega (arith, ints),
        sym w.is_page-then-from.ensures
            ∙ sym ((booleans_Decides w.is_page.result w.is_page-then-from.result).0 (sym w.value-is ∙ c.if-is_page.true)) ∙ w.is_page.ensures,
      )
      | else-from w ↦ absurd (w.if-from.false (eqb-true _ _ (sym w.value-is ∙ c.if-is_page.true)))
    ] in
    let told = booleans_Decides a.tainted b.tainted in
    ((λ t. same.0 (parts.0, parts.1, sym (told.0 t))), (λ m. told.1 (sym (same.1 m).2)))

pub returns-else-is_page : goal.returns-else-is_page
returns-else-is_page c =
    let a = c.in-Some-Some.a in let b = c.in-Some-Some.b in let d = pos 0 -ℤ pos c.args.by in
    let same = later d c.args.index a b c.args.entry c.args.exit c.in-Some-Some.is-0 c.in-Some-Some.is-1 in (
      (λ t. absurd (both_ways _ c.if-is_page.false t)),
      (λ m. elim c.if-from.branch [
        | then-from w ↦ w.value-is ∙ (booleans_Decides w.is_page.result w.is_page-then-from.result).1
            (w.is_page.ensures ∙ sym (same.1 m).1 ∙ sym w.is_page-then-from.ensures)
        | else-from w ↦ let e : b.slot +ℤ d ≡ a.slot = (same.1 m).0 in absurd (omega (arith, ints))
      ]),
    )

pub returns-in_default : goal.returns-in_default
returns-in_default c = (
  (λ t. absurd (false≢true t)),
  (λ m. absurd (none_earlier (pos 0 -ℤ pos c.args.by) c.args.index c.in_default.field-0-1 c.args.entry c.args.exit
      c.in_default.is-0 c.in_default.is-1 m)),
)

pub returns-in_default-2 : goal.returns-in_default-2
returns-in_default-2 c = (
  (λ t. absurd (false≢true t)),
  (λ m. absurd (none_later (pos 0 -ℤ pos c.args.by) c.args.index c.in_default.field-0-0 c.args.entry c.args.exit
      c.in_default.is-0 c.in_default.is-1 m)),
)
