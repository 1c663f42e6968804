-- The held mosaic looks back.
use Rattle.std.proofs.Common.{◌≡◌, ℕ, zero, suc, ◌+◌, ◌<◌, ◌≤◌, Bool, true, false, ◌&&◌, List, get_or, refl, ap, sym, ◌∙◌, arith, inl, inr}
use Rattle.std.proofs.Common.{below_more, add-one, subst}
use Rattle.ttx_render.specs.declared.cells.Glyph.TheVariants.{Char}
use Rattle.ttx_render.specs.Attributes.{mosaic_at, double_at, separated_at}
use Rattle.ttx_render.specs.Laws.{HeldIsFromLatest}
use Rattle.ttx_render.specs.Mosaics.{same, stays, held_at, shows_mosaic, mosaic_of, IsLatestMosaic, HasStayed}
use Rattle.ttx_render.proofs.InForce.{split}

same-refl : (a b : Bool) → a ≡ b → same a b ≡ true
same-refl true b e = sym e
same-refl false true e = cc
same-refl false false e = refl

same-true : (a b : Bool) → same a b ≡ true → a ≡ b
same-true true true e = refl
same-true true false e = cc
same-true false true e = cc
same-true false false e = refl

both : (a b : Bool) → a ≡ true → b ≡ true → a && b ≡ true
both a b e f = rw (e, f)

and-true : (a b : Bool) → a && b ≡ true → (a ≡ true) × (b ≡ true)
and-true true b e = (refl, e)
and-true false b e = cc

module _ (tall : Bool) (row : List ℕ) where
  Stayed : ℕ → Type 0
  Stayed e = (mosaic_at tall row (e + 1) ≡ mosaic_at tall row e) × (double_at tall row (e + 1) ≡ double_at tall row e)

  stays-from : (e : ℕ) → (mosaic_at tall row (e + 1) ≡ mosaic_at tall row e) × (double_at tall row (e + 1) ≡ double_at tall row e) →
      stays tall row e ≡ true
  stays-from e h =
      both _ _ (same-refl _ _ (ap (mosaic_at tall row) (sym (add-one e)) ∙ h.0)) (same-refl _ _ (ap (double_at tall row) (sym (add-one e)) ∙ h.1))

  stays-to : (e : ℕ) → stays tall row e ≡ true → (mosaic_at tall row (e + 1) ≡ mosaic_at tall row e)
      × (double_at tall row (e + 1) ≡ double_at tall row e)
  stays-to e h =
      let parts = and-true (same (mosaic_at tall row (suc e)) (mosaic_at tall row e)) (same (double_at tall row (suc e)) (double_at tall row e)) h in
      (ap (mosaic_at tall row) (add-one e) ∙ same-true _ _ parts.0, ap (double_at tall row) (add-one e) ∙ same-true _ _ parts.1)

  -- one step of looking back
  held-none : (d : ℕ) → stays tall row d ≡ false → held_at tall row (suc d) ≡ Char 0x20
  held-none d e = rw e

  held-here : (d : ℕ) → stays tall row d ≡ true → shows_mosaic tall row d ≡ true → held_at tall row (suc d)
      ≡ mosaic_of (get_or row d 0) (separated_at tall row d)
  held-here d e f = rw (e, f)

  held-past : (d : ℕ) → stays tall row d ≡ true → shows_mosaic tall row d ≡ false → held_at tall row (suc d) ≡ held_at tall row d
  held-past d e f = rw (e, f)

  kept : (c d : ℕ) → IsLatestMosaic tall row d c → HasStayed tall row d c → held_at tall row c ≡ mosaic_of (get_or row d 0) (separated_at tall row d)
  kept zero d is stayed = absurd (omega (arith, is.0))
  kept (suc b) d is stayed =
      elim (split d b (omega (arith, is.0))) [
        | inl low ↦
            held-past b (stays-from b (stayed b (omega arith) (omega arith))) (is.2 b low (omega arith))
            ∙ kept b d (low, is.1, λ e l h. is.2 e l (omega arith)) (λ e l h. stayed e l (omega arith))
        | inr q ↦
            let stay : stays tall row b ≡ true = stays-from b (stayed b (omega arith) (omega arith)) in
            let shown : shows_mosaic tall row b ≡ true = ap (shows_mosaic tall row) (sym q) ∙ is.1 in
            held-here b stay shown ∙ ap (λ (k : ℕ). mosaic_of (get_or row k 0) (separated_at tall row k)) (sym q)
      ]

  lost-by : (b d : ℕ) (s : Bool) → stays tall row b ≡ s → IsLatestMosaic tall row d (suc b) → ¬ HasStayed tall row d (suc b)
      → (IsLatestMosaic tall row d b → ¬ HasStayed tall row d b → held_at tall row b ≡ Char 0x20) → held_at tall row (suc b) ≡ Char 0x20
  lost-by b d false s is not_stayed before = held-none b s
  lost-by b d true s is not_stayed before =
      elim (split d b (omega (arith, is.0))) [
        | inl low ↦
            held-past b s (is.2 b low (omega arith))
            ∙ before (low, is.1, λ e l h. is.2 e l (omega arith))
            (λ stayed. not_stayed (λ e l h. below_more
            (λ e. d ≤ e → (mosaic_at tall row (e + 1) ≡ mosaic_at tall row e)
            × (double_at tall row (e + 1) ≡ double_at tall row e)) b (λ e h l. stayed e l h) (λ _. stays-to b s) e
            (omega arith) l))
        | inr q ↦ absurd (not_stayed (λ e l h. let here : e ≡ b = omega arith in
            subst (λ (k : ℕ). (mosaic_at tall row (k + 1) ≡ mosaic_at tall row k) × (double_at tall row (k + 1) ≡ double_at tall row k))
            (sym here) (stays-to b s)))
      ]

  lost : (c d : ℕ) → IsLatestMosaic tall row d c → ¬ HasStayed tall row d c → held_at tall row c ≡ Char 0x20
  lost zero d is not_stayed = refl
  lost (suc b) d is not_stayed = lost-by b d (stays tall row b) refl is not_stayed (lost b d)

  bare-by : (b : ℕ) (s : Bool) → stays tall row b ≡ s → shows_mosaic tall row b ≡ false → held_at tall row b ≡ Char 0x20 →
      held_at tall row (suc b) ≡ Char 0x20
  bare-by b false s none before = held-none b s
  bare-by b true s none before = held-past b s none ∙ before

  bare : (c : ℕ) → ((d : ℕ) → d < c → shows_mosaic tall row d ≡ false) → held_at tall row c ≡ Char 0x20
  bare zero none = refl
  bare (suc b) none = bare-by b (stays tall row b) refl (none b (omega arith)) (bare b (λ d l. none d (omega arith)))

pub held_is_from_latest_lem : HeldIsFromLatest
held_is_from_latest_lem tall row c = record {
  stayed = kept tall row c;
  changed = lost tall row c;
  none = bare tall row c;
}
