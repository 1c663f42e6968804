-- The stream of a cycle is the same in each period.
use Rattle.std.proofs.Common.{◌≡◌, ℕ, zero, suc, ◌+◌, ◌-◌, ◌*◌, ◌/◌, ◌%◌, ◌<◌, ℤ, pos, negsuc, ◌+ℤ◌, ◌-ℤ◌, [], get_or, refl, sym, ap, ◌∙◌, inl, inr}
use Rattle.std.proofs.Common.{arith, mod-eq_of_lt, mul-suc, mul-zero, mod-lt}
use Rattle.std.proofs.Math.Nat.{add-mod_right, div-add-mod}
use Rattle.std.proofs.lemmas.Bool.{cases_lt}
use Rattle.std.proofs.lemmas.Int.{ints}
use Rattle.ttx_page.specs.Streams.{turned}
use Rattle.ttx_page.specs.Laws.{CyclesRepeat, EachSlotTurns, JoinedIsOldThenNew}

turned_once : (n : ℕ) (x : ℤ) → turned n (x +ℤ pos n) ≡ turned n x
turned_once n (pos a) = add-mod_right a n
turned_once n (negsuc a) = elim (cases_lt a n) as (λ _. turned n (negsuc a +ℤ pos n) ≡ turned n (negsuc a)) [
  | inl lt ↦
      let e : (negsuc a +ℤ pos n) ≡ pos (n - suc a) = omega (arith, ints) in
      let small : n - suc a < n = omega arith in
      ap (turned n) e ∙ mod-eq_of_lt small ∙ omega (arith, mod-eq_of_lt lt)
  | inr ge ↦
      let e : (negsuc a +ℤ pos n) ≡ negsuc (a - n) = omega (arith, ints) in
      let k : (a - n) + n ≡ a = omega arith in
      ap (turned n) e ∙ ap (λ z. n - 1 - z) (sym (add-mod_right (a - n) n) ∙ ap (λ z. z % n) k)
]

turned_often : (n c : ℕ) (x : ℤ) → turned n (x +ℤ pos (n * c)) ≡ turned n x
turned_often n zero x = let z : n * 0 ≡ 0 = mul-zero n in let e : x +ℤ pos (n * 0) ≡ x = omega (arith, ints, z) in ap (turned n) e
turned_often n (suc c) x =
    let z : n * suc c ≡ n * c + n = mul-suc n c in
    let e : x +ℤ pos (n * suc c) ≡ (x +ℤ pos (n * c)) +ℤ pos n = omega (arith, ints, z) in
    ap (turned n) e ∙ turned_once n (x +ℤ pos (n * c)) ∙ turned_often n c x

pub each_slot_turns : EachSlotTurns
each_slot_turns n (pos a) h = record {
  inside = mod-lt a h;
  by = pos (n * (a / n));
  place = let z : n * (a / n) + a % n ≡ a = div-add-mod a n in omega (arith, ints, z);
  same = turned_often n (a / n);
}
each_slot_turns n (negsuc a) h =
    let z : n * (a / n) + a % n ≡ a = div-add-mod a n in
    let y : n * suc (a / n) ≡ n * (a / n) + n = mul-suc n (a / n) in
    let lt : a % n < n = mod-lt a h in
    let c = n * suc (a / n) in
    record {
      inside = omega arith;
      by = pos 0 -ℤ pos c;
      place = omega (arith, ints, z, y, lt);
      same = λ x. let e : x ≡ (x +ℤ (pos 0 -ℤ pos c)) +ℤ pos c = omega (arith, ints) in
          sym (ap (turned n) e ∙ turned_often n (suc (a / n)) (x +ℤ (pos 0 -ℤ pos c)));
    }

pub cycles_repeat : CyclesRepeat
cycles_repeat cycle some i = ap (λ n. get_or cycle n []) (turned_once _ i)

pub joined_is_old_then_new : JoinedIsOldThenNew
joined_is_old_then_new old new (pos i) = (λ h. absurd (omega (arith, ints)), λ h. refl)
joined_is_old_then_new old new (negsuc i) = (λ h. refl, λ h. absurd (omega (arith, ints)))
