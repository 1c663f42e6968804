use Rattle.std.proofs.Common.{◌≡◌, ℕ, ◌+◌, ◌*◌, ◌/◌, ◌%◌, ◌≤◌, ◌==◌, ℤ, pos, ◌+ℤ◌, ◌-ℤ◌, Bool, true, false, if◌then◌else◌, ap, ◌∙◌, arith}
use Rattle.std.proofs.Common.{refl, ◌<◌, eq-eqb}
use Rattle.std.proofs.lemmas.Int.{ints}
use Rattle.ttx_witness.specs.declared.runs.transmissions.Transmission.{Transmission}
use Rattle.ttx_certify.proofs.walks.packed_transmissions.pack.Goals as goal

same : (t : Transmission) (slot owner : ℤ) (sure : Bool) → slot ≡ t.slot → owner ≡ t.owner → sure ≡ t.sure →
    record { slot = slot; owner = owner; sure = sure } ≡ t
same t slot owner sure e f g = ap (λ x. record { slot = x; owner = owner; sure = sure }) e ∙ ap (λ x. record { slot = t.slot; owner = x; sure = sure }) f
    ∙ ap (λ x. record { slot = t.slot; owner = t.owner; sure = x }) g

slot_again : (s h g : ℕ) → s ≤ 131072 → h ≡ s / 65536 + 4 * g → s % 256 + 256 * (s / 256 % 256) + 65536 * (h % 4) ≡ s
slot_again s h g few e = omega arith

owner_again : (o h g b : ℕ) → o ≤ 131072 → g ≤ 3 → h ≡ g + 4 * (o / 65536) + 16 * b → o % 256 + 256 * (o / 256 % 256) + 65536 * (h / 4 % 4) ≡ o
owner_again o h g b few le e = omega arith

sure_again : (h g : ℕ) (sure : Bool) → g < 16 → h ≡ g + (if sure then 16 else 0) → (h / 16 == 1) ≡ sure
sure_again h g true lt e = eq-eqb (h / 16) 1 (omega arith)
sure_again h g false lt e = ap (λ n. n == 1) (let z : h / 16 ≡ 0 = omega arith in z)

sixteen : (sure : Bool) → (b : ℕ) × ((if sure then 16 else 0) ≡ 16 * b)
sixteen true = (1, refl)
sixteen false = (0, refl)

pub returns : goal.returns
returns c = λ within.
    let s = c.raised-slot.result in
    let o = c.raised-owner.result in
    let t = c.args.t in
    let (b, times) = sixteen t.sure in
    let slot : pos s ≡ t.slot +ℤ pos 65536 = omega (arith, ints) in
    let owner : pos o ≡ t.owner +ℤ pos 65536 = omega (arith, ints) in
    let few : s ≤ 131072 = omega (arith, ints) in
    let few_owners : o ≤ 131072 = omega (arith, ints) in
    let again = slot_again s c.high_bits.result (o / 65536 + 4 * b) few (omega arith) in
    let owner_is = owner_again o c.high_bits.result (s / 65536) b few_owners (omega arith) (omega arith) in
    same t _ _ _ (ap (λ n. pos n -ℤ pos 65536) again ∙ omega (arith, ints)) (ap (λ n. pos n -ℤ pos 65536) owner_is ∙ omega (arith, ints))
    (sure_again c.high_bits.result (s / 65536 + 4 * (o / 65536)) t.sure (omega arith) c.high_bits.ensures)
