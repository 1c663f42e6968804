-- One pass over a period decides what the named starts cover.
use Rattle.std.proofs.Common.{◌≡◌, ◌↔◌, ℕ, suc, ◌+◌, ◌-◌, ◌%◌, ◌<◌, ℤ, pos, negsuc, ◌+ℤ◌, ◌-ℤ◌, ◌<ℤ◌, ◌≤ℤ◌, List, length, slice_index_or, None, refl}
use Rattle.std.proofs.Common.{sym, ap, ◌∙◌, subst, inl, inr, arith, mod-eq_of_lt}
use Rattle.std.specs.List.{Contains}
use Rattle.std.proofs.lemmas.List.Elements.{Contains-get_or, at_from_Contains}
use Rattle.std.proofs.lemmas.Int.{ints}
use Rattle.std.proofs.lemmas.Bool.{cases_lt}
use Rattle.std.proofs.Math.Nat.{add-mod_right}
use Rattle.ttx_witness.specs.runs.Transmissions.{Transmission, runs}
use Rattle.ttx_witness.specs.runs.Confirming.{Progress, Rising, late_after, confirmed_runs, after_runs, not_begun}
use Rattle.ttx_witness.specs.runs.Repeating.{Repeats, AreSent, BeginsSureRun, IsInTime, IsNamed, Covers, turned}
use Rattle.ttx_witness.specs.laws.RunLaws.{Passes}
use Rattle.ttx_witness.proofs.lemmas.runs.ConfirmedStarts.{named_at, marked_next, match_bound, chosen_match}
use Rattle.ttx_witness.proofs.lemmas.runs.PassDecides as D

pub turned_once : (n : ℕ) (x : ℤ) → turned n (x +ℤ pos n) ≡ turned n x
turned_once n (pos a) = add-mod_right a n
turned_once n (negsuc a) = elim (cases_lt a n) as (λ _. turned n (negsuc a +ℤ pos n) ≡ turned n (negsuc a)) [
  | inl lt ↦
      let e : (negsuc a +ℤ pos n) ≡ pos (n - suc a) = omega (arith, ints) in
      let small : n - suc a < n = omega arith in
      ap (turned n) e ∙ mod-eq_of_lt small ∙ omega (arith, mod-eq_of_lt lt)
  | inr ge ↦
      let e : (negsuc a +ℤ pos n) ≡ negsuc (a - n) = omega (arith, ints) in
      let k : (a - n) + n ≡ a = omega arith in
      ap (turned n) e ∙ ap (λ z. n - 1 - z) (sym (add-mod_right (a - n) n) ∙ ap (λ z. z % n) k)
]

pub named_up : (n : ℕ) (starts : List ℕ) (i : ℤ) → IsNamed n starts i → IsNamed n starts (i +ℤ pos n)
named_up n starts i h = subst (Contains starts) (sym (turned_once n i)) h

pub named_down : (n : ℕ) (starts : List ℕ) (i : ℤ) → IsNamed n starts i → IsNamed n starts (i -ℤ pos n)
named_down n starts i h = let e : (i -ℤ pos n) +ℤ pos n ≡ i = omega (arith, ints)
    in subst (Contains starts) (sym (ap (turned n) e) ∙ turned_once n (i -ℤ pos n)) h

turned_start : (n v : ℕ) → v < n → turned n (pos v) ≡ v
turned_start n v lt = mod-eq_of_lt lt

module _ (n : ℕ) (starts : List ℕ) where
  pub named_is : ((i : ℕ) → i < length starts → slice_index_or starts i 0 < n) → (i : ℕ) → i < length starts → IsNamed n starts (named_at starts i)
  named_is below i lt = subst (Contains starts) (sym (turned_start n (slice_index_or starts i 0) (below i lt))) (Contains-get_or starts i 0 lt)

  pub named_in : (x : ℤ) → pos 0 ≤ℤ x → x <ℤ pos n → IsNamed n starts x → (i : ℕ) × (i < length starts) × (x ≡ named_at starts i)
  named_in (pos v) low high h =
      let a = at_from_Contains starts (turned n (pos v)) h in
      (a.0, a.1, ap pos (sym (turned_start n v (omega (arith, ints))) ∙ sym (a.2 0)))
  named_in (negsuc v) low high h = absurd (omega (arith, ints))

module _ (Owned Sure : ℤ → ℤ → Type 0) (n k limit : ℕ) (law : Repeats n Owned Sure) (starts : List ℕ) (rising : Rising starts)
    (ts : List Transmission) (told : AreSent Owned Sure (pos 0) (pos n) ts) where
  abbrev final : Progress
  final = after_runs limit starts not_begun (runs n k ts)

  late_is : ((i : ℕ) → i < length starts → slice_index_or starts i 0 < n) → final.next ≡ length starts → 0 < length starts →
      (late_after limit starts final (final.first_end +ℤ pos n) ≡ None) ↔ ((tau : ℤ) → IsInTime Owned (IsNamed n starts) (suc k) limit tau)
  late_is below = D.in_time Owned Sure n k law starts rising limit ts told (IsNamed n starts) (named_up n starts) (named_down n starts)
      (named_is n starts below) (named_in n starts)

  passes_covers : Passes n k limit starts ts → Covers Owned Sure n (suc k) limit starts
  passes_covers c =
      let each = D.complete Owned Sure n k law starts rising limit ts told c.all_confirmed in
      let below = λ (i : ℕ) (lt : i < length starts). let h : named_at starts i <ℤ pos n = (each i lt).0
      in let g : slice_index_or starts i 0 < n = omega (arith, ints) in g in
      record {
        named = (slice_index_or starts 0 0, Contains-get_or starts 0 0 c.some_named);
        sure = λ start h.
            let a = at_from_Contains starts start h in
            let e : slice_index_or starts a.0 0 ≡ start = a.2 0 in
            (subst (λ x. x < n) e (below a.0 a.1), subst (λ x. BeginsSureRun Owned Sure (suc k) (pos x)) e (each a.0 a.1).1);
        in_time = (late_is below c.all_confirmed c.some_named).0 c.none_late;
      }

  covers_passes : Covers Owned Sure n (suc k) limit starts → Passes n k limit starts ts
  covers_passes c =
      let any : 0 < length starts = let lt = c.named.1.1 in omega arith in
      let sure_at = λ (i : ℕ) (lt : i < length starts). c.sure (slice_index_or starts i 0) (Contains-get_or starts i 0 lt) in
      let full : final.next ≡ length starts = full_if (λ i lt. (sure_at i lt).0) (λ i lt. (sure_at i lt).1) in
      record {
        some_named = any;
        all_confirmed = full;
        none_late = (late_is (λ i lt. (sure_at i lt).0) full any).1 c.in_time;
      }
    where
      full_if : ((i : ℕ) → i < length starts → slice_index_or starts i 0 < n) →
          ((i : ℕ) → i < length starts → BeginsSureRun Owned Sure (suc k) (named_at starts i)) → final.next ≡ length starts
      full_if below sure = elim (cases_lt final.next (length starts)) as (λ _. final.next ≡ length starts) [
        | inl lt ↦ absurd (D.stops Owned Sure n k law starts rising limit ts told final.next refl lt
            (let b = below final.next lt in omega (arith, ints)) (sure final.next lt))
        | inr ge ↦ let e = marked_next limit starts not_begun (runs n k ts) in
            let b = match_bound starts 0 (confirmed_runs starts 0 (runs n k ts)) (chosen_match starts 0 (runs n k ts)) (omega arith) in omega arith
      ]

  pub decides : Passes n k limit starts ts ↔ Covers Owned Sure n (suc k) limit starts
  decides = (passes_covers, covers_passes)

-- naming a further start of a sure run keeps covered what is covered
pub more_cover : (Owned Sure : ℤ → ℤ → Type 0) (n k limit : ℕ) (starts more : List ℕ) →
    ((start : ℕ) → Contains starts start → Contains more start) →
    ((start : ℕ) → Contains more start → (start < n) × BeginsSureRun Owned Sure k (pos start)) →
    Covers Owned Sure n k limit starts → Covers Owned Sure n k limit more
more_cover Owned Sure n k limit starts more further sure c = record {
  named = (c.named.0, further c.named.0 c.named.1);
  sure = sure;
  in_time = λ tau. let t = c.in_time tau in
      record {
        start = t.start;
        owner = t.owner;
        named = further (turned n t.start) t.named;
        owned = t.owned;
        not_before = t.not_before;
        ends = t.ends;
      };
}
