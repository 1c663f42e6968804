-- What a later deadline is enough for.
use Rattle.std.proofs.Common.{◌≡◌, ◌⊎◌, ℕ, ◌≤◌, ℤ, pos, ◌+ℤ◌, ◌<ℤ◌, ◌≤ℤ◌, List, [], ◌∷◌, Option, Some, None, refl, sym, subst, arith, inl, inr}
use Rattle.std.specs.Prelude.{◌↔◌}
use Rattle.std.specs.List.{AllByRecursion}
use Rattle.std.proofs.lemmas.Int.{ints}
use Rattle.std.proofs.Math.Nat.{mul-le-mul_right}
use Rattle.ttx_page.specs.Pages.{Page}
use Rattle.ttx_page.specs.declared.item.Item.{Item}
use Rattle.ttx_page.specs.Streams.{Stream, repeated, EndsBelow}
use Rattle.ttx_header.specs.Ids.{Id}
use Rattle.ttx_certificate.specs.NamedStarts.{Certificate, IsCertificate, limit}
use Rattle.ttx_witness.specs.Coverage.{IsCovered, IsLeftOut, Accepts}
use Rattle.ttx_witness.specs.search.Finding.{IsEnough, IsLeastDeadline, CanBeAccepted}
use Rattle.ttx_certify.specs.Verdicts.{IsVerdict}
use Rattle.ttx_certify.specs.declared.verdict.Verdict.{Verdict}
use Rattle.ttx_certify.specs.declared.verdict.Verdict.TheVariants.{Yes, No}
use Rattle.ttx_deadline.specs.Deadlines.{with_deadline}

all_below : (js : List ℤ) (a b : ℤ) → a ≤ℤ b → AllByRecursion (λ j. j <ℤ a) js → AllByRecursion (λ j. j <ℤ b) js
all_below [] a b le all = tt
all_below (j ∷ js) a b le all = let lt = all.0 in (omega (arith, ints, lt, le), all_below js a b le all.1)

ends_later : (s : Stream) (page : Id) (repeat : ℕ) (item : Item) (first a b : ℤ) → a ≤ℤ b → EndsBelow s page repeat item first a →
    EndsBelow s page repeat item first b
ends_later s page repeat item first a b le e = record { rest = e.rest; run = e.run; ends = all_below (first ∷ e.rest) a b le e.ends }

limit_later : (w : Certificate) (deadline : ℕ) → w.deadline ≤ deadline → limit w ≤ limit (with_deadline w deadline)
limit_later w deadline le = mul-le-mul_right w.lines le

covered_later : (cycle : List (List ℕ)) (p : Page) (w : Certificate) (deadline : ℕ) (item : Item) → w.deadline ≤ deadline →
    IsCovered cycle p w item → IsCovered cycle p (with_deadline w deadline) item
covered_later cycle p w deadline item le c =
    let more = limit_later w deadline le in
    record {
      named = c.named;
      sure = c.sure;
      in_time = λ tau.
          let t = c.in_time tau in
          let further : (tau +ℤ pos (limit w)) ≤ℤ (tau +ℤ pos (limit (with_deadline w deadline))) = omega (arith, ints, more) in (
            t.0,
            t.1,
            t.2,
            t.3,
            t.4,
            ends_later (repeated cycle) p.id w.repeat item t.0 (tau +ℤ pos (limit w)) (tau +ℤ pos (limit (with_deadline w deadline))) further t.5,
          );
    }

left_out_later : (cycle : List (List ℕ)) (p : Page) (w : Certificate) (deadline : ℕ) (item : Item) → w.deadline ≤ deadline →
    IsLeftOut cycle p w item → IsLeftOut cycle p (with_deadline w deadline) item
left_out_later cycle p w deadline item le c =
    let more = limit_later w deadline le in
    record {
      clearing = c.clearing;
      blank = c.blank;
      no_line = c.no_line;
      in_time = λ tau.
          let t = c.in_time tau in
          let lt = t.2 in
          (t.0, t.1, omega (arith, ints, more, lt), t.3);
    }

shown_later : (cycle : List (List ℕ)) (p : Page) (w : Certificate) (deadline : ℕ) (item : Item) → w.deadline ≤ deadline →
    IsCovered cycle p w item ⊎ IsLeftOut cycle p w item →
    IsCovered cycle p (with_deadline w deadline) item ⊎ IsLeftOut cycle p (with_deadline w deadline) item
shown_later cycle p w deadline item le (inl c) = inl (covered_later cycle p w deadline item le c)
shown_later cycle p w deadline item le (inr c) = inr (left_out_later cycle p w deadline item le c)

accepted_later : (cycle : List (List ℕ)) (pages : List Page) (w : Certificate) (deadline : ℕ) → w.deadline ≤ deadline → Accepts cycle pages w →
    Accepts cycle pages (with_deadline w deadline)
accepted_later cycle pages w deadline le a = record {
  clean = a.clean;
  steady = a.steady;
  covered = λ n p e item seen. shown_later cycle p w deadline item le (a.covered n p e item seen);
}

is_with_deadline : (w : Certificate) (deadline : ℕ) → IsCertificate w → 1 ≤ deadline → deadline ≤ 1000000 → IsCertificate (with_deadline w deadline)
is_with_deadline w deadline is from to = record {
  some_lines = is.some_lines;
  few_lines = is.few_lines;
  some_repeats = is.some_repeats;
  few_repeats = is.few_repeats;
  some_fields = from;
  few_fields = to;
  rising = is.rising;
}

can_be : (cycle : List (List ℕ)) (pages : List Page) (w : Certificate) (deadline : ℕ) → IsCertificate w → 1 ≤ deadline → deadline ≤ 1000000 →
    Accepts cycle pages (with_deadline w deadline) → CanBeAccepted cycle pages w.class w.lines w.repeat deadline
can_be cycle pages w deadline is from to a = record {
  w = with_deadline w deadline;
  is = is_with_deadline w deadline is from to;
  same_class = refl;
  same_lines = refl;
  same_repeat = refl;
  same_deadline = refl;
  accepted = a;
}

-- a least deadline is at most another exactly where the certificate is accepted with that one
pub enough_is_accepted : (cycle : List (List ℕ)) (pages : List Page) (w : Certificate) (least : Option ℕ) (deadline : ℕ) → IsCertificate w →
    1 ≤ deadline → deadline ≤ 1000000 → IsLeastDeadline cycle pages w least →
    Accepts cycle pages (with_deadline w deadline) ↔ IsEnough least deadline
enough_is_accepted cycle pages w None deadline is from to l =
    (λ a. absurd (l.1 deadline (can_be cycle pages w deadline is from to a)), λ none. absurd none)
enough_is_accepted cycle pages w (Some least) deadline is from to l = (
  λ a. l.2 deadline (can_be cycle pages w deadline is from to a),
  λ le. accepted_later cycle pages w deadline (subst (λ n. n ≤ deadline) (sym l.0) le) l.1,
)

-- the verdict is Yes exactly where the certificate is accepted
yes_is_accepted : (cycle : List (List ℕ)) (pages : List Page) (w : Certificate) (verdict : Verdict) → IsVerdict cycle pages w verdict →
    (verdict ≡ Yes) ↔ Accepts cycle pages w
yes_is_accepted cycle pages w Yes is = (λ e. is, λ a. refl)
yes_is_accepted cycle pages w (No reason) is = (λ e. let f : No reason ≡ Yes = e in cc, λ a. absurd (is.1 a))

pub exactly_enough : (cycle : List (List ℕ)) (pages : List Page) (w other : Certificate) (least : Option ℕ) (deadline : ℕ) (verdict : Verdict) →
    IsCertificate w → 1 ≤ deadline → deadline ≤ 1000000 → IsLeastDeadline cycle pages w least → other ≡ with_deadline w deadline →
    IsVerdict cycle pages other verdict → (verdict ≡ Yes) ↔ IsEnough least deadline
exactly_enough cycle pages w other least deadline verdict is from to l same v =
    let yes = yes_is_accepted cycle pages (with_deadline w deadline) verdict (subst (λ x. IsVerdict cycle pages x verdict) same v) in
    let enough = enough_is_accepted cycle pages w least deadline is from to l in
    (λ e. enough.0 (yes.0 e), λ n. yes.1 (enough.1 n))
