use Rattle.std.proofs.Common.{◌≡◌, ℕ, ◌+◌, ◌<◌, ◌≤◌, ◌%◌, List, All, Option, IfSome, Some, subst, ap, ◌∙◌, arith, length, take, drop, ◌-◌}
use Rattle.std.proofs.Common.{slice_range}
use Rattle.std.proofs.lemmas.List.{length-take-le, length-drop, length-map}
use Rattle.std.proofs.lemmas.List.Elements.{All-map}
use Rattle.ttx_info.proofs.reader.read_info.Goals as goal

part_length : (s : List ℕ) (from size : ℕ) → from + size ≤ length s → length (slice_range s from (from + size)) ≡ size
part_length s from size l =
    let rest : size ≤ length (drop from s) = omega (arith, length-drop from s) in
    let same : from + size - from ≡ size = omega arith in
    ap (λ n. length (take n (drop from s))) same ∙ length-take-le size (drop from s) rest

pub invariant_of-result : goal.invariant_of-result
invariant_of-result c =
    let text : All (λ b. b < 128) c.text_of.result =
    rw c.text_of.ensures (All-map (λ b. b < 128) (λ b. b % 128) (slice_range c.args.bytes.now 22 42) (λ k d l. omega arith))
    in
    let clock : (c.in-Some.mjd < 100000) × (c.in-Some.utc < 1000000) =
    subst (λ o. IfSome o (λ clock. (clock.0 < 100000) × (clock.1 < 1000000))) c.in-Some.is c.date_and_time.ensures.range in
    record {
      range = record { designation = c.in_ok-designation.ensures.range; halves = omega arith; mjd = clock.0; utc = clock.1; text = text };
      network = ap length c.network_of.ensures ∙ part_length c.args.bytes.now 9 2 (omega (arith, c.told-bytes));
      text = ap length c.text_of.ensures ∙ (length-map _ _ ∙ part_length c.args.bytes.now 22 20 (omega (arith, c.told-bytes)));
    }
