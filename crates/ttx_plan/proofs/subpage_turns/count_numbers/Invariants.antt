use Rattle.std.proofs.Common.{◌≡◌, ℕ, ◌<◌, ◌≤◌, eqb, get_or, length, take}
use Rattle.std.specs.List.{count_by}
use Rattle.ttx_plan.specs.Spreading.{number_of}
use Rattle.ttx_plan.proofs.subpage_turns.count_numbers.Given as goal

abbrev pub invariant-loop-index : goal.invariant-loop-index
invariant-loop-index l = record {
  length : length l.numbers ≡ 2304;
  value : (n : ℕ) → n < 2304 → get_or l.numbers n 0 ≡ count_by (λ p. eqb (number_of p) n) (take l.index l.service.pages);
  few : (n : ℕ) → get_or l.numbers n 0 ≤ l.index;
}
