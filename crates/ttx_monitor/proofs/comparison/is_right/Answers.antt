use Rattle.std.proofs.Common.{◌≡◌, ℕ, ◌<◌, ◌⊎◌, get_or, sym, ap, ◌∙◌, subst, inl, inr, arith}
use Rattle.std.proofs.lemmas.Bool.{both_ways, cases_lt}
use Rattle.std.proofs.lemmas.List.{get_or-take}
use lib.Pointwise.{bytes_decides}
use Rattle.ttx_code.specs.Words.{distance, Near}
use Rattle.ttx_packet.specs.Slots.{kind_of}
use Rattle.ttx_packet.specs.Receptions.{IsFree, MayBeReceivedAs}
use Rattle.ttx_monitor.proofs.WrongBytes.{no_bits, none_in, no_bits_in}
use Rattle.ttx_monitor.proofs.comparison.is_right.Goals as goal

pub returns-then-eq : goal.returns-then-eq
returns-then-eq c = λ h.
    let s = c.args.sent.now in
    let r = c.args.received.now in
    let e = (bytes_decides r s).0 (sym c.if-eq.ensures) in
    record {
      may = subst (λ z. MayBeReceivedAs z r) e (c.each_slot_may_be_received_as_sent.ensures r c.requires);
      wrong = none_in s r (λ x lt. ap (λ l. get_or l x 0) e);
      bits = no_bits_in s r (λ x lt. ap (λ l. get_or l x 0) e);
      same = λ x lt. ap (λ l. get_or l x 0) e;
    }

pub returns : goal.returns
returns c = λ h.
    let s = c.args.sent.now in
    let r = c.args.received.now in
    let n = c.compared-end.result in
    let is = c.compared-end.ensures.is in
    let same : (x : ℕ) → x < n → get_or r x 0 ≡ get_or s x 0 =
    λ x lt. sym (get_or-take n r x 0 lt) ∙ ap (λ l. get_or l x 0) (c.are_same.ensures h) ∙ get_or-take n s x 0 lt in
    record {
      may = record {
        slot = c.requires;
        empty = λ e. absurd (both_ways _ (sym c.is_blank.ensures ∙ c.if-is_blank.false) e);
        near = λ x lt. elim (cases_lt x n) as (λ _. IsFree (kind_of s) x ⊎ Near (get_or s x 0) (get_or r x 0)) [
          | inl less ↦ inr (let e = ap (λ b. distance (get_or s x 0) b) (same x less) in let z = no_bits (get_or s x 0) in omega arith)
          | inr more ↦ inl (c.compared-end.ensures.free x lt more)
        ];
      };
      wrong = none_in s r (λ x lt. same x (let e = is in omega arith));
      bits = no_bits_in s r (λ x lt. same x (let e = is in omega arith));
      same = λ x lt. same x (let few = c.if-end-first.false in omega arith);
    }
