use Rattle.std.proofs.Common.{◌≡◌, ◌∙◌, map, take, ap, sym}
use Rattle.std.proofs.lemmas.Bool.{both_ways}
use Rattle.ttx_code.specs.Words.{odd_byte}
use Rattle.ttx_witness.proofs.lemmas.faults.SentBytes.{back_sent, front_sent, whole_sent}
use Rattle.ttx_witness.proofs.faults.wrong_slots.is_row_sent.Goals as goal

pub returns-then-are_sent : goal.returns-then-are_sent
returns-then-are_sent c =
    let b = c.args.bytes.now in let k = c.args.characters.now in
    let front : take 32 b ≡ map odd_byte (take 32 k) = sym c.split_at.ensures.front ∙ c.are_sent.ensures.0 c.if-are_sent.true
    ∙ ap (map odd_byte) c.split_at-2.ensures.front in (
      (λ t. whole_sent 32 b k front (sym c.split_at.ensures.back ∙ c.are_sent-then-are_sent.ensures.0 t ∙ ap (map odd_byte) c.split_at-2.ensures.back)),
      (λ h. c.are_sent-then-are_sent.ensures.1 (c.split_at.ensures.back ∙ back_sent 32 b k h ∙ ap (map odd_byte) (sym c.split_at-2.ensures.back))),
    )

pub returns-else-are_sent : goal.returns-else-are_sent
returns-else-are_sent c =
    let b = c.args.bytes.now in let k = c.args.characters.now in (
      (λ t. absurd (both_ways _ c.if-are_sent.false t)),
      (λ h. absurd (both_ways _ c.if-are_sent.false
          (c.are_sent.ensures.1 (c.split_at.ensures.front ∙ front_sent 32 b k h ∙ ap (map odd_byte) (sym c.split_at-2.ensures.front))))),
    )
