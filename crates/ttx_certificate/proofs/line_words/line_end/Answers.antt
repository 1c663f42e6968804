use Rattle.std.proofs.Common.{◌==◌}
use Rattle.ttx_certificate.proofs.TextParts.{first_byte}
use Rattle.ttx_certificate.proofs.FirstPlaces.{first_of_all}
use Rattle.ttx_certificate.proofs.line_words.line_end.Goals as goal

pub returns : goal.returns
returns c = first_byte (λ b. b == 10) c.args.text.now c.next.result
    (first_of_all (λ b. b == 10) c.args.text.now c.next.result c.next.new.self (rw c.memchr_iter.ensures.value at c.next.ensures.steps))
