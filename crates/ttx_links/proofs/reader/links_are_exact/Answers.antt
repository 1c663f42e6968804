use Rattle.std.proofs.Common.{◌≡◌, ◌/◌, ◌==◌, ◌↔◌, IsTrue, arith, subst, true, slice_range}
use Rattle.std.specs.Bool.{beq}
use Rattle.ttx_packet.specs.Slots.{are_words}
use Rattle.ttx_links.specs.Sets.{set_of}
use Rattle.ttx_links.proofs.ExactLinks.{exact_set}
use Rattle.ttx_links.proofs.reader.links_are_exact.Goals as goal

pub returns : goal.returns
returns c =
    let s = c.args.bytes.now in
    let set = c.args.links.now.set in
    let same : IsTrue c.are_six.result ↔ ((are_words (slice_range s 3 39) ≡ true) × ((set_of c.args.mag s).six ≡ set.six)) =
    subst (λ six. IsTrue c.are_six.result ↔ ((are_words (slice_range s 3 39) ≡ true) × ((set_of c.args.mag s).six ≡ six))) c.six.ensures.value
    c.are_six.ensures in
    exact_set c.words_have_numbers.ensures c.args.mag s set c.is_word.result _ c.are_six.result
    (record { size = omega (arith, c.told-bytes); bytes = λ x. c.fits-bytes x }) c.is_word.ensures.value
    (λ i. beq (c.number_at.ensures.value i / 8 == 1) (c.show24.ensures i)) same
