use Rattle.std.proofs.Common.{arith}
use Rattle.ttx_links.proofs.SentLinks.{is_sent}
use Rattle.ttx_links.proofs.reader.is_link.Goals as goal

pub returns-in-Some : goal.returns-in-Some
returns-in-Some c =
    is_sent c.words_have_numbers.ensures c.written_words_are_read.ensures c.read_numbers_are_numbers.ensures c.said_link_is_read.ensures
    c.read_link_is_said.ensures c.args.mag c.args.link.now c.in-Some.field-0 c.args.bytes.now c.args.at c.eq.result c.write_link.result c.in-Some.is
    c.link_leads_to_a_target.ensures (record { size = omega (arith, c.told-bytes); bytes = λ x. c.fits-bytes x }) c.requires.inside
    c.write_link.ensures c.eq.ensures
