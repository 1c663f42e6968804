use Rattle.ttx_certificate.proofs.WrittenTexts as L
use Rattle.ttx_certificate.proofs.certificate_laws.written_texts_are_read.Goals as goal

pub returns : goal.returns
returns c = L.written_is_accepted c.written_ids_are_read.ensures c.written_numbers_are_read.ensures c.ids_hold_no_separator.ensures
    c.numbers_hold_no_separator.ensures
