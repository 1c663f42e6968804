use Rattle.ttx_certificate.proofs.AcceptedTexts as L
use Rattle.ttx_certificate.proofs.certificate_laws.accepted_texts_are_written.Goals as goal

pub returns : goal.returns
returns c = L.accepted_is_written c.read_ids_are_written.ensures c.read_numbers_are_written.ensures
