use Rattle.ttx_certificate.proofs.CertificateRules as L
use Rattle.ttx_certificate.proofs.certificate_laws.certificates_keep_their_rules.Goals as goal

pub returns : goal.returns
returns c = L.certificates_keep_their_rules
