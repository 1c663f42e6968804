-- A `Certificate` of the program.
--
--   fields_of               as a plain record, with its entries in their order
--   certificate_of          by the starts that it names for items of pages
use Rattle.ttx_certificate.specs.Entries.{CertificateFields, certificate_fields_at, certificate_at}
use Rattle.ttx_certificate.specs.EntryViews.{entries_of}
use Rattle.ttx_certificate.specs.NamedStarts.{Certificate}
use Rattle.ttx_certificate.specs.declared.certificates.Certificate.{Certificate as CertificateValue}

abbrev pub fields_of : CertificateValue → CertificateFields
fields_of w = certificate_fields_at w.lines w.repeat w.deadline (entries_of w.entries.items) w.class

abbrev pub certificate_of : CertificateValue → Certificate
certificate_of w = certificate_at (fields_of w)
