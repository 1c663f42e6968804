-- The rules of the certificates of the program.
use Rattle.std.proofs.Common.{◌≡◌, ℕ, ◌&&◌, true, List, [], ◌∷◌, None, arith}
use Rattle.std.specs.List.{AllByRecursion}
use Rattle.std.proofs.lemmas.Bool.Decides.{nat_tests}
use Rattle.ttx_header.specs.Ids.{Id, same_id}
use Rattle.ttx_page.specs.declared.item.Item.{Item}
use Rattle.ttx_certificate.specs.NamedStarts.{Rising}
use Rattle.ttx_certificate.specs.NamedStarts.{IsCertificate}
use Rattle.ttx_certificate.specs.Entries.{EntryFields, CertificateFields, IsEntry, IsCertificateFields, are_starts, starts_in, same_item}
use Rattle.ttx_certificate.specs.Entries.{certificate_at}
use Rattle.ttx_certificate.specs.EntryViews.{entries_of}
use Rattle.ttx_certificate.specs.Certificates.{fields_of}
use Rattle.ttx_certificate.specs.CertificateLaws.{CertificatesKeepTheirRules}
use Rattle.ttx_certificate.specs.declared.entries.Entry.{Entry}
use Rattle.std.proofs.lemmas.Bool.{and_parts, cond_both}
use Rattle.ttx_certificate.proofs.EntryOrder.{rising_pairs}

rising_starts : (starts : List ℕ) → are_starts starts ≡ true → Rising starts
rising_starts starts are i j lt in_range = rising_pairs None starts i j 0 ((and_parts _ _ are).1) lt in_range

none_rise : Rising []
none_rise i j lt in_range = absurd (omega arith)

-- the starts that are named for an item rise
named_rise : (es : List EntryFields) → AllByRecursion IsEntry es → (page : Id) (item : Item) → Rising (starts_in es page item)
named_rise [] all page item = none_rise
named_rise (e ∷ es) all page item = cond_both (same_id e.page page && same_item e.item item) e.starts (starts_in es page item) Rising
    (λ _. rising_starts e.starts all.0.starts) (λ _. named_rise es all.1 page item)

-- so a certificate's numbers and starts are in the ranges of the definitions
pub are_certificates : (w : CertificateFields) → IsCertificateFields w → IsCertificate (certificate_at w)
are_certificates w is =
    let numbers = is.numbers in
    record {
      some_lines = grind (arith, nat_tests);
      few_lines = grind (arith, nat_tests);
      some_repeats = grind (arith, nat_tests);
      few_repeats = grind (arith, nat_tests);
      some_fields = grind (arith, nat_tests);
      few_fields = grind (arith, nat_tests);
      rising = named_rise w.entries is.entries;
    }

entries_keep : (es : List Entry) → AllByRecursion IsEntry (entries_of es)
entries_keep [] = tt
entries_keep (e ∷ es) = (e.kept, entries_keep es)

pub certificates_keep_their_rules : CertificatesKeepTheirRules
certificates_keep_their_rules w =
    let is : IsCertificateFields (fields_of w) = record { numbers = w.numbers; entries = entries_keep w.entries.items; rising = w.rising } in
    (is, are_certificates (fields_of w) is)
