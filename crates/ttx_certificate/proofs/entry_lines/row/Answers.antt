use Rattle.std.proofs.Common.{◌≡◌, Some, rules}
use Rattle.ttx_certificate.specs.CertificateReading.{words_in}
use Rattle.ttx_certificate.specs.WrittenEntries.{first_number}
use Rattle.ttx_certificate.proofs.ItemWords.{row_followed}
use Rattle.ttx_certificate.proofs.entry_lines.row.Goals as goal

pub returns-in-Some-default-Some : goal.returns-in-Some-default-Some
returns-in-Some-default-Some c =
    let is : Some (c.in-Some-default-Some.number, words_in c.in-Some-default-Some.rest.now) ≡ first_number (words_in c.args.text.now) = search rules in
    row_followed c.args.text.now c.in-Some-default-Some.rest.now c.in-Some-default-Some.number is
