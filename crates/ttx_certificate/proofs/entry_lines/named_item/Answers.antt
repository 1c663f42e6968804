use Rattle.std.proofs.Common.{◌≡◌, ◌∷◌, true, false, codes, rules}
use Rattle.std.specs.Str.{bytes_eq}
use Rattle.ttx_certificate.specs.CertificateReading.{words_in}
use Rattle.ttx_certificate.proofs.ItemWords.{head_followed, links_followed}
use Rattle.ttx_certificate.proofs.entry_lines.named_item.Goals as goal

pub returns-then-eq : goal.returns-then-eq
returns-then-eq c =
    let words : words_in c.args.text.now ≡ c.in-Some.word.now ∷ words_in c.in-Some.rest.now = search rules in
    let head : bytes_eq c.in-Some.word.now (codes "head") ≡ true = search rules in
    head_followed c.args.text.now c.in-Some.word.now c.in-Some.rest.now words head

pub returns-then-eq-2 : goal.returns-then-eq-2
returns-then-eq-2 c =
    let words : words_in c.args.text.now ≡ c.in-Some.word.now ∷ words_in c.in-Some.rest.now = search rules in
    let head : bytes_eq c.in-Some.word.now (codes "head") ≡ false = search rules in
    let links : bytes_eq c.in-Some.word.now (codes "links") ≡ true = search rules in
    links_followed c.args.text.now c.in-Some.word.now c.in-Some.rest.now words head links
