use Rattle.std.proofs.Common.{◌≡◌, ◌++◌, ◌∙◌, List, ℕ, None, option_map, ap, sym, rules}
use Rattle.ttx_certificate.specs.CertificateReading.{words_in, numbers_in}
use Rattle.ttx_certificate.specs.WrittenEntries.{first_number}
use Rattle.ttx_certificate.proofs.ItemWords.{numbers_after, numbers_by_first}
use Rattle.ttx_certificate.proofs.entry_lines.push_starts.Goals as goal

pub returns-in_default-next_number : goal.returns-in_default-next_number
returns-in_default-next_number c =
    let text = c.in-Some.text.now in
    let none : None ≡ first_number (words_in text) = search rules in
    let here : numbers_in (words_in text) ≡ None = numbers_by_first text ∙ ap numbers_after (sym none) in
    let so_far : option_map {U = List ℕ} (λ more. c.args.starts.now.items ++ more) (numbers_in (words_in c.args.text.now))
    ≡ option_map {U = List ℕ} (λ more. c.loop-rest.starts.items ++ more) (numbers_in (words_in text)) = rw c.in-Some.is at c.loop-rest.invariant in
    sym (so_far ∙ ap (option_map {U = List ℕ} (λ more. c.loop-rest.starts.items ++ more)) here)
