use Rattle.std.proofs.Common.{◌≡◌, ◌+◌, ◌++◌, option_map, unwrap_or, length}
use Rattle.ttx_certificate.specs.CertificateReading.{numbers_in, words_in}
use Rattle.ttx_certificate.specs.WrittenEntries.{words_after}
use Rattle.ttx_certificate.proofs.entry_lines.push_starts.Given as goal

-- the numbers so far, and then those of the words that are left
abbrev pub invariant-loop-rest : goal.invariant-loop-rest
invariant-loop-rest l = option_map (λ more. l.initial.starts.items ++ more) (numbers_in (words_in l.initial.text))
    ≡ option_map (λ more. l.starts.items ++ more) (numbers_in (words_after (option_map (λ t. t.now) l.rest)))

abbrev pub decreases-loop-rest : goal.decreases-loop-rest
decreases-loop-rest l = unwrap_or (option_map (λ t. length t.now + 1) l.rest) 0
