-- The lines of a text, one by one, and the shape of the line of an entry.
use Rattle.std.proofs.Common.{◌≡◌, ℕ, ◌+◌, ◌<◌, ◌==◌, List, [], ◌∷◌, length, Option, Some, Result, Ok, Err, refl, sym, ap, ◌∙◌, arith}
use Rattle.std.proofs.lemmas.List.Splits.{length-slice_split}
use Rattle.ttx_certificate.specs.Entries.{place_of}
use Rattle.ttx_certificate.specs.CertificateReading.{parts_at, words_in, numbers_in, starts_in_words}
use Rattle.ttx_certificate.specs.CertificateReading.{entry_in, read_entry, read_entries, line_at, only_number, ◌>>=◌}
use Rattle.ttx_certificate.specs.declared.certificate_faults.CertFault.{CertFault}
use Rattle.ttx_certificate.specs.declared.certificate_faults.CertFault.TheVariants.{Line}

-- a text has one part at least
pub some_parts : (separator : ℕ) (text : List ℕ) → 0 < length (parts_at separator text)
some_parts separator text = let n = length-slice_split (λ b. b == separator) text in omega arith

pub one_at_least : (words : List (List ℕ)) → 0 < length words → starts_in_words words ≡ numbers_in words
one_at_least [] some = absurd (omega arith)
one_at_least (word ∷ words) some = refl

-- two words aren't one number
pub two_words : (n most separator : ℕ) (word rest : List ℕ) → only_number n most (word ∷ parts_at separator rest) ≡ Err (Line n)
two_words n most separator word rest = more_words (parts_at separator rest) (some_parts separator rest)
  where
    more_words : (words : List (List ℕ)) → 0 < length words → only_number n most (word ∷ words) ≡ Err (Line n)
    more_words [] some = absurd (omega arith)
    more_words (next ∷ more) some = refl

-- a line that is ended
pub ended_line : (n separator : ℕ) (line rest : List ℕ) → line_at n (line ∷ parts_at separator rest) ≡ Ok (line, parts_at separator rest)
ended_line n separator line rest = ended (parts_at separator rest) (some_parts separator rest)
  where
    ended : (lines : List (List ℕ)) → 0 < length lines → line_at n (line ∷ lines) ≡ Ok (line, lines)
    ended [] some = absurd (omega arith)
    ended (next ∷ more) some = refl

abbrev first : Result (List ℕ × List (List ℕ)) CertFault → List ℕ
first (Ok p) = p.0
first (Err fault) = []

abbrev others : Result (List ℕ × List (List ℕ)) CertFault → List (List ℕ)
others (Ok p) = p.1
others (Err fault) = []

-- the entry of the first line, and those of the others
pub entries_step : (n : ℕ) (low : Option ℕ) (lines : List (List ℕ)) (line : List ℕ) (rest : List (List ℕ)) → Ok (line, rest) ≡ line_at n lines →
    read_entries n low lines ≡ (read_entry n low (entry_in (words_in line)) >>=
    (λ e. read_entries (n + 1) (Some (place_of e.page e.item)) rest >>= (λ es. Ok (e ∷ es))))
entries_step n low [] line rest is = cc
entries_step n low (l ∷ []) line rest is = cc
entries_step n low (l ∷ next ∷ more) line rest is =
    let same_line : line ≡ l = ap first is in let same_rest : rest ≡ next ∷ more = ap others is in
    sym (ap (λ x. read_entry n low (entry_in (words_in x)) >>=
    (λ e. read_entries (n + 1) (Some (place_of e.page e.item)) rest >>= (λ es. Ok (e ∷ es)))) same_line
    ∙ ap (λ x. read_entry n low (entry_in (words_in l)) >>=
    (λ e. read_entries (n + 1) (Some (place_of e.page e.item)) x >>= (λ es. Ok (e ∷ es)))) same_rest)
