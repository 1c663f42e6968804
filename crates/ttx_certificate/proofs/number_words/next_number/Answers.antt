use Rattle.std.proofs.Common.{◌≡◌, ◌<◌, ◌==◌, ◌||◌, ◌∷◌, ◌∙◌, true, false, not, length, slice_index, take, option_map, Some, None, ap, sym, arith}
use Rattle.std.proofs.lemmas.Bool.Decides.{nat_tests}
use Rattle.ttx_digits.specs.Digits.{number_in_word}
use Rattle.ttx_certificate.specs.CertificateReading.{words_in}
use Rattle.ttx_certificate.specs.WrittenEntries.{words_after}
use Rattle.ttx_certificate.proofs.NumberWords.{word_at_space, word_at_end, one_digit, other_first, digits_number, no_number_empty, no_number_zero}
use Rattle.ttx_certificate.proofs.NumberWords.{first_of, other_byte}
use Rattle.ttx_certificate.proofs.number_words.next_number.Goals as goal
use Rattle.ttx_certificate.proofs.number_words.next_number.Goals.{then-count-text, else-count-text+then-text-count-eq32, then-count-eq0-via-then-count-eq0, then-count-eq0-via-else-count-eq0+then-text-eq48, then-count-gt1, else-count-gt1}

pub returns-else-text-count-eq32-clause-value : goal.returns-else-text-count-eq32-clause-value
returns-else-text-count-eq32-clause-value c =
    let text = c.args.text.now in
    let n = c.leading_digits-count.result.0 in
    let facts = c.leading_digits-count.ensures in
    let here = facts.within in
    let within : n < length text = grind (arith, nat_tests) in
    let space : (slice_index text n == 32) ≡ false = grind (arith, nat_tests) in
    sym (other_byte text n facts.digits facts.few within space (λ few. facts.end few within))

pub returns-then-count-eq0-clause-value : goal.returns-then-count-eq0-clause-value
returns-then-count-eq0-clause-value c =
    let text = c.args.text.now in
    let n = c.leading_digits-count.result.0 in
    let facts = c.leading_digits-count.ensures in
    let rest = words_after (option_map (λ t. t.now) c.if-count-text.rest) in
    let within = facts.within in
    let ended : words_in text ≡ take n text ∷ rest = elim c.if-count-text.branch [
      | then-count-text w ↦ rw w.rest-is (word_at_end text n facts.digits (grind (arith, nat_tests)))
      | else-count-text+then-text-count-eq32 w ↦ rw w.rest-is (word_at_space text n facts.digits (grind (arith, nat_tests)) (grind (arith, nat_tests)))
    ] in
    let no_number : number_in_word (take n text) ≡ None = elim c.then-count-eq0.branch [
      | then-count-eq0-via-then-count-eq0 w ↦ no_number_empty text n (grind (arith, nat_tests))
      | then-count-eq0-via-else-count-eq0+then-text-eq48 w ↦ elim w.if-count-gt1.branch [
        | then-count-gt1 w' ↦ no_number_zero text n within (grind (arith, nat_tests)) (grind (arith, nat_tests))
        | else-count-gt1 w' ↦ absurd (grind (arith, nat_tests))
      ]
    ] in
    sym (first_of (words_in text) rest (take n text) None ended no_number)

pub returns-clause-value : goal.returns-clause-value
returns-clause-value c =
    let text = c.args.text.now in
    let n = c.leading_digits-count.result.0 in
    let facts = c.leading_digits-count.ensures in
    let rest = words_after (option_map (λ t. t.now) c.if-count-text.rest) in
    let within = facts.within in
    let ended : words_in text ≡ take n text ∷ rest = elim c.if-count-text.branch [
      | then-count-text w ↦ rw w.rest-is (word_at_end text n facts.digits (grind (arith, nat_tests)))
      | else-count-text+then-text-count-eq32 w ↦ rw w.rest-is (word_at_space text n facts.digits (grind (arith, nat_tests)) (grind (arith, nat_tests)))
    ] in
    let some : 0 < n = grind (arith, nat_tests) in
    let zero : (n == 1 || not (slice_index text 0 == 48)) ≡ true = elim c.if-count-gt1.branch [
      | then-count-gt1 w ↦ other_first n (slice_index text 0) (grind (arith, nat_tests))
      | else-count-gt1 w ↦ one_digit n (slice_index text 0) (grind (arith, nat_tests))
    ] in
    let number = digits_number text n facts.digits within some facts.few zero ∙ ap Some (sym facts.value) in
    sym (first_of (words_in text) rest (take n text) (Some c.leading_digits-count.result.1) ended number)
