-- The id in the first word of a line.
use Rattle.std.proofs.Common.{◌≡◌, ℕ, zero, suc, ◌+◌, ◌-◌, ◌<◌, ◌==◌, Bool, true, false, List, [], length, slice_index, take, drop}
use Rattle.std.proofs.Common.{Option, Some, None, nat_lt, refl, sym, ap, ◌∙◌, inl, inr, arith}
use Rattle.std.specs.List.{position, position_or_len}
use Rattle.std.proofs.lemmas.Bool.{cases_Bool}
use Rattle.std.proofs.lemmas.Bool.Decides.{nat_tests}
use Rattle.std.proofs.lemmas.List.{length-take-le, get_or-take}
use Rattle.std.proofs.lemmas.List.Sums.{position_or_len_is, passes_at_first}
use Rattle.std.proofs.lemmas.Option.{cond_some}
use Rattle.ttx_header.specs.Ids.{Id}
use Rattle.ttx_digits.specs.PageIds.{is_id_word, id_in_word}
use Rattle.ttx_digits.proofs.Words.{id_word}
use Rattle.ttx_certificate.specs.CertificateReading.{words_in, with_item, entry_in}
use Rattle.ttx_certificate.proofs.TextParts.{cut_at, not_cut}

abbrev is_space : ℕ → Bool
is_space b = b == 32

-- no byte of an id is a space
id_byte : (word : List ℕ) (k : ℕ) → is_id_word word ≡ true → k < 8 → is_space (slice_index word k) ≡ false
id_byte word zero is lt = let p = (id_word word is).magazine in grind (arith, nat_tests)
id_byte word (suc zero) is lt = let p = (id_word word is).tens in grind (arith, nat_tests)
id_byte word (suc (suc zero)) is lt = let p = (id_word word is).units in grind (arith, nat_tests)
id_byte word (suc (suc (suc zero))) is lt = let p = (id_word word is).stroke in grind (arith, nat_tests)
id_byte word (suc (suc (suc (suc zero)))) is lt = let p = (id_word word is).first in grind (arith, nat_tests)
id_byte word (suc (suc (suc (suc (suc zero))))) is lt = let p = (id_word word is).second in grind (arith, nat_tests)
id_byte word (suc (suc (suc (suc (suc (suc zero)))))) is lt = let p = (id_word word is).third in grind (arith, nat_tests)
id_byte word (suc (suc (suc (suc (suc (suc (suc zero))))))) is lt = let p = (id_word word is).fourth in grind (arith, nat_tests)
id_byte word (suc (suc (suc (suc (suc (suc (suc (suc k)))))))) is lt = absurd (omega arith)

-- a line that begins with an id and a space
pub page_word : (line : List ℕ) (id : Id) → 8 < length line → is_space (slice_index line 8) ≡ true → Some id ≡ id_in_word (take 8 line) →
    entry_in (words_in line) ≡ with_item (Some id) (words_in (take (length line - 9) (drop 9 line)))
page_word line id long space id_is =
    let is : is_id_word (take 8 line) ≡ true = (cond_some (is_id_word (take 8 line)) _ id (sym id_is)).0 in
    let at : position_or_len is_space line ≡ 8 =
    position_or_len_is is_space line 8 0 (omega arith) (λ k lt. ap is_space (sym (get_or-take 8 line k 0 lt)) ∙ id_byte (take 8 line) k is lt) (λ _. space) in
    let test : nat_lt 8 (length line) ≡ true = grind (arith, nat_tests) in
    let words = (cut_at is_space line 8 (rw (at, test) refl)).1 in
    ap entry_in words ∙ ap (λ o. with_item o (words_in (take (length line - 9) (drop 9 line)))) (sym id_is)

alone : (o : Option Id) → with_item o [] ≡ None
alone None = refl
alone (Some id) = refl

no_id_of : (line : List ℕ) (m : ℕ) → m < length line → (m ≡ 8 → id_in_word (take m line) ≡ None) → id_in_word (take m line) ≡ None
no_id_of line m within eight = elim (cases_Bool (is_id_word (take m line))) [
  | inl is ↦
      let long = length-take-le m line (omega arith) in
      let p = (id_word (take m line) is).length in
      eight (grind (arith, nat_tests))
  | inr other ↦ rw other refl
]

-- a line that doesn't begin with an id and a space
pub no_page : (line : List ℕ) → (8 < length line → is_space (slice_index line 8) ≡ true → id_in_word (take 8 line) ≡ None) →
    entry_in (words_in line) ≡ None
no_page line none = elim (cases_Bool (nat_lt (position_or_len is_space line) (length line))) [
  | inl some ↦
      let m = position_or_len is_space line in
      let found : position is_space line ≡ Some m = rw some refl in
      let within : m < length line = grind (arith, nat_tests) in
      let here : is_space (slice_index line m) ≡ true = passes_at_first is_space line 0 within in
      let no_id : id_in_word (take m line) ≡ None =
      no_id_of line m within (λ same. rw same (none (omega arith) (rw same at here))) in
      ap entry_in (cut_at is_space line m found).1 ∙ ap (λ o. with_item o (words_in (take (length line - (m + 1)) (drop (m + 1) line)))) no_id
  | inr end ↦
      let found : position is_space line ≡ None = rw end refl in
      ap entry_in (not_cut is_space line found) ∙ alone (id_in_word line)
]
