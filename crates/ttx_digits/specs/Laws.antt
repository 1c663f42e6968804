-- Laws of numbers and page ids in texts.
--
--   WrittenNumbersAreRead, ReadNumbersAreWritten      each number below 10,000,000 has one word
--   WrittenIdsAreRead, ReadIdsAreWritten  each id has one word
--   HoldsNoSeparator, NumbersHoldNoSeparator, IdsHoldNoSeparator      these words contain no space and no line break
use Rattle.std.specs.Prelude.{◌≡◌, ℕ, ◌<◌, true, nat_le, List, Some}
use Rattle.std.specs.Fmt.{decimal}
use Rattle.std.specs.List.{list_all}
use Rattle.ttx_header.specs.Ids.{Id, IsId}
use Rattle.ttx_digits.specs.Digits.{number_in_word}
use Rattle.ttx_digits.specs.PageIds.{id_in_word, id_text}

abbrev pub WrittenNumbersAreRead : Type 0
WrittenNumbersAreRead = (n : ℕ) → n < 10000000 → number_in_word (decimal n) ≡ Some n

abbrev pub ReadNumbersAreWritten : Type 0
ReadNumbersAreWritten = (word : List ℕ) (n : ℕ) → number_in_word word ≡ Some n → word ≡ decimal n

abbrev pub WrittenIdsAreRead : Type 0
WrittenIdsAreRead = (id : Id) → IsId id → id_in_word (id_text id) ≡ Some id

abbrev pub ReadIdsAreWritten : Type 0
ReadIdsAreWritten = (word : List ℕ) (id : Id) → id_in_word word ≡ Some id → word ≡ id_text id

-- each byte is a slash (2F) or above it
abbrev pub HoldsNoSeparator : List ℕ → Type 0
HoldsNoSeparator text = list_all (nat_le 0x2f) text ≡ true

abbrev pub NumbersHoldNoSeparator : Type 0
NumbersHoldNoSeparator = (n : ℕ) → n < 10000000 → HoldsNoSeparator (decimal n)

abbrev pub IdsHoldNoSeparator : Type 0
IdsHoldNoSeparator = (id : Id) → IsId id → HoldsNoSeparator (id_text id)
