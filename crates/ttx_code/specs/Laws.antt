-- Laws of the codes, for the layers above. Each is proved by the function of its name in `laws`.
--
--   OneWrongBitIsCorrected                                  what the bytes near a code word read as
--   WordsAreRead, WordsAreBytes, WordsAreWords              the code words of the numbers
--   WordsHaveNumbers, ReadingsAreNumbers                    a code word reads as a number, and each reading is below 16
--   WordsAreReadUnderOneWrongBit                            a code word reads as it was sent
--   OddBytesUnderOneWrongBit                                a byte of odd parity is received right, or its parity shows that it is wrong
--   OddBytesHoldTheirCodes, EachByteIsNearItself
use Rattle.std.specs.Prelude.{◌≡◌, ◌⊎◌, ℕ, ◌<◌, ◌%◌, true, false, Some}
use Rattle.ttx_code.specs.Words.{Reads, reading, number_of, hamming_word, is_word, Near, is_odd, odd_byte}

-- a byte that differs in at most one bit from the code word of a number reads as this number, and as no other
abbrev pub OneWrongBitIsCorrected : Type 0
OneWrongBitIsCorrected = (b n : ℕ) → b < 256 → Reads b n → reading b ≡ Some n

-- each code word reads as its number
abbrev pub WordsAreRead : Type 0
WordsAreRead = (n : ℕ) → n < 16 → reading (hamming_word n) ≡ Some n

abbrev pub WordsAreBytes : Type 0
WordsAreBytes = (n : ℕ) → n < 16 → hamming_word n < 256

-- each code word passes the test for code words
abbrev pub WordsAreWords : Type 0
WordsAreWords = (n : ℕ) → n < 16 → is_word (hamming_word n) ≡ true

-- a byte that passes the test for code words is the code word of the number that it reads as
abbrev pub WordsHaveNumbers : Type 0
WordsHaveNumbers = (b : ℕ) → b < 256 → is_word b ≡ true → (reading b ≡ Some (number_of b)) × (number_of b < 16) × (b ≡ hamming_word (number_of b))

-- the number that a byte reads as is below 16
abbrev pub ReadingsAreNumbers : Type 0
ReadingsAreNumbers = (b n : ℕ) → b < 256 → reading b ≡ Some n → n < 16

-- a code word that is received with at most one wrong bit reads as it was sent
abbrev pub WordsAreReadUnderOneWrongBit : Type 0
WordsAreReadUnderOneWrongBit =
    (sent received : ℕ) → sent < 256 → received < 256 → is_word sent ≡ true → Near sent received → reading received ≡ reading sent

-- a byte of odd parity that is received with at most one wrong bit is the byte sent, or has even parity
abbrev pub OddBytesUnderOneWrongBit : Type 0
OddBytesUnderOneWrongBit =
    (sent received : ℕ) → sent < 256 → received < 256 → is_odd sent ≡ true → Near sent received → (received ≡ sent) ⊎ (is_odd received ≡ false)

-- the byte of a character has odd parity and holds the character
abbrev pub OddBytesHoldTheirCodes : Type 0
OddBytesHoldTheirCodes = (c : ℕ) → c < 128 → (is_odd (odd_byte c) ≡ true) × (odd_byte c % 128 ≡ c) × (odd_byte c < 256)

-- a byte differs from itself in no bit, so in at most one
abbrev pub EachByteIsNearItself : Type 0
EachByteIsNearItself = (b : ℕ) → Near b b
