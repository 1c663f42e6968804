-- The two codes of teletext bytes: odd parity (EN 300 706, 8.1) and Hamming 8/4 (8.2). Bit 0 is the lowest.
--
--   ones, distance              how many bits of a byte are 1, and in how many bits two bytes differ
--   IsOdd, odd_byte, stored     odd parity: the test, the byte of a character, what a received byte leaves in memory
--   hamming_word                the code word of a number below 16
--   Reads, reading              the number that a byte reads as, as a relation and as a function
--   IsWord, is_word             the code words themselves
--   Near                        at most one wrong bit
use Rattle.std.specs.Prelude.{◌≡◌, ℕ, ◌+◌, ◌*◌, ◌/◌, ◌%◌, ◌^◌, ◌<◌, ◌≤◌, bit_xor, List, [], ◌∷◌, Bool, nat_le, ◌==◌, Option, if◌then◌else◌, unwrap_or}
use Rattle.std.specs.List.{find}

-- bit k of a number, 0 or 1
abbrev pub bit : ℕ → ℕ → ℕ
bit n k = n / 2 ^ k % 2

-- how many of a byte's eight bits are 1
unfoldable pub ones : ℕ → ℕ
ones b = bit b 0 + bit b 1 + bit b 2 + bit b 3 + bit b 4 + bit b 5 + bit b 6 + bit b 7

-- in how many bits two bytes differ
unfoldable pub distance : ℕ → ℕ → ℕ
distance a b = ones (bit_xor a b)

-- the byte is received with at most one wrong bit
abbrev pub Near : ℕ → ℕ → Type 0
Near sent received = distance sent received ≤ 1

-- a byte of odd parity (8.1)
abbrev pub IsOdd : ℕ → Type 0
IsOdd b = ones b % 2 ≡ 1

abbrev pub is_odd : ℕ → Bool
is_odd b = ones b % 2 == 1

-- the byte that sends a character below 128: bits 0 to 6 are the character, bit 7 makes the parity odd
abbrev pub odd_byte : ℕ → ℕ
odd_byte c = if is_odd c then c else c + 128

-- the character in memory after a byte is received where `former` was stored: a byte of even parity does not change it
abbrev pub stored : ℕ → ℕ → ℕ
stored b former = if is_odd b then b % 128 else former

-- the Hamming 8/4 code word of a number below 16 (8.2): bits 0 to 7 are P1 D1 P2 D2 P3 D3 P4 D4
unfoldable pub hamming_word : ℕ → ℕ
hamming_word n =
    let d1 : ℕ = bit n 0 in
    let d2 : ℕ = bit n 1 in
    let d3 : ℕ = bit n 2 in
    let d4 : ℕ = bit n 3 in
    let p1 : ℕ = (1 + d1 + d3 + d4) % 2 in
    let p2 : ℕ = (1 + d1 + d2 + d4) % 2 in
    let p3 : ℕ = (1 + d1 + d2 + d3) % 2 in
    let p4 : ℕ = (1 + p1 + d1 + p2 + d2 + p3 + d3 + d4) % 2 in
    p1 + 2 * d1 + 4 * p2 + 8 * d2 + 16 * p3 + 32 * d3 + 64 * p4 + 128 * d4

-- a byte reads as n if it differs from the code word of n in at most one bit
pub record Reads (b n : ℕ) : Type 0 where
  pub number : n < 16
  pub near : distance b (hamming_word n) ≤ 1

-- the numbers of four bits
abbrev pub numbers : List ℕ
numbers = 0 ∷ 1 ∷ 2 ∷ 3 ∷ 4 ∷ 5 ∷ 6 ∷ 7 ∷ 8 ∷ 9 ∷ 10 ∷ 11 ∷ 12 ∷ 13 ∷ 14 ∷ 15 ∷ []

-- the number that a byte reads as; None if the byte is unreadable
unfoldable pub reading : ℕ → Option ℕ
reading b = find (λ n. nat_le (distance b (hamming_word n)) 1) numbers

-- the number that a byte reads as, or 0 if the byte is unreadable
abbrev pub number_of : ℕ → ℕ
number_of b = unwrap_or (reading b) 0

-- a byte that is the code word of some number
abbrev pub IsWord : ℕ → Type 0
IsWord b = (n : ℕ) × (n < 16) × (b ≡ hamming_word n)

abbrev pub is_word : ℕ → Bool
is_word b = hamming_word (number_of b) == b
