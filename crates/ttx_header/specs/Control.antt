-- The control bits of a page header, C4 to C14, as one number (EN 300 706, 9.3.1.3). Bit 0 of the number is C4, bit 10 is C14.
--
--   IsControl       no bit above bit 10
--   c4 .. c11       single bits
--   option_of       the national option, 0 to 7
--   control_table   the name and the value of each bit
use Rattle.std.specs.Prelude.{ℕ, ◌+◌, ◌*◌, ◌<◌, ◌^◌, List, [], ◌∷◌, Bool, ◌==◌, codes}
use Rattle.ttx_code.specs.Words.{bit}

-- only the eleven control bits
abbrev pub IsControl : ℕ → Type 0
IsControl control = control < 2 ^ 11

-- erase page
abbrev pub c4 : ℕ → Bool
c4 control = bit control 0 == 1

-- newsflash
abbrev pub c5 : ℕ → Bool
c5 control = bit control 1 == 1

-- subtitle
abbrev pub c6 : ℕ → Bool
c6 control = bit control 2 == 1

-- suppress header
abbrev pub c7 : ℕ → Bool
c7 control = bit control 3 == 1

-- inhibit display
abbrev pub c10 : ℕ → Bool
c10 control = bit control 6 == 1

-- magazine serial
abbrev pub c11 : ℕ → Bool
c11 control = bit control 7 == 1

-- the national option; C12 is its upper bit, C14 its lower one
abbrev pub option_of : ℕ → ℕ
option_of control = 4 * bit control 8 + 2 * bit control 9 + bit control 10

-- the name and the value of each control bit, C4 first
abbrev pub control_table : List (List ℕ × ℕ)
control_table =
    (codes "C4", 1) ∷ (codes "C5", 2) ∷ (codes "C6", 4) ∷ (codes "C7", 8) ∷ (codes "C8", 16) ∷ (codes "C9", 32) ∷ (codes "C10", 64)
    ∷ (codes "C11", 128) ∷ (codes "C12", 256) ∷ (codes "C13", 512) ∷ (codes "C14", 1024) ∷ []
