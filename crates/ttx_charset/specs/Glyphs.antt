-- National characters (profile): the character that each code from 20 to 7F shows under each national option.
-- An option is 4*C12 + 2*C13 + C14. Characters are Unicode code points.
--
--   places          the codes that a national set replaces
--   english ..      each set: its characters at these places, in order
--   national_set    the set of an option
--   base            what the other codes show
--   glyph           what a code shows under an option
use Rattle.std.specs.Prelude.{ℕ, List, [], ◌∷◌, Option, Some, None, ◌==◌, if◌then◌else◌, slice_index, slice_index_or, position}

abbrev pub places : List ℕ
places = 0x23 ∷ 0x24 ∷ 0x40 ∷ 0x5b ∷ 0x5c ∷ 0x5d ∷ 0x5e ∷ 0x5f ∷ 0x60 ∷ 0x7b ∷ 0x7c ∷ 0x7d ∷ 0x7e ∷ []

-- £ $ @ ← ½ → ↑ # ― ¼ ‖ ¾ ÷
abbrev pub english : List ℕ
english = 0xa3 ∷ 0x24 ∷ 0x40 ∷ 0x2190 ∷ 0xbd ∷ 0x2192 ∷ 0x2191 ∷ 0x23 ∷ 0x2015 ∷ 0xbc ∷ 0x2016 ∷ 0xbe ∷ 0xf7 ∷ []

-- # $ § Ä Ö Ü ^ _ ° ä ö ü ß
abbrev pub german : List ℕ
german = 0x23 ∷ 0x24 ∷ 0xa7 ∷ 0xc4 ∷ 0xd6 ∷ 0xdc ∷ 0x5e ∷ 0x5f ∷ 0xb0 ∷ 0xe4 ∷ 0xf6 ∷ 0xfc ∷ 0xdf ∷ []

-- Swedish, Finnish, Hungarian: # ¤ É Ä Ö Å Ü _ é ä ö å ü
abbrev pub swedish : List ℕ
swedish = 0x23 ∷ 0xa4 ∷ 0xc9 ∷ 0xc4 ∷ 0xd6 ∷ 0xc5 ∷ 0xdc ∷ 0x5f ∷ 0xe9 ∷ 0xe4 ∷ 0xf6 ∷ 0xe5 ∷ 0xfc ∷ []

-- £ $ é ° ç → ↑ # ù à ò è ì
abbrev pub italian : List ℕ
italian = 0xa3 ∷ 0x24 ∷ 0xe9 ∷ 0xb0 ∷ 0xe7 ∷ 0x2192 ∷ 0x2191 ∷ 0x23 ∷ 0xf9 ∷ 0xe0 ∷ 0xf2 ∷ 0xe8 ∷ 0xec ∷ []

-- é ï à ë ê ù î # è â ô û ç
abbrev pub french : List ℕ
french = 0xe9 ∷ 0xef ∷ 0xe0 ∷ 0xeb ∷ 0xea ∷ 0xf9 ∷ 0xee ∷ 0x23 ∷ 0xe8 ∷ 0xe2 ∷ 0xf4 ∷ 0xfb ∷ 0xe7 ∷ []

-- Portuguese, Spanish: ç $ ¡ á é í ó ú ¿ ü ñ è à
abbrev pub spanish : List ℕ
spanish = 0xe7 ∷ 0x24 ∷ 0xa1 ∷ 0xe1 ∷ 0xe9 ∷ 0xed ∷ 0xf3 ∷ 0xfa ∷ 0xbf ∷ 0xfc ∷ 0xf1 ∷ 0xe8 ∷ 0xe0 ∷ []

-- Czech, Slovak: # ů č ť ž ý í ř é á ě ú š
abbrev pub czech : List ℕ
czech = 0x23 ∷ 0x16f ∷ 0x10d ∷ 0x165 ∷ 0x17e ∷ 0xfd ∷ 0xed ∷ 0x159 ∷ 0xe9 ∷ 0xe1 ∷ 0x11b ∷ 0xfa ∷ 0x161 ∷ []

-- the sets of options 0 to 7; option 7 is English again
unfoldable pub national_set : ℕ → List ℕ
national_set option =
    slice_index_or (english ∷ german ∷ swedish ∷ italian ∷ french ∷ spanish ∷ czech ∷ english ∷ []) option []

-- every other code is its own character, except 7F, which is a black square
abbrev pub base : ℕ → ℕ
base code = if code == 0x7f then 0x25a0 else code

abbrev pub placed : List ℕ → ℕ → Option ℕ → ℕ
placed set code (Some place) = slice_index set place
placed set code None = base code

-- the character that a code shows under an option
unfoldable pub glyph : ℕ → ℕ → ℕ
glyph option code = placed (national_set option) code (position (λ place. place == code) places)
