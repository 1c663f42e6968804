-- The values of a service definition by kind, and the faults of values that are refused (profile). Texts are lists of bytes.
--
--   Fault                     why a service definition is refused, with the last part of the key's name where it matters
--   required, with_default    the value at a key, which must be there or has a default
--   integer_within            an integer in a range
--   characters                a text as the codes of its characters, filled with spaces
--   page_number, subcode, link, byte_pair    texts of hexadecimal digits
use Rattle.std.specs.Prelude.{ℕ, ℤ, pos, negsuc, ◌+◌, ◌-◌, ◌/◌, ◌%◌, ◌++◌, List, [], ◌∷◌, length, replicate, slice_index}
use Rattle.std.specs.Prelude.{Bool, false, not, ◌&&◌, ◌==◌, nat_lt, nat_le, Option, Some, None, Result, Ok, Err, if◌then◌else◌}
use Rattle.std.specs.List.{list_all}
use Rattle.std.specs.Str.{chars}
use Rattle.ttx_header.specs.Ids.{Id, id_at}
use Rattle.ttx_digits.specs.Digits.{two_digits, four_digits}
use Rattle.ttx_digits.specs.PageIds.{first_number}
use Rattle.toml.specs.Data.{Data, Members, get_member, as_integer}

-- why a service definition is refused
pub data Fault : Type 0 where
  not_toml : Fault
  missing : (key : List ℕ) → Fault
  wrong_kind : (key : List ℕ) → Fault
  wrong_page_number : Fault
  wrong_subcode : Fault
  duplicate : Fault
  too_long : Fault
  wrong_character : Fault
  wrong_often : Fault
  out_of_range : (key : List ℕ) → Fault
  no_memory : Fault

-- the first fault, or what the function makes of the value
infixl 10 ◌>>=◌
abbrev pub ◌>>=◌ : {A B E : Type 0} → Result A E → (A → Result B E) → Result B E
Ok a >>= f = f a
Err e >>= f = Err e

-- a fault if there is no value
abbrev pub or_fault : {A : Type 0} → Fault → Option A → Result A Fault
or_fault fault None = Err fault
or_fault fault (Some a) = Ok a

-- a value of this kind, or a fault
abbrev pub of_kind : {A : Type 0} → List ℕ → (Data → Option A) → Data → Result A Fault
of_kind key kind value = or_fault (wrong_kind key) (kind value)

-- the value at a required key
abbrev pub required : {A : Type 0} → List ℕ → (Data → Option A) → Members → Result A Fault
required key kind table = or_fault (missing key) (get_member key table) >>= of_kind key kind

-- the value at a key with a default
abbrev pub value_or : {A : Type 0} → List ℕ → (Data → Option A) → A → Option Data → Result A Fault
value_or key kind default None = Ok default
value_or key kind default (Some value) = of_kind key kind value

abbrev pub with_default : {A : Type 0} → List ℕ → (Data → Option A) → A → Members → Result A Fault
with_default key kind default table = value_or key kind default (get_member key table)

-- the value that may be at a required key
abbrev pub required_in : {A : Type 0} → List ℕ → (Data → Option A) → Option Data → Result A Fault
required_in key kind value = or_fault (missing key) value >>= of_kind key kind

-- an integer from low to high
abbrev pub is_within : ℕ → ℕ → ℤ → Bool
is_within low high (pos n) = nat_le low n && nat_le n high
is_within low high (negsuc n) = false

abbrev pub magnitude : ℤ → ℕ
magnitude (pos n) = n
magnitude (negsuc n) = n + 1

abbrev pub integer_within : List ℕ → ℕ → ℕ → ℤ → Result ℕ Fault
integer_within key low high z = if is_within low high z then Ok (magnitude z) else Err (out_of_range key)

-- the integer at a required key, in a range
abbrev pub integer_at : List ℕ → ℕ → ℕ → Members → Result ℕ Fault
integer_at key low high table = required key as_integer table >>= integer_within key low high

-- the integer at a key with a default, in a range
abbrev pub integer_at_or : List ℕ → ℕ → ℕ → ℕ → Members → Result ℕ Fault
integer_at_or key low high default table = with_default key as_integer (pos default) table >>= integer_within key low high

-- at most so many characters, each with a code below 80 hexadecimal, filled with spaces
unfoldable pub characters : ℕ → List ℕ → Result (List ℕ) Fault
characters most text =
    if nat_lt most (length (chars text)) then Err too_long
    else if list_all (λ b. nat_lt b 128) text then Ok (text ++ replicate (most - length text) 32)
    else Err wrong_character

-- MPP: a magazine and a page number, without a subcode
unfoldable pub page_number : List ℕ → Result (ℕ × ℕ) Fault
page_number text = if length text == 3 then or_fault wrong_page_number (first_number text) else Err wrong_page_number

-- inside the mask 3F7F (EN 300 706, 9.3.1.2)
abbrev pub is_inside_mask : ℕ → Bool
is_inside_mask sub = nat_lt sub 0x4000 && (sub / 0x80 % 2 == 0)

-- 3F7F: in a link it means any subpage
abbrev pub any_subcode : ℕ
any_subcode = 0x3f7f

-- SSSS: the subcode of a page
abbrev pub subcode_of : Option ℕ → Result ℕ Fault
subcode_of None = Err wrong_subcode
subcode_of (Some sub) = if is_inside_mask sub && not (sub == any_subcode) then Ok sub else Err wrong_subcode

unfoldable pub subcode : List ℕ → Result ℕ Fault
subcode text = if length text == 4 then subcode_of (four_digits text 0) else Err wrong_subcode

-- a link to a page number and a subcode inside 3F7F
abbrev pub link_to : Option (ℕ × ℕ) → Option ℕ → Result (Option Id) Fault
link_to None sub = Err wrong_page_number
link_to (Some number) None = Err wrong_page_number
link_to (Some number) (Some sub) =
    if is_inside_mask sub then Ok (Some (id_at number.0 number.1 sub)) else Err wrong_subcode

-- an empty text is no link; MPP is any subpage; MPP/SSSS is one subpage
unfoldable pub link : List ℕ → Result (Option Id) Fault
link text =
    if length text == 0 then Ok None
    else if length text == 3 then link_to (first_number text) (Some any_subcode)
    else if (length text == 8) && (slice_index text 3 == 47) then link_to (first_number text) (four_digits text 4)
    else Err wrong_page_number

-- two bytes from four hexadecimal digits
abbrev pub pair_of : Option ℕ → Option ℕ → Option (List ℕ)
pair_of None low = None
pair_of (Some high) None = None
pair_of (Some high) (Some low) = Some (high ∷ low ∷ [])

unfoldable pub byte_pair : List ℕ → List ℕ → Result (List ℕ) Fault
byte_pair key text =
    if length text == 4 then or_fault (out_of_range key) (pair_of (two_digits text 0) (two_digits text 2)) else Err (out_of_range key)
