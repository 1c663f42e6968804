-- JSON objects of plain members, a line each (RFC 8259).
--
--   Value                   a text, a number or a truth value
--   Member                  a name with its value
--   word, count, flag       a member with a text, a number or a truth value
--   members_of              the members of an object, in this order
--   object_line             the line of an object: its text without spaces, and 0A
use Rattle.std.specs.Prelude.{ℕ, List, [], ◌∷◌, ◌++◌, Bool}
use Rattle.serde_json.specs.Data.{Data, Members, object, string, boolean, unsigned, member, no_members}
use Rattle.serde_json.specs.Data as json
use Rattle.serde_json.specs.Written.{compact_text}

pub data Value : Type 0 where
  text : List ℕ → Value
  number : ℕ → Value
  truth : Bool → Value

pub record Member : Type 0 where
  pub name : List ℕ
  pub value : Value

abbrev pub word : List ℕ → List ℕ → Member
word name value = record { name = name; value = text value }

abbrev pub count : List ℕ → ℕ → Member
count name value = record { name = name; value = number value }

abbrev pub flag : List ℕ → Bool → Member
flag name value = record { name = name; value = truth value }

abbrev pub value_of : Value → Data
value_of (text bytes) = string bytes
value_of (number n) = json.number (unsigned n)
value_of (truth b) = boolean b

abbrev pub members_of : List Member → Members
members_of [] = no_members
members_of (m ∷ ms) = member m.name (value_of m.value) (members_of ms)

abbrev pub object_line : List Member → List ℕ
object_line ms = compact_text (object (members_of ms)) ++ 10 ∷ []
