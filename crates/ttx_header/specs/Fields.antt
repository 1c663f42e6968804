-- The fields of a page header (EN 300 706, 9.3.1), as contracts see a `Header`.
--
--   HeaderFields, fields_at         id, control bits, text and clock
--   IsHeaderFields          their ranges
use Rattle.std.specs.Prelude.{◌≡◌, ℕ, List, length}
use Rattle.ttx_header.specs.Ids.{Id, IsId}
use Rattle.ttx_header.specs.Control.{IsControl}

-- the id of the page, the control bits, and the 24 bytes of text and 8 bytes of clock as they are sent
pub record HeaderFields : Type 0 where
  pub id : Id
  pub control : ℕ
  pub text : List ℕ
  pub clock : List ℕ

abbrev pub fields_at : Id → ℕ → List ℕ → List ℕ → HeaderFields
fields_at id control text clock = record { id = id; control = control; text = text; clock = clock }

-- the ranges of these fields
pub record IsHeaderFields (fields : HeaderFields) : Type 0 where
  pub id : IsId fields.id
  pub control : IsControl fields.control
  pub text : length fields.text ≡ 24
  pub clock : length fields.clock ≡ 8
