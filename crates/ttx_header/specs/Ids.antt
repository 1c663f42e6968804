-- The ids of pages and of the targets of links (EN 300 706, 9.3.1.1 for the page number, 9.3.1.2 for the subcode).
--
--   Id, id_at               a magazine, a page number and a subcode
--   IsSubcode, IsId         the ranges of these numbers
--   same_id                 whether two ids are equal
--   is_time_filling         page FF with subcode 3F7F: neither a page nor a target
use Rattle.std.specs.Prelude.{◌≡◌, ℕ, ◌/◌, ◌%◌, ◌<◌, ◌≤◌, Bool, ◌==◌, ◌&&◌}

-- A page: its magazine, its two hexadecimal digits and its subcode. Subcode 3F7F in a link means any subpage.
pub record Id : Type 0 where
  pub mag : ℕ
  pub page : ℕ
  pub sub : ℕ

abbrev pub id_at : ℕ → ℕ → ℕ → Id
id_at mag page sub = record { mag = mag; page = page; sub = sub }

-- a subcode has no bit outside 3F7F (9.3.1.2)
pub record IsSubcode (sub : ℕ) : Type 0 where
  pub top : sub < 0x4000
  pub gap : sub / 0x80 % 2 ≡ 0

-- magazine 1 to 8, two hexadecimal digits, and a subcode
pub record IsId (id : Id) : Type 0 where
  pub mag_from : 1 ≤ id.mag
  pub mag_to : id.mag ≤ 8
  pub page : id.page < 256
  pub sub : IsSubcode id.sub

-- whether two ids are equal
abbrev pub same_id : Id → Id → Bool
same_id a b = (a.mag == b.mag) && (a.page == b.page) && (a.sub == b.sub)

-- page FF with subcode 3F7F
abbrev pub is_time_filling : Id → Bool
is_time_filling id = (id.page == 0xff) && (id.sub == 0x3f7f)
