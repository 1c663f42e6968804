-- The items of a page, and ids of pages, as numbers.
--
--   IsItem                  the items of a page: row 0, rows 1 to 24, links
--   item_number             an item as a number in its page, 0 to 25
--   key_of                  an id as one number
use Rattle.std.specs.Prelude.{ℕ, ◌+◌, ◌*◌, ◌≤◌}
use Rattle.ttx_header.specs.Ids.{Id}
use Rattle.ttx_page.specs.declared.item.Item.{Item}
use Rattle.ttx_page.specs.declared.item.Item.TheVariants.{Head as TheHead, Row as TheRow, Links as TheLinks}

abbrev pub IsItem : Item → Type 0
IsItem TheHead = Unit {0}
IsItem (TheRow r) = (1 ≤ r) × (r ≤ 24)
IsItem TheLinks = Unit {0}

abbrev pub item_number : Item → ℕ
item_number TheHead = 0
item_number (TheRow r) = r
item_number TheLinks = 25

abbrev pub key_of : Id → ℕ
key_of id = (id.mag * 0x100 + id.page) * 0x4000 + id.sub
