-- Values of JSON objects, and their lines.
--
--   line                    the line of an object
--   row_name, item_name, class_name     a row; an item; a class of receivers
use Rattle.std.specs.Prelude.{ℕ, List, ◌++◌, codes}
use Rattle.std.specs.Fmt.{decimal}
use Rattle.ttx_json.specs.Objects.{Member, object_line}
use Rattle.ttx_page.specs.declared.class.Class.{Class}
use Rattle.ttx_page.specs.declared.class.Class.TheVariants.{Any, Clearing}
use Rattle.ttx_page.specs.declared.item.Item.{Item}
use Rattle.ttx_page.specs.declared.item.Item.TheVariants.{Head, Row, Links}

unfoldable pub row_name : ℕ → List ℕ
row_name number = codes "row " ++ decimal number

abbrev pub item_name : Item → List ℕ
item_name Head = codes "head"
item_name (Row number) = row_name number
item_name Links = codes "links"

abbrev pub class_name : Class → List ℕ
class_name Any = codes "any"
class_name Clearing = codes "clearing"

-- opaque, so that proofs compare members and not texts
unfoldable pub line : List Member → List ℕ
line members = object_line members
