-- Pages and memories of the program, as the plain records of the definitions.
--
--   page_of, memory_of      a `Page` and a `PageMemory` as records
--   ids_of                  the ids of pages
use Rattle.std.specs.Prelude.{List, map}
use Rattle.ttx_header.specs.Ids.{Id}
use Rattle.ttx_page.specs.declared.page.Page.{Page as PageValue}
use Rattle.ttx_page.specs.declared.memory.PageMemory.{PageMemory}
use Rattle.ttx_page.specs.Pages.{Page, page_at}
use Rattle.ttx_page.specs.Memories.{Memory, memory_at}

abbrev pub page_of : PageValue → Page
page_of p = page_at p.id p.control.0 p.head p.rows p.links.set p.links.crc

abbrev pub memory_of : PageMemory → Memory
memory_of m = memory_at m.rows m.control.0 (record { six = m.links; show24 = m.show24 }) m.storing m.age m.fresh

abbrev pub ids_of : List PageValue → List Id
ids_of pages = map (λ p. (page_of p).id) pages
