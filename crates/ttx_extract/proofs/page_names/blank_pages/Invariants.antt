use Rattle.std.proofs.Common.{◌≡◌, take}
use Rattle.ttx_page.specs.Views.{ids_of}
use Rattle.ttx_extract.proofs.Lists.{Before}
use Rattle.ttx_extract.proofs.page_names.blank_pages.Given as goal

abbrev pub invariant-loop-index : goal.invariant-loop-index
invariant-loop-index l = record {
  pages : ids_of l.pages.items ≡ take l.index l.ids;
  subs : Before (λ id. id.sub ≡ 0x3f7f → ⊥) l.ids l.index;
}
