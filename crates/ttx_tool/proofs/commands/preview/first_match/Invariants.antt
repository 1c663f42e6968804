use Rattle.std.proofs.Common.{◌≡◌, map, drop}
use Rattle.ttx_page.specs.Views.{page_of}
use Rattle.ttx_tool.specs.Preview.{first_match}
use Rattle.ttx_tool.proofs.commands.preview.first_match.Given as goal

abbrev pub invariant-loop-page : goal.invariant-loop-page
invariant-loop-page l =
    first_match l.selection (map page_of (drop l.page-index l.pages)) ≡ first_match l.selection (map page_of l.pages)
