use Rattle.std.proofs.Common.{◌≡◌, ◌++◌, drop, map, string_bytes}
use Rattle.ttx_page.specs.Views.{page_of}
use Rattle.ttx_tool.specs.PreviewAll.{pages_part}
use Rattle.ttx_tool.proofs.commands.preview_all.pages_text.Given as goal

abbrev pub invariant-loop-page : goal.invariant-loop-page
invariant-loop-page l = string_bytes l.text ++ pages_part l.form l.reveal (map page_of (drop l.page-index l.pages))
    ≡ pages_part l.form l.reveal (map page_of l.pages)
