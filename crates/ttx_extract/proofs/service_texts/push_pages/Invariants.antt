use Rattle.std.proofs.Common.{◌≡◌, ◌++◌, drop, map, string_bytes}
use Rattle.ttx_extract.specs.Drafts.{authored_of}
use Rattle.ttx_extract.specs.ServiceTexts.{pages_text}
use Rattle.ttx_extract.proofs.service_texts.push_pages.Given as goal

abbrev pub invariant-loop-page : goal.invariant-loop-page
invariant-loop-page l = string_bytes l.text ++ pages_text (map authored_of (drop l.page-index l.pages)) ≡ string_bytes l.fn.text ++ pages_text (map authored_of l.pages)
