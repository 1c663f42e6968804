use Rattle.std.proofs.Common.{◌≡◌, ◌++◌, drop, flat_map, string_bytes}
use Rattle.ttx_extract.specs.ServiceTexts.{next_link}
use Rattle.ttx_extract.proofs.page_texts.push_next.Given as goal

abbrev pub invariant-loop-link : goal.invariant-loop-link
invariant-loop-link l = string_bytes l.text ++ flat_map next_link (drop l.link-index l.links) ≡ string_bytes l.fn.text ++ flat_map next_link l.links
