use Rattle.std.proofs.Common.{◌≡◌, ◌++◌, drop, string_bytes}
use Rattle.ttx_lines.specs.Texts.{link_ids_text}
use Rattle.ttx_lines.proofs.texts.push_links.Given as goal

abbrev pub invariant-loop-link : goal.invariant-loop-link
invariant-loop-link l = string_bytes l.text ++ link_ids_text (drop l.link-index l.links) ≡ string_bytes l.initial.text ++ link_ids_text l.links
