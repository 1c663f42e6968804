use Rattle.std.proofs.Common.{◌≡◌, ◌++◌, drop, string_bytes}
use Rattle.ttx_counter.specs.CounterTexts.{numbers_text, links_numbers}
use Rattle.ttx_counter.proofs.writer.push_links.Given as goal

abbrev pub invariant-loop-link : goal.invariant-loop-link
invariant-loop-link l = string_bytes l.text ++ numbers_text (links_numbers (drop l.link-index l.links)) ≡ string_bytes l.initial.text
    ++ numbers_text (links_numbers l.links)
