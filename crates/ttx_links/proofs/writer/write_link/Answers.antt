use Rattle.std.proofs.Common.{◌%◌, ◌∙◌, ap, sym, arith}
use Rattle.ttx_links.specs.Sets.{link_bytes}
use Rattle.ttx_links.proofs.Magazines.{xor_below_8}
use Rattle.ttx_links.proofs.writer.write_link.Goals as goal

pub link_words-requires-clause-m : goal.link_words-requires-clause-m
link_words-requires-clause-m c = xor_below_8 (c.args.mag % 8) (c.mag.result % 8) (omega arith) (omega arith)

pub returns-in-None : goal.returns-in-None
returns-in-None c = c.link_words-in-None.ensures ∙ ap (link_bytes c.args.mag) (sym c.in-None.is)
