use Rattle.std.proofs.Common.{sym, ◌∙◌}
use Rattle.ttx_links.proofs.reader.read_link.Goals as goal

pub returns-then-is_readable : goal.returns-then-is_readable
returns-then-is_readable c = (sym c.is_readable.ensures ∙ c.if-is_readable.true, c.link_at.ensures)
