use Rattle.std.proofs.Common.{◌∙◌}
use Rattle.ttx_source.proofs.PageArray.{are_tables-view}
use Rattle.ttx_source.proofs.reader.are_tables.Goals as goal

pub returns : goal.returns
returns c = c.each_is_table.ensures ∙ are_tables-view c.args.values.now
