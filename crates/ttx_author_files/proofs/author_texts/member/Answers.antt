use Rattle.toml.proofs.Views.{table_get}
use Rattle.ttx_author_files.proofs.author_texts.member.Goals as goal

pub returns : goal.returns
returns c = table_get c.get.result c.args.key.now c.args.table.now.entries c.get.ensures.value
