use Rattle.std.proofs.Common.{◌∙◌, ap}
use Rattle.ttx_source.proofs.RowTable.{seen}
use Rattle.ttx_source.proofs.KeyPlaces.{value_at}
use Rattle.ttx_source.proofs.page_entries.PageEntries.member.Goals as goal

pub returns : goal.returns
returns c = ap seen c.index-values-place.is ∙ value_at _ _ c.place.result _ _ c.place.ensures.most c.place.ensures.name c.requires
