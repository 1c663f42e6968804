use Rattle.ttx_playout.proofs.EditionValues.{edition_is}
use Rattle.ttx_playout.proofs.on_air.has_ranges.Goals as goal

pub returns : goal.returns
returns c = edition_is c.pages_keep_their_rules.ensures c.certificates_keep_their_rules.ensures c.args.edition.now c.pages.result.now
    c.pages.ensures.value
