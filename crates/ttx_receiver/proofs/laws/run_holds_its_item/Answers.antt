use Rattle.ttx_receiver.proofs.ItemIsHeld.{run_holds_its_item}
use Rattle.ttx_receiver.proofs.laws.run_holds_its_item.Goals as goal

pub returns : goal.returns
returns c =
    run_holds_its_item (record {
      kind = c.kind_is_kept.ensures;
      numbered = c.rows_are_numbered.ensures;
      header = c.header_is_kept.ensures;
      links = c.links_are_kept.ensures;
      odd = c.odd_bytes_under_one_wrong_bit.ensures;
      codes = c.odd_bytes_hold_their_codes.ensures;
    })
