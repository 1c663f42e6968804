use Rattle.ttx_receiver.proofs.StarvedStays.{starved_stays_wrong}
use Rattle.ttx_receiver.proofs.laws.starved_stays_wrong.Goals as goal

pub returns : goal.returns
returns c =
    starved_stays_wrong (record {
      below = record {
        kind = c.kind_is_kept.ensures;
        numbered = c.rows_are_numbered.ensures;
        header = c.header_is_kept.ensures;
        links = c.links_are_kept.ensures;
        odd = c.odd_bytes_under_one_wrong_bit.ensures;
        codes = c.odd_bytes_hold_their_codes.ensures;
      };
      shown = c.page_is_shown.ensures;
      goes_on = c.runs_go_on.ensures;
    })
