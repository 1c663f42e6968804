use Rattle.ttx_desk.proofs.places.mistake_place.Goals as goal

pub returns : goal.returns
returns c = (c.in_ok-mark.mark, c.in_ok-mark.ensures, c.place_behind.ensures)
