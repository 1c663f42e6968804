-- A receiver's choice matters only where it has one, and a script makes a run.
use Rattle.std.proofs.Common.{◌≡◌, Bool, true, false, not, ◌&&◌, ◌||◌, ◌==◌, if◌then◌else◌, [], ◌∷◌, nat_le, refl, sym, ap}
use Rattle.ttx_header.specs.Control.{c4, c11}
use Rattle.ttx_page.specs.Packets.{Header, Row, Links, packet_of}
use Rattle.ttx_page.specs.Pages.{Any, Clearing, selected_mag, matches}
use Rattle.ttx_page.specs.Memories.{Memory, memory_row}
use Rattle.ttx_page.specs.Receivers.{older, erased, begun, with_storing, with_row, with_links, stored_row, after, has_choice, next_choice}
use Rattle.ttx_page.specs.Receivers.{later_choices}
use Rattle.ttx_page.specs.Laws.{EachListRuns, ScriptedRuns, ChoicesAreChoices}

-- a row or an X/27/0
text_kept : (m new : Memory) (here storing early : Bool) → (here && storing && early) ≡ false →
    (if here && storing && not (true && early) then new else m) ≡ (if here && storing && not (false && early) then new else m)
text_kept m new true true true h = cc
text_kept m new true true false h = refl
text_kept m new true false early h = refl
text_kept m new false storing early h = refl

-- a header of another page
other_kept : (m : Memory) (here serial storing : Bool) → m.storing ≡ storing → (not here && serial && storing) ≡ false →
    (if here then with_storing m false else (if serial && true then with_storing m false else m))
    ≡ (if here then with_storing m false else (if serial && false then with_storing m false else m))
other_kept m true serial storing e h = refl
other_kept m false true true e h = cc
other_kept m false true false e h = ap (λ b. with_storing m b) (sym e)
other_kept m false false storing e h = refl

pub choices_are_choices : ChoicesAreChoices
choices_are_choices Any lines sel m (Header id control text) h = header (matches sel id) (c4 control) m.fresh h
  where
    header : (mine erase fresh : Bool) → (if mine then fresh && not erase else not (id.mag == selected_mag sel) && c11 control && m.storing) ≡ false →
        (if mine then begun (if erase || (fresh && true) then erased m else m) control text
        else (if id.mag == selected_mag sel then with_storing m false else (if c11 control && true then with_storing m false else m)))
        ≡ (if mine then begun (if erase || (fresh && false) then erased m else m) control text
        else (if id.mag == selected_mag sel then with_storing m false else (if c11 control && false then with_storing m false else m)))
    header true true fresh h = refl
    header true false true h = cc
    header true false false h = refl
    header false erase fresh h = other_kept m (id.mag == selected_mag sel) (c11 control) m.storing refl h
choices_are_choices Clearing lines sel m (Header id control text) h = header (matches sel id) h
  where
    header : (mine : Bool) → (if mine then false && not (c4 control) else not (id.mag == selected_mag sel) && c11 control && m.storing) ≡ false →
        (if mine then begun (if c4 control || m.fresh then erased m else m) control text
        else (if id.mag == selected_mag sel then with_storing m false else (if c11 control && true then with_storing m false else m)))
        ≡ (if mine then begun (if c4 control || m.fresh then erased m else m) control text
        else (if id.mag == selected_mag sel then with_storing m false else (if c11 control && false then with_storing m false else m)))
    header true h = refl
    header false h = other_kept m (id.mag == selected_mag sel) (c11 control) m.storing refl h
choices_are_choices class lines sel m (Row mag number text) h =
    text_kept m (with_row m number (stored_row (memory_row m number) text)) (mag == selected_mag sel) m.storing (nat_le m.age lines) h
choices_are_choices class lines sel m (Links mag content) h =
    text_kept m (with_links m content) (mag == selected_mag sel) m.storing (nat_le m.age lines) h
choices_are_choices class lines sel m _ h = refl

pub each_list_runs : EachListRuns
each_list_runs class lines sel m [] = (m, refl)
each_list_runs class lines sel m (slot ∷ received) =
    let mid = after class lines sel false (older m) (packet_of slot) in
    let rest = each_list_runs class lines sel mid received in
    (rest.0, (mid, record { choice = false; is = refl }, rest.1))

pub scripted_runs : ScriptedRuns
scripted_runs class lines sel script m [] = refl
scripted_runs class lines sel script m (slot ∷ received) =
    let has = has_choice class lines sel (older m) (packet_of slot) in
    let mid = after class lines sel (next_choice has script) (older m) (packet_of slot) in
    (mid, record { choice = next_choice has script; is = refl }, scripted_runs class lines sel (later_choices has script) mid received)
