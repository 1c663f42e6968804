use Rattle.std.proofs.Common.{◌≡◌, ◌<◌, ◌≤◌, [], length, get_or, Some, None, sym, ap, ◌∙◌, subst, arith}
use Rattle.ttx_cycle.specs.Cycles.{slots_of}
use Rattle.ttx_page.specs.Packets.{packet_of}
use Rattle.ttx_extract.specs.FirstPackets.{header_serial}
use Rattle.ttx_extract.proofs.FirstSerial.{found, none_yet, none}
use Rattle.ttx_extract.proofs.serial.first_serial.Goals as goal

pub returns-in-Some : goal.returns-in-Some
returns-in-Some c =
    let slots = slots_of c.args.cycle.now in
    let i = c.loop-slot.slot in
    let same = c.slots-slots.ensures.slots in
    let lt : i < length slots = subst (λ s. i < length s) same c.loop-slot-test.true in
    let is : header_serial (packet_of (get_or slots i [])) ≡ Some c.in-Some.is_serial =
    subst (λ s. header_serial (packet_of (get_or s i [])) ≡ Some c.in-Some.is_serial) same (sym c.header_serial.ensures ∙ c.in-Some.is) in
    sym (found slots i c.loop-slot.invariant lt c.in-Some.is_serial is)

pub loop-slot-preserved : goal.loop-slot-preserved
loop-slot-preserved c =
    let slots = slots_of c.args.cycle.now in
    let i = c.loop-slot.slot in
    let same = c.slots-slots.ensures.slots in
    let lt : i < length slots = subst (λ s. i < length s) same c.loop-slot-test.true in
    let is : header_serial (packet_of (get_or slots i [])) ≡ None =
    subst (λ s. header_serial (packet_of (get_or s i [])) ≡ None) same (sym c.header_serial.ensures ∙ c.in_default.is) in
    none_yet slots i c.loop-slot.invariant lt is

pub returns : goal.returns
returns c =
    let slots = slots_of c.args.cycle.now in
    let past : length slots ≤ c.loop-slot.slot = let l = ap length c.slots-slots.ensures.slots in let t = c.loop-slot-test.false in omega arith in
    sym (none slots c.loop-slot.slot c.loop-slot.invariant past)
