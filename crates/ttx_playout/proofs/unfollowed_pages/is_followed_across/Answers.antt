use Rattle.std.proofs.Common.{◌≡◌, ◌-◌, negsuc, pos, [], length, get_or, refl, sym, ap, ◌∙◌, subst}
use Rattle.ttx_cycle.specs.Cycles.{slots_of, slots_of-IsCycle}
use Rattle.ttx_page.specs.Packets.{packet_of}
use Rattle.ttx_page.specs.Streams.{repeated, heads_page, IsLatestHeader}
use Rattle.ttx_proof.specs.Seams.{TellsLatest}
use Rattle.ttx_proof.proofs.LatestHeaderBefore.{back_is}
use Rattle.ttx_playout.proofs.AcrossOneChange.{another_last, decided_by}
use Rattle.ttx_playout.proofs.unfollowed_pages.is_followed_across.Goals as goal

pub returns-then-not-heads_page : goal.returns-then-not-heads_page
returns-then-not-heads_page c =
    let old = slots_of c.args.old.now in
    let page = c.args.page in
    let back = c.in-Some.back in
    let e = c.slots-slots.ensures.slots in
    let told = subst (TellsLatest old c.mag.result) c.in-Some.is c.latest_header.ensures in
    let latest = subst (λ m. IsLatestHeader (repeated old) m (negsuc back) (pos 0)) c.mag.ensures.value told.1 in
    let slot : get_or c.slots-slots.result.now (length c.slots-slots.result.now - 1 - back) [] ≡ repeated old (negsuc back)
    = ap (λ s. get_or s (length s - 1 - back) []) e ∙ sym (back_is old page.mag back told.0) in
    let own = sym (ap (λ x. heads_page page (packet_of x)) slot) ∙ sym c.heads_page.ensures ∙ c.if-not-heads_page.true in
    ((λ _. another_last old (slots_of c.args.new.now) page c.args.gap back latest own), (λ _. refl))

pub returns-else-not-heads_page : goal.returns-else-not-heads_page
returns-else-not-heads_page c =
    let old = slots_of c.args.old.now in
    let new = slots_of c.args.new.now in
    let page = c.args.page in
    let back = c.in-Some.back in
    let e = c.slots-slots.ensures.slots in
    let told = subst (TellsLatest old c.mag.result) c.in-Some.is c.latest_header.ensures in
    let latest = subst (λ m. IsLatestHeader (repeated old) m (negsuc back) (pos 0)) c.mag.ensures.value told.1 in
    let slot : get_or c.slots-slots.result.now (length c.slots-slots.result.now - 1 - back) [] ≡ repeated old (negsuc back)
    = ap (λ s. get_or s (length s - 1 - back) []) e ∙ sym (back_is old page.mag back told.0) in
    let own = sym (ap (λ x. heads_page page (packet_of x)) slot) ∙ sym c.heads_page.ensures ∙ c.if-not-heads_page.false in
    let k = decided_by old new page c.args.gap back latest own c.each_slot_turns.ensures (slots_of-IsCycle c.args.new.now).some in
    ((λ y. k.0 (c.ends_in_time.ensures.0 y)), (λ across. c.ends_in_time.ensures.1 (k.1 across)))
