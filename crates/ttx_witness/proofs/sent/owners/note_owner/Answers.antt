use Rattle.std.proofs.Common.{◌≡◌, ℕ, w32, false, ◌-◌, ◌<◌, ◌==◌, Bool, if◌then◌else◌, List, get_or, Option, Some, None, refl, ap, ◌∙◌, subst}
use Rattle.std.proofs.lemmas.Int.{to_z-of_z}
use Rattle.ttx_packet.specs.Slots.{kind_of}
use Rattle.ttx_witness.specs.sent.Collected.{taint}
use Rattle.ttx_witness.specs.sent.IndexedHeaders.{IsHeaderOf, IsIndexed}
use Rattle.ttx_witness.specs.declared.sent.owners.Owner.{Owner}
use Rattle.ttx_witness.proofs.lemmas.sent.OwnersAfterSlot.{header_noted, header_apart, owner_stays}
use Rattle.ttx_witness.proofs.sent.owners.note_owner.Goals as goal

noted : (mag : ℕ) (ends : Bool) (old new : List (Option Owner)) (h g : Owner) →
    ((m : ℕ) → m < 8 → get_or new m None ≡ (if m == mag - 1 then Some h else taint ends (get_or old m None))) → h ≡ g →
    (m : ℕ) → m < 8 → get_or new m None ≡ (if m == mag - 1 then Some g else taint ends (get_or old m None))
noted mag ends old new h g f e m lt = f m lt ∙ ap (λ x. if m == mag - 1 then Some x else taint ends (get_or old m None)) e

pub returns-in-Some-clause-after : goal.returns-in-Some-clause-after
returns-in-Some-clause-after c = λ ids slot read.
    let h = c.in-Some.header in
    let o : IsIndexed ids slot h = subst (IsHeaderOf ids slot) c.in-Some.is read in
    header_noted slot o.kind o.is h.id o.id c.from.result (c.from.ensures ∙ c.mag.ensures.value) h.is_serial o.serial c.args.j h.page
    c.args.owners.now c.note_header.new.owners
    (noted c.from.result h.is_serial c.args.owners.now c.note_header.new.owners _
    (record { slot = c.args.j; page = h.page; tainted = false }) c.note_header.ensures
    (c.owner_at.ensures ∙ ap (λ z. record { slot = z; page = h.page; tainted = false }) (to_z-of_z w32 c.args.j c.ranges.j)))
    ids o.finds

pub returns-in-Some-clause-apart : goal.returns-in-Some-clause-apart
returns-in-Some-clause-apart c = λ ids slot read.
    let h = c.in-Some.header in
    let o : IsIndexed ids slot h = subst (IsHeaderOf ids slot) c.in-Some.is read in
    header_apart slot o.kind o.is h.id o.id c.from.result (c.from.ensures ∙ c.mag.ensures.value) h.is_serial o.serial c.args.j h.page
    c.args.owners.now c.note_header.new.owners
    (noted c.from.result h.is_serial c.args.owners.now c.note_header.new.owners _
    (record { slot = c.args.j; page = h.page; tainted = false }) c.note_header.ensures
    (c.owner_at.ensures ∙ ap (λ z. record { slot = z; page = h.page; tainted = false }) (to_z-of_z w32 c.args.j c.ranges.j)))
    ids o.finds

pub returns-in_default-clause-after : goal.returns-in_default-clause-after
returns-in_default-clause-after c = λ ids slot read i id at is.
    owner_stays slot (kind_of slot) refl (subst (IsHeaderOf ids slot) c.in_default.is read) id c.args.j _
