use Rattle.std.proofs.Common.{◌≡◌, ◌<◌, ◌∙◌, length, slice_index_or, refl, sym, ap, rules}
use Rattle.std.proofs.lemmas.List.{get_or_default}
use Rattle.ttx_archive.specs.declared.recorded.Recorded.{Recorded}
use Rattle.ttx_broadcast.proofs.DueRecords as L
use Rattle.ttx_broadcast.proofs.recordings.log_newsroom.LogNewsroom.due.Goals as goal

pub returns-then-of-field : goal.returns-then-of-field
returns-then-of-field g c =
    let records = c.args.self.now.records.items in
    let next = c.args.self.now.next in
    let d = c.index.result.now in
    let within : next < length records = search rules in
    (refl, L.not_due records next d within c.args.field (λ same. c.if-of-field.true (ap (λ (r : Recorded). r.field) c.index.ensures ∙ same)))

pub returns : goal.returns
returns g c =
    let records = c.args.self.now.records.items in
    let next = c.args.self.now.next in
    let d = c.index-2.result.now in
    let within : next < length records = search rules in
    let other = get_or_default records next c.index.result.now d within in
    let field : (slice_index_or records next d).field ≡ c.args.field = ap (λ (r : Recorded). r.field) (sym other) ∙ sym (ap (λ (r : Recorded). r.field) c.index.ensures) ∙ c.if-of-field.false in
    (refl, L.due records next d within c.args.field d.told field (ap (λ (r : Recorded). r.told) (sym c.index-2.ensures)))
