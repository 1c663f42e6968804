use Rattle.std.proofs.Common.{◌∙◌, ◌≡◌, ◌++◌, ◌*◌, ◌/◌, [], ap, length, string_bytes, subst, OnOk}
use Rattle.std.specs.Prelude.{codes, replicate, slice_index_or}
use Rattle.ttx_document.proofs.Joins.{joined}
use Rattle.std.specs.Prelude.{slice_index}
use Rattle.ttx_counter.specs.Counters.{flipped}
use Rattle.ttx_failure.specs.NamedPackets.{named}
use Rattle.ttx_packet.specs.Slots.{kind_of}
use Rattle.ttx_failure.specs.Hits.{slot_text, kind_text, bytes_text}
use Rattle.ttx_failure.proofs.hits.push_slot.Goals as goal

pub returns : goal.returns
unfolding slot_text
returns c =
    joined c.push_bytes.result _ _ _ (kind_text (named (kind_of c.args.slot.now)) c.args.hit.byte) (bytes_text (slice_index c.args.slot.now c.args.hit.byte) (flipped c.args.hit.bit (slice_index c.args.slot.now c.args.hit.byte))) (c.in_ok-push_kind.ensures ∙ ap (λ n. string_bytes c.args.text.now ++ kind_text n c.args.hit.byte) c.named.ensures)
    (subst (λ s. OnOk c.push_bytes.result (string_bytes c.push_bytes.new.text ≡ string_bytes c.push_kind.new.text
    ++ bytes_text s (flipped c.args.hit.bit s))) c.byte_of-sent.ensures
    (subst (λ b. OnOk c.push_bytes.result (string_bytes c.push_bytes.new.text ≡ string_bytes c.push_kind.new.text
    ++ bytes_text c.byte_of-sent.result b)) c.flipped.ensures c.push_bytes.ensures))
