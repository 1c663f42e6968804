use Rattle.std.proofs.Common.{◌≡◌, ◌∙◌, ℕ, ◌-◌, List, ◌++◌, length, drop, slice_range, ap, sym, arith, take_all, length-drop}
use Rattle.std.proofs.lemmas.List.Folds.{drop_split}
use Rattle.ttx_header.specs.Headers.{id_of, control_of}
use Rattle.ttx_page.specs.Packets.{Header}
use Rattle.ttx_page.specs.Views.{memory_of}
use Rattle.ttx_receiver.specs.Tuning.{tuned_after}
use Rattle.ttx_receiver.proofs.tuning.Tuning.take_header_bytes.Goals as goal

-- bytes 10 to 33 and bytes 34 to 41 are the text from byte 10 on
text_and_clock : (s : List ℕ) → length s ≡ 42 → slice_range s 10 34 ++ slice_range s 34 42 ≡ drop 10 s
text_and_clock s e =
    let long : length (drop 34 s) ≡ 8 = length-drop 34 s ∙ ap (λ n. n - 34) e in
    ap (λ x. slice_range s 10 34 ++ x) (take_all 8 (drop 34 s) (omega arith)) ∙ sym (drop_split s 10 34 (omega arith))

pub returns-in-Some : goal.returns-in-Some
returns-in-Some c =
    let after = tuned_after c.args.self.now c.args.choice (memory_of c.args.memory.now) in
    let bytes = c.args.bytes.now in
    c.take_header.ensures
    ∙ ap (λ h. after (Header h.id h.control (h.text ++ h.clock))) c.in-Some.ensures.1
    ∙ ap (λ t. after (Header (id_of bytes) (control_of bytes) t)) (text_and_clock bytes c.told-bytes)
