use Rattle.std.proofs.Common.{◌≡◌, ℕ, List, ◌∙◌, ◌++◌, [], ap, sym, map, replicate, if◌then◌else◌}
use Rattle.ttx_code.specs.Words.{hamming_word}
use Rattle.ttx_header.specs.Fields.{fields_at}
use Rattle.ttx_header.specs.Headers.{numbers_of}
use Rattle.ttx_header.specs.Ids.{id_at}
use Rattle.ttx_header.proofs.writer.time_fill.Goals as goal
use Rattle.ttx_header.proofs.writer.time_fill.Goals.{then-serial, else-serial}

pub returns : goal.returns
returns c =
    let control : c.if-serial.control ≡ (if c.args.serial then 128 else 0) = elim c.if-serial.branch [
      | then-serial w ↦ w.control-is ∙ ap (λ s. if s then 128 else 0) (sym w.if-serial.true)
      | else-serial w ↦ w.control-is ∙ ap (λ s. if s then 128 else 0) (sym w.if-serial.false)
    ] in
    let words : ℕ → List ℕ = λ control. map hamming_word (numbers_of (fields_at (id_at c.args.mag 0xff 0x3f7f) control [] [])) in
    c.joined.ensures ∙ ap (λ w. (w ++ replicate 24 32) ++ replicate 8 32) (c.words_of-words.ensures ∙ ap words control)
