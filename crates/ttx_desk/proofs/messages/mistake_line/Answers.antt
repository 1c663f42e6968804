use Rattle.std.proofs.Common.{◌∙◌, ◌++◌, ◌∷◌, [], ap}
use Rattle.ttx_desk.specs.MistakeLines.{place_words}
use Rattle.ttx_desk.proofs.messages.mistake_line.Goals as goal

pub returns : goal.returns
returns c =
    let author = c.args.author.now in
    let place = c.in_ok-place.place in
    let words = c.in_ok-push_fault.ensures.0 in
    record {
      place = place;
      words = words;
      stands = c.in_ok-place.ensures;
      says = c.in_ok-push_fault.ensures.1;
      is = c.in_ok-push_str.ensures.bytes
          ∙ ap (λ m. m ++ 10 ∷ []) (c.in_ok-push_fault.ensures.2
          ∙ ap (λ m. m ++ words) (c.in_ok-push_place_in.ensures
          ∙ ap (λ m. m ++ place_words author.file.now author.text.now place) c.new-line.ensures.bytes));
    }
