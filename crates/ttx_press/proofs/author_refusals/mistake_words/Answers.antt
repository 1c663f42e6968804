use Rattle.std.proofs.Common.{◌∙◌, ◌++◌, codes, ap}
use Rattle.ttx_press.specs.AuthorRefusals.{position_words}
use Rattle.ttx_press.proofs.author_refusals.mistake_words.Goals as goal

pub returns : goal.returns
returns c =
    let place = c.in_ok-place.place in
    let said = c.in_ok-push_fault.ensures.0 in
    let front = position_words c.args.text.now place in
    record {
      place = place;
      said = said;
      stands = c.in_ok-place.ensures;
      says = c.in_ok-push_fault.ensures.1;
      words_are = c.in_ok-push_fault.ensures.2
          ∙ ap (λ m. m ++ said) (c.in_ok-push_str.ensures.bytes
          ∙ ap (λ m. m ++ codes ": ") (c.in_ok-push_position_in.ensures ∙ ap (λ m. m ++ front) c.new-words.ensures.bytes));
    }
