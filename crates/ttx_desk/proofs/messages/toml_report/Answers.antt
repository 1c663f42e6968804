use Rattle.std.proofs.Common.{◌∙◌, ◌++◌, ap, arith}
use Rattle.ttx_desk.specs.MistakeLines.{place_words, toml_words}
use Rattle.ttx_desk.proofs.messages.toml_report.Goals as goal

pub returns : goal.returns
returns c =
    let start = c.in-Some.span.start in
    let words = c.message.result.now in
    record {
      place = start;
      words = words;
      within = (let r = c.in-Some.ensures.range in let s = c.in-Err.ensures.span in
          let a = r.0 in let b = s.0 in let d = s.1 in omega arith);
      is = c.in_ok-push_not_toml.ensures
          ∙ ap (λ m. m ++ toml_words words) (c.in_ok-push_place.ensures ∙ ap (λ m. m ++ place_words c.args.file.now c.args.text.now start) c.new-report.ensures.bytes);
    }
