use Rattle.std.proofs.Common.{◌≡◌, ◌∙◌, [], Some, Result, Ok, Err, IfOk, string_bytes, ap, arith}
use Rattle.ttx_source.specs.Values.{not_toml}
use Rattle.ttx_check.specs.Refusals.{error_line, place_text}
use Rattle.ttx_check.proofs.refusals.toml_line.Goals as goal

ok_map : {A E : Type 0} (P Q : A → Type 0) (r : Result A E) → ((a : A) → P a → Q a) → IfOk r P → IfOk r Q
ok_map P Q (Ok a) f h = f a h
ok_map P Q (Err e) f h = h

pub returns : goal.returns
returns c =
    let bytes = c.args.bytes.now in
    let fault = not_toml in
    let start = c.in-Some.span.start in
    let detail = c.as_str-2.result.now in
    ok_map (λ line. string_bytes line ≡ error_line c.as_str.result.now fault detail) _ c.line_of.result
    (λ line is. record {
      place = start;
      words = c.message.result.now;
      within = (let r = c.in-Some.ensures.range in let s = c.in-Err.ensures.span in
          let a = r.0 in let b = s.0 in let d = s.1 in omega arith);
      line = is ∙ ap (λ p. error_line p fault detail) (c.as_str.ensures.value ∙ c.in_ok-place.ensures)
          ∙ ap (error_line (place_text bytes (Some start) []) fault) (c.as_str-2.ensures.value ∙ c.in_ok-detail.ensures);
    })
    c.line_of.ensures
