use Rattle.std.proofs.Common.{◌≡◌, ◌∙◌, ◌++◌, ◌∷◌, [], ap, arith, flat_map, length, List, ℕ, refl, string_bytes, subst, sym}
use Rattle.std.proofs.lemmas.List.{append-nil, append_assoc}
use Rattle.std.proofs.lemmas.Str.{IsUtf8-past_char, chars_past_char, chars-nil}
use Rattle.std.specs.Str.{IsUtf8, chars}
use Rattle.std.specs.Str.Iter.{chars_rest}
use Rattle.ttx_document.specs.Escapes.{escaped, escaped_text}
use Rattle.ttx_document.proofs.escapes.push_escaped.Goals as goal

none : (xs : List ℕ) → length xs ≡ 0 → xs ≡ []
none [] e = refl
none (x ∷ xs) e = absurd (omega arith)

pub loop-code-init : goal.loop-code-init
unfolding escaped_text
loop-code-init c =
    let e : chars_rest c.into_iter-code-iterator.result ≡ c.args.words.now =
    ap chars_rest c.into_iter-code-iterator.ensures.into_iter_gives ∙ c.chars-code-items.ensures.rest in
    record {
      spelled = subst IsUtf8 (sym e) c.utf8.words;
      text = ap (λ z. string_bytes c.args.text.now ++ flat_map escaped (chars z)) e;
    }

pub loop-code-preserved : goal.loop-code-preserved
loop-code-preserved c =
    let v = c.loop-code.invariant in
    let old = chars_rest c.loop-code.code-iterator in
    let new = chars_rest c.next.new.self in
    let step = c.in-Some.ensures.steps.0 in
    record {
      spelled = IsUtf8-past_char old new c.in-Some.code v.spelled step;
      text = ap (λ z. z ++ flat_map escaped (chars new)) c.in_ok-push_character.ensures
          ∙ append_assoc (string_bytes c.loop-code.text) (escaped c.in-Some.code) (flat_map escaped (chars new))
          ∙ ap (λ z. string_bytes c.loop-code.text ++ flat_map escaped z) (sym (chars_past_char old new c.in-Some.code v.spelled step)) ∙ v.text;
    }

pub returns : goal.returns
returns c =
    let e = ap (λ z. flat_map escaped (chars z)) (none (chars_rest c.loop-code.code-iterator) c.in-None.ensures.steps.0.0)
    ∙ ap (flat_map escaped) chars-nil in
    sym (append-nil (string_bytes c.loop-code.text)) ∙ ap (λ z. string_bytes c.loop-code.text ++ z) (sym e) ∙ c.loop-code.invariant.text
