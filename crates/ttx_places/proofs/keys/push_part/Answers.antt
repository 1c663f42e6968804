use Rattle.std.proofs.Common.{◌≡◌, ◌∙◌, ◌++◌, [], ◌∷◌, ℕ, List, ap, arith, length, refl, string_bytes, sym, encode_utf8}
use Rattle.std.proofs.lemmas.List.{append-nil, append_assoc}
use Rattle.std.specs.Str.Iter.{chars_rest}
use Rattle.ttx_places.specs.Paths.{escaped}
use Rattle.ttx_places.proofs.Escapes.{escaped_append}
use Rattle.ttx_places.proofs.keys.push_part.Goals as goal

none : (text : List ℕ) → length text ≡ 0 → text ≡ []
none [] e = refl
none (c ∷ text) e = absurd (omega arith)

pub loop-sign-preserved : goal.loop-sign-preserved
loop-sign-preserved c =
    let l = c.loop-sign in
    let rest = chars_rest c.next.new.self in
    ap (λ z. z ++ escaped rest) c.in_ok-push_sign.ensures ∙ append_assoc (string_bytes l.path) (escaped (encode_utf8 c.in-Some.sign)) (escaped rest)
    ∙ ap (λ z. string_bytes l.path ++ z) (sym (escaped_append (encode_utf8 c.in-Some.sign) rest) ∙ ap escaped (sym c.in-Some.ensures.steps.0)) ∙ l.invariant

pub returns : goal.returns
unfolding escaped
returns c =
    let l = c.loop-sign in
    sym (append-nil (string_bytes l.path)) ∙ ap (λ z. string_bytes l.path ++ escaped z) (sym (none (chars_rest l.sign-iterator) c.in-None.ensures.steps.0.0)) ∙ l.invariant
