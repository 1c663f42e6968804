-- What the cuts of a text give.
use Rattle.std.proofs.Common.{◌≡◌, ℕ, ◌<◌, ◌==◌, List, length, drop, Option, Some, None, option_map, MatchOption, Bor, true, false, sym, ap, ◌∙◌, subst, arith, eq-eqb}
use Rattle.std.proofs.lemmas.Bool.{cond-true, cond-false}
use Rattle.std.proofs.lemmas.Bool.Decides.{nat_tests}
use Rattle.std.proofs.lemmas.Str.Pattern.{starts_text}
use Rattle.std.specs.List.{starts_with, position_or_len, before_first, after_first}
use Rattle.std.specs.Str.{IsCharBoundary}
use Rattle.std.specs.Str.Pattern.{FindsTextPrefix, StripsPrefix}
use Rattle.ttx_logbook.specs.Cuts.{after, cut}

pub after_is : (key text : List ℕ) (r : Option (Bor (List ℕ))) →
    MatchOption r (FindsTextPrefix key text None) (λ x. StripsPrefix (FindsTextPrefix key) text x.now) → option_map (λ t. t.now) r ≡ after key text
unfolding after
after_is key text None lacks =
    sym (cond-false (starts_with (λ a b. a == b) text key) (Some (drop (length key) text)) None (sym (starts_text false key text lacks)))
after_is key text (Some x) strips =
    let n = strips.0 in
    let found = strips.1 in
    let boundary = subst (λ k. IsCharBoundary text k) (sym found.0) found.2 in
    let starts : true ≡ starts_with (λ a b. a == b) text key = starts_text true key text (n, found, boundary) in
    sym (cond-true (starts_with (λ a b. a == b) text key) (Some (drop (length key) text)) None (sym starts)
    ∙ ap Some (ap (λ k. drop k text) (sym found.0) ∙ sym strips.2))

pub cut_is : (mark : ℕ) (text : List ℕ) (r : Option (Bor (List ℕ) × Bor (List ℕ))) →
    MatchOption r (position_or_len (λ b. b == mark) text ≡ length text)
    (λ x. (x.0.now ≡ before_first (λ b. b == mark) text) × (x.1.now ≡ after_first (λ b. b == mark) text)
    × (position_or_len (λ b. b == mark) text < length text)) → option_map (λ p. (p.0.now, p.1.now)) r ≡ cut mark text
unfolding cut
cut_is mark text None lacks =
    sym (cond-true (position_or_len (λ b. b == mark) text == length text) None
    (Some (before_first (λ b. b == mark) text, after_first (λ b. b == mark) text)) (eq-eqb _ _ lacks))
cut_is mark text (Some x) parts =
    let within = parts.2 in
    let other : (position_or_len (λ b. b == mark) text == length text) ≡ false = grind (arith, nat_tests) in
    sym (cond-false (position_or_len (λ b. b == mark) text == length text) None
    (Some (before_first (λ b. b == mark) text, after_first (λ b. b == mark) text)) other
    ∙ ap Some (λ i. (sym parts.0 i, sym parts.1 i)))
