use Rattle.std.proofs.Common.{◌≡◌, ℕ, ◌+◌, ◌<◌, Bool, cond, List, [], ◌∷◌, Option, Some, None, length, take, get_or, ap, sym, ◌∙◌}
use Rattle.std.proofs.lemmas.List.{take_more}
use Rattle.std.proofs.lemmas.List.Folds.{find-append}
use Rattle.std.specs.List.{find}
use Rattle.std.specs.Option.{option_or}
use Rattle.ttx_pages.specs.Keys.{is_header_of}
use Rattle.ttx_pages.proofs.firsts.first_headers.Goals as goal

-- one slot more
find_more : (p : List ℕ → Bool) (xs : List (List ℕ)) (i : ℕ) (d : List ℕ) (old new : Option (List ℕ)) → i < length xs →
    new ≡ option_or old (cond (p (get_or xs i d)) (Some (get_or xs i d)) None) → old ≡ find p (take i xs) → new ≡ find p (take (i + 1) xs)
find_more p xs i d old new h e f =
    e ∙ (ap (λ o. option_or o (cond (p (get_or xs i d)) (Some (get_or xs i d)) None)) f
    ∙ (sym (find-append p (take i xs) (get_or xs i d ∷ [])) ∙ sym (ap (λ l. find p l) (take_more xs i d h))))

pub loop-slot-preserved : goal.loop-slot-preserved
loop-slot-preserved c = record {
  first = λ q. find_more (is_header_of q) c.args.slots.now c.loop-slot.slot-index _ _ _ c.loop-slot-test.true
      (c.in_ok-keep_first.ensures.first q) (c.loop-slot.invariant.first q);
  pages = c.in_ok-keep_first.ensures.pages c.loop-slot.invariant.pages;
}
