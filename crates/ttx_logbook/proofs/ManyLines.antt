-- One line more.
use Rattle.std.proofs.Common.{◌≡◌, ℕ, List, [], ◌∷◌, ◌++◌, map, append_assoc, sym, ap, ◌∙◌, subst}
use Rattle.std.proofs.lemmas.List.{map-append}
use Rattle.ttx_logbook.specs.LogTexts.{EntryFields, entry_text, lines_text, IsEntry, AreEntries}

are_more : (es : List EntryFields) (e : EntryFields) → AreEntries es → IsEntry e → AreEntries (es ++ e ∷ [])
are_more [] e are is = (is, tt)
are_more (first ∷ es) e are is = (are.0, are_more es e are.1 is)

lines_more : (es : List EntryFields) (e : EntryFields) (rest : List ℕ) → lines_text es ++ (entry_text e ++ 10 ∷ rest) ≡ lines_text (es ++ e ∷ []) ++ rest
lines_more [] e rest = sym (append_assoc (entry_text e) (10 ∷ []) rest)
lines_more (first ∷ es) e rest =
    append_assoc (entry_text first) (10 ∷ lines_text es) (entry_text e ++ 10 ∷ rest)
    ∙ ap (λ l. entry_text first ++ 10 ∷ l) (lines_more es e rest)
    ∙ sym (append_assoc (entry_text first) (10 ∷ lines_text (es ++ e ∷ [])) rest)

pub one_more : {A : Type 0} (f : A → EntryFields) (xs ys : List A) (x : A) (text rest more : List ℕ) → ys ≡ xs ++ x ∷ [] → AreEntries (map f xs) →
    text ≡ lines_text (map f xs) ++ rest → IsEntry (f x) → rest ≡ entry_text (f x) ++ 10 ∷ more →
    AreEntries (map f ys) × (text ≡ lines_text (map f ys) ++ more)
one_more f xs ys x text rest more pushed are so_far is first =
    let e : map f xs ++ f x ∷ [] ≡ map f ys = sym (map-append f xs (x ∷ [])) ∙ sym (ap (map f) pushed) in (
      subst AreEntries e (are_more (map f xs) (f x) are is),
      so_far ∙ ap (λ r. lines_text (map f xs) ++ r) first ∙ lines_more (map f xs) (f x) more ∙ ap (λ es. lines_text es ++ more) e,
    )
