-- The item in the first words of what follows the id, and the numbers after it.
use Rattle.std.proofs.Common.{◌≡◌, ℕ, ◌<◌, List, [], ◌∷◌, length, true, false, codes, Option, Some, None, option_map, refl, sym, ap, ◌∙◌, arith}
use Rattle.std.specs.Str.{bytes_eq}
use Rattle.ttx_header.specs.Ids.{Id}
use Rattle.ttx_page.specs.declared.item.Item.{Item}
use Rattle.ttx_page.specs.declared.item.Item.TheVariants.{Head as TheHead, Row as TheRow, Links as TheLinks}
use Rattle.ttx_digits.specs.Digits.{number_in_word}
use Rattle.ttx_certificate.specs.Entries.{entry_at}
use Rattle.ttx_certificate.specs.CertificateReading.{words_in, row_in, item_in, before_numbers, numbers_in, with_item, with_starts, entry_in}
use Rattle.ttx_certificate.specs.WrittenEntries.{first_number, followed_by, followed}
use Rattle.ttx_certificate.proofs.LineShapes.{some_parts, one_at_least}

abbrev as_row : ℕ × List (List ℕ) → Item × List (List ℕ)
as_row p = (TheRow p.0, p.1)

row_with : (o : Option ℕ) (words : List (List ℕ)) →
    option_map {U = Item × List (List ℕ)} (λ n. (TheRow n, words)) o ≡ option_map as_row (option_map {U = ℕ × List (List ℕ)} (λ n. (n, words)) o)
row_with None words = refl
row_with (Some n) words = refl

-- a row is the first number
row_by_number : (words : List (List ℕ)) → row_in words ≡ option_map as_row (first_number words)
row_by_number [] = refl
row_by_number (word ∷ words) = row_with (number_in_word word) words

-- words follow an item before a text
pub followed_text : (item : Item) (text : List ℕ) → followed_by item (words_in text) ≡ Some (item, words_in text)
followed_text item text = more (words_in text) (some_parts 32 text)
  where
    more : (words : List (List ℕ)) → 0 < length words → followed_by item words ≡ Some (item, words)
    more [] some = absurd (omega arith)
    more (word ∷ words) some = refl

-- a row by its number, before more words
pub row_followed : (text rest : List ℕ) (n : ℕ) → Some (n, words_in rest) ≡ first_number (words_in text) →
    Some (TheRow n, words_in rest) ≡ followed (row_in (words_in text))
row_followed text rest n is =
    sym (ap followed (row_by_number (words_in text) ∙ ap (option_map as_row) (sym is)) ∙ followed_text (TheRow n) rest)

-- the items that have names, before more words
pub head_followed : (text word rest : List ℕ) → words_in text ≡ word ∷ words_in rest → bytes_eq word (codes "head") ≡ true →
    Some (TheHead, words_in rest) ≡ followed (item_in (words_in text))
head_followed text word rest is head =
    let here : followed (item_in (word ∷ words_in rest)) ≡ followed_by TheHead (words_in rest) = rw head refl in
    sym (ap (λ words. followed (item_in words)) is ∙ here ∙ followed_text TheHead rest)

pub links_followed : (text word rest : List ℕ) → words_in text ≡ word ∷ words_in rest → bytes_eq word (codes "head") ≡ false →
    bytes_eq word (codes "links") ≡ true → Some (TheLinks, words_in rest) ≡ followed (item_in (words_in text))
links_followed text word rest is head links =
    let here : followed (item_in (word ∷ words_in rest)) ≡ followed_by TheLinks (words_in rest) = rw (head, links) refl in
    sym (ap (λ words. followed (item_in words)) is ∙ here ∙ followed_text TheLinks rest)

abbrev pub numbers_after : Option (ℕ × List (List ℕ)) → Option (List ℕ)
numbers_after None = None
numbers_after (Some p) = option_map (λ ns. p.0 ∷ ns) (numbers_in p.1)

numbers_with : (o : Option ℕ) (words : List (List ℕ)) → before_numbers o (numbers_in words) ≡ numbers_after (option_map {U = ℕ × List (List ℕ)} (λ n. (n, words)) o)
numbers_with None words = refl
numbers_with (Some n) words = refl

-- numbers are the first number and those after it
pub numbers_by_first : (text : List ℕ) → numbers_in (words_in text) ≡ numbers_after (first_number (words_in text))
numbers_by_first text = by_first (words_in text) (some_parts 32 text)
  where
    by_first : (words : List (List ℕ)) → 0 < length words → numbers_in words ≡ numbers_after (first_number words)
    by_first [] some = absurd (omega arith)
    by_first (word ∷ words) some = numbers_with (number_in_word word) words

followed_starts : (page : Id) (item : Item) (words : List (List ℕ)) → with_starts page (Some (item, words)) ≡ with_starts page (followed_by item words)
followed_starts page item [] = refl
followed_starts page item (word ∷ words) = refl

-- an item without more words has no starts
pub starts_of_followed : (page : Id) (o : Option (Item × List (List ℕ))) → with_starts page o ≡ with_starts page (followed o)
starts_of_followed page None = refl
starts_of_followed page (Some p) = followed_starts page p.0 p.1

-- the line of an entry, by its parts
pub entry_shape : (words rest : List (List ℕ)) (text : List ℕ) (page : Id) (item : Item) (starts : List ℕ) →
    entry_in words ≡ with_item (Some page) rest → Some (item, words_in text) ≡ followed (item_in rest) →
    Some starts ≡ numbers_in (words_in text) → Some (entry_at page item starts) ≡ entry_in words
entry_shape words rest text page item starts page_is item_is starts_are =
    sym (page_is ∙ starts_of_followed page (item_in rest) ∙ ap (with_starts page) (sym item_is)
    ∙ ap (option_map (λ starts. entry_at page item starts)) (one_at_least (words_in text) (some_parts 32 text) ∙ sym starts_are))
