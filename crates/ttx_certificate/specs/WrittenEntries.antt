-- Entries as they are written, and what the parts of the reader return, as the definitions see them.
--
--   written_item, written_with   an item and an entry whose numbers may be out of range
--   words_after             the words of what is left of a line
--   first_number            the number in the first word, and the words after it
--   followed                an item that more words follow
use Rattle.std.specs.Prelude.{ℕ, List, [], ◌∷◌, Option, Some, None, option_map}
use Rattle.ttx_header.specs.Ids.{id_at}
use Rattle.ttx_digits.specs.Digits.{number_in_word}
use Rattle.ttx_page.specs.declared.item.Item.{Item}
use Rattle.ttx_page.specs.declared.item.Item.TheVariants.{Head as TheHead, Row as TheRow, Links as TheLinks}
use Rattle.ttx_certificate.specs.Entries.{EntryFields, entry_at}
use Rattle.ttx_certificate.specs.CertificateReading.{words_in}
use Rattle.ttx_certificate.specs.declared.written.Written.{Written}
use Rattle.ttx_certificate.specs.declared.written.WrittenItem.{WrittenItem}
use Rattle.ttx_certificate.specs.declared.written.WrittenItem.TheVariants.{Head, Row, Links}

abbrev pub written_item : WrittenItem → Item
written_item Head = TheHead
written_item (Row n) = TheRow n
written_item Links = TheLinks

-- the entry with these starts
abbrev pub written_with : Written → List ℕ → EntryFields
written_with w starts = entry_at (id_at w.mag w.page w.sub) (written_item w.item) starts

abbrev pub words_after : Option (List ℕ) → List (List ℕ)
words_after None = []
words_after (Some text) = words_in text

-- the number in the first word, and the words after it
abbrev pub first_number : List (List ℕ) → Option (ℕ × List (List ℕ))
first_number [] = None
first_number (word ∷ words) = option_map (λ n. (n, words)) (number_in_word word)

abbrev pub followed_by : Item → List (List ℕ) → Option (Item × List (List ℕ))
followed_by item [] = None
followed_by item (word ∷ words) = Some (item, word ∷ words)

-- an item that more words follow
abbrev pub followed : Option (Item × List (List ℕ)) → Option (Item × List (List ℕ))
followed None = None
followed (Some p) = followed_by p.0 p.1
