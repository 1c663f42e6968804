-- The text of a certificate (profile): its lines, each ended by 0A, one space between words, numbers in decimal without leading
-- zeros.
--
--   item_text, starts_text, entry_text  a line for each item of a page for which starts are named
--   title, class_text       the first line, and the class of receivers
--   head_text, certificate_text         the lines before the entries; the whole text
use Rattle.std.specs.Prelude.{ℕ, List, [], ◌∷◌, ◌++◌, codes}
use Rattle.std.specs.Fmt.{decimal}
use Rattle.ttx_digits.specs.PageIds.{id_text}
use Rattle.ttx_page.specs.declared.item.Item.{Item}
use Rattle.ttx_page.specs.declared.item.Item.TheVariants.{Head as TheHead, Row as TheRow, Links as TheLinks}
use Rattle.ttx_page.specs.declared.class.Class.{Class}
use Rattle.ttx_page.specs.declared.class.Class.TheVariants.{Any, Clearing}
use Rattle.ttx_certificate.specs.Entries.{EntryFields, CertificateFields}

abbrev pub item_text : Item → List ℕ
item_text TheHead = codes " head"
item_text (TheRow n) = codes " row " ++ decimal n
item_text TheLinks = codes " links"

-- starts, each after a space
abbrev pub starts_text : List ℕ → List ℕ
starts_text [] = []
starts_text (start ∷ starts) = (32 ∷ decimal start) ++ starts_text starts

-- the page, the item and the starts
abbrev pub entry_text : EntryFields → List ℕ
entry_text e = id_text e.page ++ item_text e.item ++ starts_text e.starts

-- the lines of entries
abbrev pub entries_text : List EntryFields → List ℕ
entries_text [] = []
entries_text (e ∷ es) = (entry_text e ++ 10 ∷ []) ++ entries_text es

-- version 1 is for receivers that may clear the page, version 2 names the class of those that surely do
abbrev pub class_text : Class → List ℕ
class_text Any = codes "ttx certificate 1" ++ 10 ∷ []
class_text Clearing = codes "ttx certificate 2" ++ 10 ∷ codes "class clearing" ++ 10 ∷ []

-- a word, a number and the line's end
abbrev pub number_text : List ℕ → ℕ → List ℕ
number_text key n = key ++ 32 ∷ decimal n ++ 10 ∷ []

abbrev pub head_text : CertificateFields → List ℕ
head_text w =
    class_text w.class ++ number_text (codes "lines") w.lines ++ number_text (codes "repeat") w.repeat
    ++ number_text (codes "deadline") w.deadline

abbrev pub certificate_text : CertificateFields → List ℕ
certificate_text w = head_text w ++ entries_text w.entries
