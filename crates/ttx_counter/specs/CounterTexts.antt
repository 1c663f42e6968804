-- The text of a counter-run (profile): lines that end in 0A, each a word and its numbers, one space before each number, numbers in
-- decimal without leading zeros.
--
--   numbers_text, line_text         numbers, each after a space; a line
--   yes_as_one, bits, target_numbers, links_numbers, hits_numbers    flags, links and hits as numbers
--   row_lines, state_text, links_lines, memory_text         the lines of rows, and of a memory
--   choices_text, hits_text, title, head_lines, tuning_text, counter_text    the lines after the memory and before it; the whole text
use Rattle.std.specs.Prelude.{ℕ, Bool, List, [], ◌∷◌, ◌++◌, codes, length, Option, Some, None, if◌then◌else◌}
use Rattle.std.specs.Fmt.{decimal}
use Rattle.ttx_header.specs.Ids.{Id}
use Rattle.ttx_page.specs.Memories.{Memory}
use Rattle.ttx_counter.specs.Counters.{Hit, CounterRun}

-- numbers, each after a space
abbrev pub numbers_text : List ℕ → List ℕ
numbers_text [] = []
numbers_text (n ∷ ns) = (32 ∷ decimal n) ++ numbers_text ns

-- a word and its numbers
abbrev pub line_text : List ℕ → List ℕ → List ℕ
line_text word ns = word ++ numbers_text ns ++ 10 ∷ []

-- 1 for true, 0 for false
abbrev pub yes_as_one : Bool → ℕ
yes_as_one b = if b then 1 else 0

abbrev pub bits : List Bool → List ℕ
bits [] = []
bits (b ∷ bs) = yes_as_one b ∷ bits bs

-- magazine, page and subcode; three zeros for no link
abbrev pub target_numbers : Option Id → List ℕ
target_numbers None = 0 ∷ 0 ∷ 0 ∷ []
target_numbers (Some id) = id.mag ∷ id.page ∷ id.sub ∷ []

abbrev pub links_numbers : List (Option Id) → List ℕ
links_numbers [] = []
links_numbers (link ∷ links) = target_numbers link ++ links_numbers links

-- slot, byte and bit
abbrev pub hits_numbers : List Hit → List ℕ
hits_numbers [] = []
hits_numbers (h ∷ hits) = h.index ∷ h.byte ∷ h.bit ∷ hits_numbers hits

-- rows 0 to 24, each with the codes of its 40 characters
abbrev pub row_lines : List (List ℕ) → List ℕ
row_lines [] = []
row_lines (row ∷ rows) = line_text (codes "row") row ++ row_lines rows

-- control bits as one number, with C4 as its lowest bit
unfoldable pub state_text : Memory → List ℕ
state_text m =
    line_text (codes "control") (m.control ∷ []) ++ line_text (codes "storing") (yes_as_one m.storing ∷ []) ++ line_text (codes "age") (m.age ∷ [])
    ++ line_text (codes "fresh") (yes_as_one m.fresh ∷ [])

-- whether row 24 is shown, and the six links
unfoldable pub links_lines : Memory → List ℕ
links_lines m = line_text (codes "row-24") (yes_as_one m.links.show24 ∷ []) ++ line_text (codes "links") (links_numbers m.links.six)

abbrev pub memory_text : Memory → List ℕ
memory_text m = state_text m ++ links_lines m ++ row_lines m.rows

-- how many there are, and a bit for each
abbrev pub choices_text : List Bool → List ℕ
choices_text choices = line_text (codes "choices") (length choices ∷ bits choices)

-- how many there are, and three numbers for each
abbrev pub hits_text : List Hit → List ℕ
hits_text hits = line_text (codes "hits") (length hits ∷ hits_numbers hits)

abbrev pub title : List ℕ
title = codes "ttx counter 1" ++ 10 ∷ []

-- the title, and the numbers of the certificates that it refutes
unfoldable pub head_lines : CounterRun → List ℕ
head_lines c =
    title ++ line_text (codes "lines") (c.lines ∷ []) ++ line_text (codes "repeat") (c.repeat ∷ [])
    ++ line_text (codes "deadline") (c.deadline ∷ [])

-- the page, the selection and the slots
unfoldable pub tuning_text : CounterRun → List ℕ
tuning_text c =
    line_text (codes "page") (c.page ∷ []) ++ line_text (codes "any-subpage") (yes_as_one c.any_sub ∷ []) ++ line_text (codes "start") (c.start ∷ [])
    ++ line_text (codes "slots") (c.slots ∷ [])

abbrev pub counter_text : CounterRun → List ℕ
counter_text c = head_lines c ++ tuning_text c ++ memory_text c.former ++ choices_text c.choices ++ hits_text c.hits
